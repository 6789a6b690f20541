-- What the code's Generals say of their texts. Assumes nothing.
use Rattle.std.specs.Prelude.{ℕ, List}
use Rattle.std.specs.Option.{option_map}
use Rattle.std.specs.Borrow.{Bor}
use Rattle.texts.specs.declared.table.Span.{Span}
use Rattle.texts.specs.Tables.{bytes_in}
use Rattle.chunk.specs.Tables.{chunks_in, release_in}
use Rattle.version.specs.Parts.{LastPart, numeric, rc, post, alphanum, Parts}
use Rattle.version.specs.declared.last.Last.{Last}
use Rattle.version.specs.declared.last.Last.TheVariants.{Numeric, Rc, Post, Alphanum}
use Rattle.version.specs.declared.version.Version.{Version}

-- the Last, with its text
abbrev pub last_in : List ℕ → Last Span → LastPart
last_in text (Numeric n) = numeric n
last_in text (Rc a s b) = rc a (bytes_in text s) b
last_in text (Post a s) = post a (bytes_in text s)
last_in text (Alphanum s) = alphanum (bytes_in text s)

-- a Last that is handed out
abbrev pub last_said : Last (Bor (List ℕ)) → LastPart
last_said (Numeric n) = numeric n
last_said (Rc a s b) = rc a s.now b
last_said (Post a s) = post a s.now
last_said (Alphanum s) = alphanum s.now

-- the parts, with their text
abbrev pub parts_in : List ℕ → Version → Parts
parts_in text v = record { epoch = v.epoch; chunks = chunks_in text v.chunks; last = last_in text v.last; release = option_map (release_in text) v.release; meta = option_map (bytes_in text) v.meta }

-- the parts and the bytes read
abbrev pub read_in : List ℕ → Version × ℕ → Parts × ℕ
read_in text x = (parts_in text x.0, x.1)
