-- What the code's chunks say, and their order. Assumes nothing.
use Rattle.std.specs.Prelude.{ℕ, Bool, List}
use Rattle.std.specs.Borrow.{Bor}
use Rattle.texts.specs.declared.table.Span.{Span}
use Rattle.texts.specs.Tables.{bytes_in}
use Rattle.parsers.specs.Places.{Part}
use Rattle.order.specs.Orders.{Order}
use Rattle.chunk.specs.declared.chunk.Chunk.{Chunk}
use Rattle.chunk.specs.declared.chunk.Chunk.TheVariants.{Numeric, Alphanum}
use Rattle.chunk.specs.declared.chunk.BySemver.{BySemver}
use Rattle.chunk.specs.Piece.{Piece, numeric, alphanum}
use Rattle.chunk.specs.Reading.{chunk_of}
use Rattle.chunk.specs.Semver.{semver_order, semver_balanced}

-- a chunk that is handed out
abbrev pub says : Chunk (Bor (List ℕ)) → Piece
says (Numeric n) = numeric n
says (Alphanum s) = alphanum s.now

-- a chunk by its place, with its text
abbrev pub piece_in : List ℕ → Chunk Span → Piece
piece_in text (Numeric n) = numeric n
piece_in text (Alphanum s) = alphanum (bytes_in text s)

-- a chunk of the class q as a part of a list: with letters a plain chunk, with letters and hyphens a release chunk
abbrev pub chunk_part : (ℕ → Bool) → Part (Chunk Span)
chunk_part q = record { Value = Piece; reader = chunk_of q; says = piece_in }

-- chunks under `cmp_semver`
abbrev pub semverly : Order BySemver
semverly = record { Value = Piece; value = λ x. says x.0; answer = semver_order; laws = semver_balanced }
