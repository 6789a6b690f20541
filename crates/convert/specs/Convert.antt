-- Ideals and Generals as Complexes. Assumes nothing.
use Rattle.std.specs.Prelude.{ℕ, List, [], ◌∷◌, ◌++◌, map, Some, None, decimal, Option}
use Rattle.std.specs.Option.{option_map}
use Rattle.chunk.specs.Piece as piece
use Rattle.chunk.specs.Piece.{Piece}
use Rattle.standard.specs.Parts as standard
use Rattle.version.specs.Parts as version
use Rattle.version.specs.Parts.{LastPart, numeric, rc, post, alphanum}
use Rattle.mess.specs.declared.sep.Sep.{Sep}
use Rattle.mess.specs.declared.sep.Sep.TheVariants.{Colon, Hyphen, Plus}
use Rattle.mess.specs.Parts as mess
use Rattle.mess.specs.Parts.{MChunk, digits, plain}

-- a number, with its decimal digits as its text
abbrev pub number_mchunk : ℕ → MChunk
number_mchunk n = digits n (decimal n)

-- a Numeric becomes Digits, an Alphanum Plain
abbrev pub chunk_mchunk : Piece → MChunk
chunk_mchunk (piece.numeric n) = number_mchunk n
chunk_mchunk (piece.alphanum t) = plain t

-- an Rc or Post becomes Plain with its chunk's own text
abbrev pub last_mchunk : LastPart → MChunk
last_mchunk (numeric n) = number_mchunk n
last_mchunk (rc a s b) = plain (decimal a ++ (s ++ decimal b))
last_mchunk (post a s) = plain (decimal a ++ s)
last_mchunk (alphanum t) = plain t

-- a level behind a sign, if there is one
abbrev pub behind : Sep → Option (List MChunk) → List (Sep × List MChunk)
behind sign None = []
behind sign (Some level) = (sign, level) ∷ []

abbrev pub release_level : Option (List Piece) → Option (List MChunk)
release_level release = option_map (map chunk_mchunk) release

-- the metadata is one Plain
abbrev pub meta_level : Option (List ℕ) → Option (List MChunk)
meta_level meta = option_map (λ s. plain s ∷ []) meta

-- three numbers, the Release behind a hyphen, the metadata behind a plus sign
abbrev pub ideal_to_mess : standard.Parts → mess.Parts
ideal_to_mess p = record {
  first = number_mchunk p.major ∷ number_mchunk p.minor ∷ number_mchunk p.patch ∷ [];
  further = behind Hyphen (release_level p.release) ++ behind Plus (meta_level p.meta);
}

-- the chunks and the Last, the Release behind a hyphen; metadata is left out
abbrev pub body_to_mess : version.Parts → mess.Parts
body_to_mess p = record { first = map chunk_mchunk p.chunks ++ last_mchunk p.last ∷ []; further = behind Hyphen (release_level p.release) }

abbrev pub with_epoch : Option ℕ → mess.Parts → mess.Parts
with_epoch None m = m
with_epoch (Some e) m = record { first = number_mchunk e ∷ []; further = (Colon, m.first) ∷ m.further }

-- the same behind the epoch and a colon, where there is an epoch
abbrev pub general_to_mess : version.Parts → mess.Parts
general_to_mess p = with_epoch p.epoch (body_to_mess p)
