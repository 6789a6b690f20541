-- A Complex behind its first level, and a first level that reads as an epoch. Assumes nothing.
use Rattle.std.specs.Prelude.{ℕ, List, [], ◌∷◌, Some, None, Option}
use Rattle.mess.specs.declared.sep.Sep.{Sep}
use Rattle.mess.specs.Parts.{MChunk, Parts}
use Rattle.mess.specs.Reading.{by_colon, number_in}

abbrev pub behind : List (Sep × List MChunk) → Option Parts
behind [] = None
behind (l ∷ ls) = Some (record { first = l.1; further = ls })

-- the Complex behind the first level, if there is a further one
abbrev pub behind_first : Parts → Option Parts
behind_first p = behind p.further

-- the number of a level that is one MChunk, of Digits
abbrev pub alone : List MChunk → Option ℕ
alone [] = None
alone (c ∷ []) = number_in c
alone (c ∷ d ∷ cs) = None

-- what stands before further levels, if a colon follows it
abbrev pub before_colon : Option ℕ → List (Sep × List MChunk) → Option ℕ
before_colon o [] = None
before_colon o (l ∷ ls) = by_colon l.0 o None

-- the number of the first level, if that is one MChunk, of Digits, followed by a colon
abbrev pub epoch_like : Parts → Option ℕ
epoch_like p = before_colon (alone p.first) p.further
