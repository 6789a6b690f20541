-- The parts of a Complex label. Assumes nothing.
use Rattle.std.specs.Prelude.{ℕ, List}
use Rattle.mess.specs.declared.sep.Sep.{Sep}

-- An MChunk is a run. Digits and Rev have the number that they write beside it.
pub data MChunk : Type 0 where
  digits : ℕ → List ℕ → MChunk
  rev : ℕ → List ℕ → MChunk
  plain : List ℕ → MChunk

-- A level is a list of MChunks. The first stands alone, each further one behind its sign.
pub record Parts : Type 0 where
  pub first : List MChunk
  pub further : List (Sep × List MChunk)
