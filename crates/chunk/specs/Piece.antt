-- What a part of a label says, free of where it lies. Assumes nothing.
use Rattle.std.specs.Prelude.{ℕ, List}

-- a number, or the bytes of a text
pub data Piece : Type 0 where
  numeric : ℕ → Piece
  alphanum : List ℕ → Piece
