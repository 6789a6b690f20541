-- The parts of a General label. Assumes nothing.
use Rattle.std.specs.Prelude.{ℕ, List, Option}
use Rattle.chunk.specs.Piece.{Piece}

-- The Last: the last chunk of a General, looked into once more. It is a number; or a number, letters and a number (Rc);
-- or a number and letters (Post); or any other text that holds a letter.
pub data LastPart : Type 0 where
  numeric : ℕ → LastPart
  rc : ℕ → List ℕ → ℕ → LastPart
  post : ℕ → List ℕ → LastPart
  alphanum : List ℕ → LastPart

-- the epoch, the chunks before the Last, the Last, the chunks of the Release, the text of the metadata without its plus sign
pub record Parts : Type 0 where
  pub epoch : Option ℕ
  pub chunks : List Piece
  pub last : LastPart
  pub release : Option (List Piece)
  pub meta : Option (List ℕ)
