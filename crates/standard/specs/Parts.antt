-- The parts of an Ideal label. Assumes nothing.
use Rattle.std.specs.Prelude.{ℕ, ◌≤◌, List, [], ◌∷◌, Some, None, Option}
use Rattle.chunk.specs.Piece.{Piece, numeric, alphanum}

-- three numbers, the identifiers of the Release, the text of the metadata without its plus sign
pub record Parts : Type 0 where
  pub major : ℕ
  pub minor : ℕ
  pub patch : ℕ
  pub release : Option (List Piece)
  pub meta : Option (List ℕ)

-- no number of the identifiers is above n
abbrev pub Capped : ℕ → List Piece → Type 0
Capped n [] = Unit {0}
Capped n (numeric m ∷ xs) = (m ≤ n) × Capped n xs
Capped n (alphanum s ∷ xs) = Capped n xs

abbrev pub CappedRelease : ℕ → Option (List Piece) → Type 0
CappedRelease n None = Unit {0}
CappedRelease n (Some xs) = Capped n xs

-- no number of the parts is above n
pub record Within (n : ℕ) (p : Parts) : Type 0 where
  pub major : p.major ≤ n
  pub minor : p.minor ≤ n
  pub patch : p.patch ≤ n
  pub release : CappedRelease n p.release
