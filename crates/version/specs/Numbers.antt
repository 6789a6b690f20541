-- The number at a position of a General. Assumes nothing.
use Rattle.std.specs.Prelude.{ℕ, zero, suc, cond, List, [], ◌∷◌, length, Some, None, Option, ◌==◌}
use Rattle.chunk.specs.Piece as piece
use Rattle.chunk.specs.Piece.{Piece}
use Rattle.version.specs.Parts.{LastPart, numeric, rc, post, alphanum, Parts}

-- the number of a chunk that is Numeric
abbrev pub single : Piece → Option ℕ
single (piece.numeric n) = Some n
single (piece.alphanum t) = None

-- the number of the chunk at an index
abbrev pub single_at : List Piece → ℕ → Option ℕ
single_at [] n = None
single_at (x ∷ xs) zero = single x
single_at (x ∷ xs) (suc n) = single_at xs n

-- the first number of the Last
abbrev pub first_of : LastPart → Option ℕ
first_of (numeric n) = Some n
first_of (rc a s b) = Some a
first_of (post a s) = Some a
first_of (alphanum t) = None

-- the number of the nth chunk, or the first number of the Last if n is the count of chunks
abbrev pub nth_of : Parts → ℕ → Option ℕ
nth_of p n = cond (n == length p.chunks) (first_of p.last) (single_at p.chunks n)
