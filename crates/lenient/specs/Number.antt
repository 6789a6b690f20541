-- The lenient number of texts and chunks. Assumes nothing.
use Rattle.std.specs.Prelude.{ℕ, cond, ◌&&◌, List, [], ◌∷◌, Some, None, Option, ◌==◌}
use Rattle.std.specs.Char.{is_ascii_alphabetic}
use Rattle.chunk.specs.Piece.{Piece, numeric, alphanum}
use Rattle.parsers.specs.Reading.{follow, digits_of}

-- The lenient number of a text: the worth of the digits at its front, if there is a digit, within the limit.
abbrev pub lenient_number : List ℕ → Option ℕ
lenient_number t = follow (digits_of t) (λ n rest. Some n) None

-- The lenient number of a chunk: its number, or that of its text.
abbrev pub lenient_of : Piece → Option ℕ
lenient_of (numeric n) = Some n
lenient_of (alphanum t) = lenient_number t

-- the lenient number behind the first letter of a text, if the other text begins with that letter too
abbrev pub behind_letter : List ℕ → List ℕ → Option ℕ
behind_letter [] other = None
behind_letter (b ∷ rest) [] = None
behind_letter (b ∷ rest) (c ∷ other) = cond (b == c && is_ascii_alphabetic b) (lenient_number rest) None
