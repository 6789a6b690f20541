-- How a text is shown to a person. Assumes nothing.
use Rattle.std.specs.Prelude.{ℕ, ◌/◌, ◌%◌, min, Bool, cond, List, [], ◌∷◌, length, take}
use Rattle.std.specs.Int.{is_in_range}
use Rattle.std.specs.List.{flat_map}
use Rattle.lines.specs.Hex.{upper_digit}

-- a byte that is shown as itself
abbrev pub printable : ℕ → Bool
printable b = is_in_range 33 126 b

-- any other byte is shown as \x and two digits
abbrev pub shown_byte : ℕ → List ℕ
shown_byte b = cond (printable b) (b ∷ []) (92 ∷ 120 ∷ upper_digit (b / 16) ∷ upper_digit (b % 16) ∷ [])

abbrev pub shown_of : List ℕ → List ℕ
shown_of text = flat_map shown_byte text

-- how many characters stand before the byte at a place, up to the most that 64 bits count
abbrev pub column_of : List ℕ → ℕ → ℕ
column_of text place = min (length (shown_of (take place text))) 18446744073709551615
