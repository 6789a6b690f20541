-- The classes of bytes. Assumes nothing.
use Rattle.std.specs.Prelude.{◌≡◌, ℕ, Bool, true, ◌||◌, List, ◌==◌}
use Rattle.std.specs.Char.{is_ascii_digit, is_ascii_alphabetic}
use Rattle.std.specs.List.{AllByRecursion}

abbrev pub letter_or_hyphen : ℕ → Bool
letter_or_hyphen b = is_ascii_alphabetic b || b == 45

-- a digit, or of the class q: with letters a byte of a run, with letters and hyphens one of an identifier
abbrev pub or_digit : (ℕ → Bool) → ℕ → Bool
or_digit q b = is_ascii_digit b || q b

-- every byte is of the class p
abbrev pub Each : (ℕ → Bool) → List ℕ → Type 0
Each p w = AllByRecursion (λ b. p b ≡ true) w
