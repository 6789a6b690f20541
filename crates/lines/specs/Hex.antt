-- Bytes written in hex. Assumes nothing.
use Rattle.std.specs.Prelude.{◌≡◌, ℕ, ◌+◌, ◌-◌, ◌*◌, ◌%◌, ◌<◌, ◌≤◌, Bool, false, cond, ◌&&◌, ◌||◌, List, [], ◌∷◌, length, take, drop, Some, None, Option, ◌==◌, nat_le, nat_lt}
use Rattle.std.specs.Int.{is_in_range}
use Rattle.std.specs.List.{list_all}

-- the upper-case digit for a number below 16
abbrev pub upper_digit : ℕ → ℕ
upper_digit n = cond (nat_lt n 10) (48 + n) (55 + n)

-- 0 to 9 and a to f, in lower case
abbrev pub hex_digit : ℕ → Bool
hex_digit b = is_in_range 48 57 b || is_in_range 97 102 b

abbrev pub digit_worth : ℕ → ℕ
digit_worth b = cond (nat_le b 57) (b - 48) (b - 87)

-- the bytes that pairs of digits write, the high digit first
abbrev pub paired : List ℕ → List ℕ
paired [] = []
paired (h ∷ []) = []
paired (h ∷ l ∷ bs) = (digit_worth h * 16 + digit_worth l) ∷ paired bs

-- a hyphen alone
abbrev pub hyphen : List ℕ → Bool
hyphen [] = false
hyphen (b ∷ []) = b == 45
hyphen (b ∷ c ∷ bs) = false

-- the text that a field writes: nothing for a hyphen, or else pairs of digits
abbrev pub unhexed : List ℕ → Option (List ℕ)
unhexed hex = cond (hyphen hex) (Some []) (cond (list_all hex_digit hex && length hex % 2 == 0) (Some (paired hex)) None)

-- a field writes a text of n bytes
abbrev pub Long : List ℕ → ℕ → Type 0
Long hex n = (unhexed hex ≡ Some (paired hex)) × (length (paired hex) ≡ n)

-- what unhexing into `out` answers and leaves there: a text's length, with the text in front and the rest as it was;
-- or nothing, and all as it was, where no text is written or it is longer than `out`
abbrev pub Unhexes : List ℕ → List ℕ → Option ℕ → List ℕ → Type 0
Unhexes hex out None after = ((bs : List ℕ) → unhexed hex ≡ Some bs → length out < length bs) × (after ≡ out)
Unhexes hex out (Some n) after = (n ≤ length out) × (unhexed hex ≡ Some (take n after)) × (drop n after ≡ drop n out)
