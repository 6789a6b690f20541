-- The meaning: readers of what stands in front of a text, which answer it and the rest. Assumes nothing.
use Rattle.std.specs.Prelude.{ℕ, zero, suc, ◌-◌, Bool, cond, List, [], ◌∷◌, length, take, Some, None, Option, ◌==◌, nat_le}
use Rattle.std.specs.Char.{is_ascii_digit}
use Rattle.parsers.specs.Bytes.{letter_or_hyphen, or_digit}
use Rattle.parsers.specs.Grammar.{limit, worth}

abbrev pub Reader : Type 0 → Type 0
Reader C = List ℕ → Option (C × List ℕ)

-- what follows a part that was read, or else what there is without one
abbrev pub follow : {C A : Type 0} → Option (C × List ℕ) → (C → List ℕ → A) → A → A
follow None f a = a
follow (Some r) f a = f r.0 r.1

abbrev pub push : {C : Type 0} → C → List C × List ℕ → List C × List ℕ
push c r = (c ∷ r.0, r.1)

abbrev pub perhaps_of : {C : Type 0} → Reader C → List ℕ → Option C × List ℕ
perhaps_of R bs = follow (R bs) (λ c rest. (Some c, rest)) (None, bs)

abbrev pub behind_of : {C : Type 0} → ℕ → Reader C → Reader C
behind_of mark R [] = None
behind_of mark R (b ∷ bs) = cond (b == mark) (R bs) None

-- as many parts as there are, at most k
abbrev pub many_of : {C : Type 0} → Reader C → ℕ → List ℕ → List C × List ℕ
many_of R zero bs = ([], bs)
many_of R (suc k) bs = follow (R bs) (λ c rest. push c (many_of R k rest)) ([], bs)

abbrev pub dotted_of : {C : Type 0} → Reader C → Reader (List C)
dotted_of R bs = follow (R bs) (λ c rest. Some (push c (many_of (behind_of 46 R) (length rest) rest))) None

-- the longest stretch of p, which may be empty
abbrev pub span : (ℕ → Bool) → List ℕ → List ℕ × List ℕ
span p [] = ([], [])
span p (b ∷ bs) = cond (p b) (push b (span p bs)) ([], b ∷ bs)

abbrev pub some : List ℕ × List ℕ → Option (List ℕ × List ℕ)
some ([], rest) = None
some (b ∷ bs, rest) = Some (b ∷ bs, rest)

abbrev pub stretch_of : (ℕ → Bool) → Reader (List ℕ)
stretch_of p bs = some (span p bs)

-- what a reader reads, as the text itself
abbrev pub spelled_of : {C : Type 0} → Reader C → Reader (List ℕ)
spelled_of R bs = follow (R bs) (λ _ rest. Some (take (length bs - length rest) bs, rest)) None

abbrev pub counted : List ℕ → List ℕ → Option (ℕ × List ℕ)
counted w rest = cond (nat_le (worth 0 w) limit) (Some (worth 0 w, rest)) None

-- the longest stretch of digits, zeros in front or not, within the limit
abbrev pub digits_of : Reader ℕ
digits_of bs = follow (stretch_of is_ascii_digit bs) counted None

-- 0 alone at the digit 0, or else the longest stretch of digits, within the limit
abbrev pub number_of : Reader ℕ
number_of [] = None
number_of (b ∷ bs) = cond (b == 48) (Some (0, bs)) (follow (stretch_of is_ascii_digit (b ∷ bs)) counted None)

-- a plus sign and non-empty stretches joined by dots, without the plus sign
abbrev pub meta_of : Reader (List ℕ)
meta_of = behind_of 43 (spelled_of (dotted_of (stretch_of (or_digit letter_or_hyphen))))
