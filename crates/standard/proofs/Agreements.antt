-- Two Ideals compare Equal exactly if their texts agree before any plus sign. Assumes nothing.
use Rattle.std.proofs.Common.{◌≡◌, ℕ, ◌+◌, ◌-◌, ◌*◌, ◌^◌, ◌≤◌, true, false, eqb, List, [], ◌∷◌, ◌++◌, length, drop, Some, None, decimal, Option, sym, refl, ap, ◌∙◌, subst, append_assoc, append-nil, arith, rules}
use Rattle.std.specs.Char.{is_ascii_digit}
use Rattle.std.specs.List.{AllByRecursion as All}
use Rattle.std.specs.Str.{all_ascii_digits}
use Rattle.std.proofs.lemmas.Fmt.{decimal_digit, decimal-digits_value}
use Rattle.std.proofs.ByRecursion.{All-append}
use Rattle.std.proofs.lemmas.Str.Parse.{IsNumeralModel, numerals_by_weight, tells_all_ascii_digits}
use Rattle.std.proofs.lemmas.Bool.{and_from, cond-false, ne_eqb}
use Rattle.std.proofs.lemmas.Bool.Decides.{nat_tests}
use Rattle.parsers.specs.Grammar.{limit}
use Rattle.chunk.specs.Piece.{Piece, numeric, alphanum}
use Rattle.standard.specs.Parts.{Parts, Capped, Within}
use Rattle.standard.specs.Grammar as g
use Rattle.standard.specs.Grammar.{PositiveDigit, Digit, Digits, NonDigit, IdentifierCharacter, IdentifierCharacters, NumericIdentifier, AlphanumericIdentifier, PreReleaseIdentifier, PreRelease, VersionCore, ValidSemver}
use Rattle.standard.specs.Precedence.{Level}
use Rattle.standard.specs.Order.{ideal_order}
use Rattle.standard.specs.Theorems.{Ideal, before_plus, AgreementStands}
use Rattle.standard.proofs.Stricts.{strict_stands}
use Rattle.standard.proofs.Precedences.{precedence_stands}
use Rattle.standard.proofs.Readings.{reading_stands}

-- the number that digits write, each by the weight of its place
abbrev weight : List ℕ → ℕ
weight [] = 0
weight (b ∷ bs) = (b - 48) * 10 ^ length bs + weight bs

own : IsNumeralModel (λ ds. all_ascii_digits ds ≡ true) weight
own = numerals_by_weight _ tells_all_ascii_digits weight (search rules)

positive_is : {b : ℕ} → PositiveDigit b → is_ascii_digit b ≡ true
positive_is (g.positive l h) = grind (arith, nat_tests)

digit_is : {b : ℕ} → Digit b → is_ascii_digit b ≡ true
digit_is g.nought = refl
digit_is (g.positive d) = positive_is d

digits_are : {w : List ℕ} {n : ℕ} → Digits w n → (all_ascii_digits w ≡ true) × (weight w ≡ n)
digits_are (g.one d) = (and_from _ _ (digit_is d) refl, omega arith)
digits_are (g.more {w = w} d ds) = let h = digits_are ds in (and_from _ _ (digit_is d) h.0, omega (arith, h.1))

-- a number is written in one way
numeric_text : {w : List ℕ} {n : ℕ} → NumericIdentifier w n → n ≤ limit → decimal n ≡ w
numeric_text g.nought l = decimal_digit 0 (omega arith)
numeric_text (g.positive {b} (g.positive h k)) l = let e : 48 + (b - 48) ≡ b = omega arith in decimal_digit (b - 48) (omega arith) ∙ ap (λ c. c ∷ []) e
numeric_text (g.digits {b} {n} {w} (g.positive h k) ds) l =
    let d = digits_are ds in
    let e : weight (b ∷ w) ≡ (b - 48) * 10 ^ length w + n = ap (λ m. (b - 48) * 10 ^ length w + m) d.1 in
    ap decimal (sym e) ∙ decimal-digits_value own (b ∷ w) (and_from _ _ (positive_is (g.positive h k)) d.0) (omega arith) (λ z. omega arith) (omega arith)

-- the text of the parts
abbrev name : Piece → List ℕ
name (numeric n) = decimal n
name (alphanum s) = s

abbrev dots : List Piece → List ℕ
dots [] = []
dots (x ∷ xs) = 46 ∷ (name x ++ dots xs)

abbrev tail : Option (List Piece) → List ℕ
tail None = []
tail (Some xs) = 45 ∷ drop 1 (dots xs)

abbrev plus : Option (List ℕ) → List ℕ
plus None = []
plus (Some m) = 43 ∷ m

abbrev numbers : ℕ → ℕ → ℕ → List ℕ
numbers i j k = decimal i ++ (46 ∷ (decimal j ++ (46 ∷ decimal k)))

abbrev spell : Parts → List ℕ
spell p = numbers p.major p.minor p.patch ++ (tail p.release ++ plus p.meta)

named : {w : List ℕ} {x : Piece} → PreReleaseIdentifier w x → (xs : List Piece) → Capped limit (x ∷ xs) → (name x ≡ w) × Capped limit xs
named (g.alphanumeric a) xs c = (refl, c)
named (g.numerical n) xs c = (numeric_text n c.0, c.1)

dotted : {r : List ℕ} {xs : List Piece} → PreRelease r xs → Capped limit xs → dots xs ≡ 46 ∷ r
dotted (g.one {w} i) c = ap (λ l. 46 ∷ l) (append-nil _ ∙ (named i [] c).0)
dotted (g.more i m) c = let h = named i _ c in λ k. 46 ∷ (h.0 k ++ dotted m h.1 k)

tailed : {r : List ℕ} {xs : List Piece} → PreRelease r xs → Capped limit xs → tail (Some xs) ≡ 45 ∷ r
tailed m c = ap (λ l. 45 ∷ drop 1 l) (dotted m c)

numbered : {c : List ℕ} {p : Parts} → VersionCore c p.major p.minor p.patch → Within limit p → numbers p.major p.minor p.patch ≡ c
numbered (g.core a b d) w = λ o. numeric_text a w.major o ++ (46 ∷ (numeric_text b w.minor o ++ (46 ∷ numeric_text d w.patch o)))

spelled : {s : List ℕ} {p : Parts} → ValidSemver s p → Within limit p → spell p ≡ s
spelled (g.plain c) w = append-nil _ ∙ numbered c w
spelled (g.released c r) w = λ i. numbered c w i ++ (append-nil _ ∙ tailed r w.release) i
spelled (g.built {m = m} c b) w = λ i. numbered c w i ++ (43 ∷ m)
spelled (g.full {m = m} c r b) w = λ i. numbered c w i ++ (tailed r w.release i ++ (43 ∷ m))

-- a plus sign is in no core and no Release
abbrev Clear : List ℕ → Type 0
Clear = All (λ b. eqb b 43 ≡ false)

digit_clear : {b : ℕ} → Digit b → eqb b 43 ≡ false
digit_clear g.nought = refl
digit_clear (g.positive (g.positive l h)) = ne_eqb _ 43 (λ e. omega arith)

other_clear : {b : ℕ} → NonDigit b → eqb b 43 ≡ false
other_clear (g.letter (g.upper l h)) = ne_eqb _ 43 (λ e. omega arith)
other_clear (g.letter (g.lower l h)) = ne_eqb _ 43 (λ e. omega arith)
other_clear g.hyphen = refl

digits_clear : {w : List ℕ} {n : ℕ} → Digits w n → Clear w
digits_clear (g.one d) = (digit_clear d, tt)
digits_clear (g.more d ds) = (digit_clear d, digits_clear ds)

numeric_clear : {w : List ℕ} {n : ℕ} → NumericIdentifier w n → Clear w
numeric_clear g.nought = (refl, tt)
numeric_clear (g.positive d) = (digit_clear (g.positive d), tt)
numeric_clear (g.digits d ds) = (digit_clear (g.positive d), digits_clear ds)

character_clear : {b : ℕ} → IdentifierCharacter b → eqb b 43 ≡ false
character_clear (g.digit d) = digit_clear d
character_clear (g.non_digit d) = other_clear d

characters_clear : {w : List ℕ} → IdentifierCharacters w → Clear w
characters_clear (g.one c) = (character_clear c, tt)
characters_clear (g.more c cs) = (character_clear c, characters_clear cs)

alphanumeric_clear : {w : List ℕ} → AlphanumericIdentifier w → Clear w
alphanumeric_clear (g.alone c) = (other_clear c, tt)
alphanumeric_clear (g.before c cs) = (other_clear c, characters_clear cs)
alphanumeric_clear (g.behind {v} b cs c) = All-append _ v _ (characters_clear cs) (other_clear c, tt)
alphanumeric_clear (g.amid {v} b cs c ds) = All-append _ v _ (characters_clear cs) (other_clear c, characters_clear ds)

identifier_clear : {w : List ℕ} {x : Piece} → PreReleaseIdentifier w x → Clear w
identifier_clear (g.alphanumeric a) = alphanumeric_clear a
identifier_clear (g.numerical n) = numeric_clear n

release_clear : {w : List ℕ} {xs : List Piece} → PreRelease w xs → Clear w
release_clear (g.one i) = identifier_clear i
release_clear (g.more {v} i r) = All-append _ v _ (identifier_clear i) (refl, release_clear r)

core_clear : {c : List ℕ} {i j k : ℕ} → VersionCore c i j k → Clear c
core_clear (g.core {x} {y} a b d) = All-append _ x _ (numeric_clear a) (refl, All-append _ y _ (numeric_clear b) (refl, numeric_clear d))

both_clear : {c r : List ℕ} {i j k : ℕ} {xs : List Piece} → VersionCore c i j k → PreRelease r xs → Clear (c ++ (45 ∷ r))
both_clear {c} v r = All-append _ c _ (core_clear v) (refl, release_clear r)

before : (w rest : List ℕ) → Clear w → before_plus (w ++ rest) ≡ w ++ before_plus rest
before [] rest h = refl
before (b ∷ w) rest h = cond-false _ _ _ h.0 ∙ ap (λ l. b ∷ l) (before w rest h.1)

before_all : (w : List ℕ) → Clear w → before_plus w ≡ w
before_all w h = rw append-nil at (before w [] h)

before_some : (w m : List ℕ) → Clear w → before_plus (w ++ (43 ∷ m)) ≡ w
before_some w m h = before w (43 ∷ m) h ∙ append-nil w

-- without metadata
abbrev bare : Parts → Parts
bare p = record { major = p.major; minor = p.minor; patch = p.patch; release = p.release; meta = None }

bare_valid : {s : List ℕ} {p : Parts} → ValidSemver s p → ValidSemver (before_plus s) (bare p)
bare_valid (g.plain {c} v) = rw (before_all c (core_clear v)) (g.plain v)
bare_valid (g.released {c} {r} v w) = rw (before_all (c ++ (45 ∷ r)) (both_clear v w)) (g.released v w)
bare_valid (g.built {c} {m} v b) = rw (before_some c m (core_clear v)) (g.plain v)
bare_valid (g.full {c} {r} {m} v w b) = rw (← append_assoc c (45 ∷ r) (43 ∷ m), before_some (c ++ (45 ∷ r)) m (both_clear v w)) (g.released v w)

bare_ideal : {s : List ℕ} {p : Parts} → Ideal s p → Ideal (before_plus s) (bare p)
bare_ideal a = record { valid = bare_valid a.valid; within = record { major = a.within.major; minor = a.within.minor; patch = a.within.patch; release = a.within.release } }

bare_spelled : {s : List ℕ} {p : Parts} → Ideal s p → spell (bare p) ≡ before_plus s
bare_spelled a = let b = bare_ideal a in spelled b.valid b.within

bare_same : {p q : Parts} → Level p q → bare p ≡ bare q
bare_same l = λ i. record { major = l.core.major i; minor = l.core.minor i; patch = l.core.patch i; release = l.release i; meta = None }

pub agreement_stands : AgreementStands
agreement_stands s t p q a b = (
  λ e. sym (bare_spelled a) ∙ ap spell (bare_same ((precedence_stands p q).equal.0 e)) ∙ bare_spelled b,
  λ e. let same = reading_stands.unique (before_plus t) (bare p) (bare q) (subst (λ l. Ideal l (bare p)) e (bare_ideal a)) (bare_ideal b) in
      ap (λ r. ideal_order r q) same ∙ strict_stands.itself (bare q),
)
