-- The standard's productions, with the limit, are the combined grammar. Assumes nothing.
use Rattle.std.proofs.Common.{◌≡◌, ℕ, ◌+◌, ◌-◌, ◌*◌, ◌^◌, ◌<◌, ◌≤◌, Bool, true, false, List, [], ◌∷◌, ◌++◌, length, Option, sym, refl, ap, ◌∙◌, subst, ⊎_elim, append_assoc, append-nil, mul_assoc, add-mul, arith}
use native.Mathlib.Nat.{pow-succ'}
use Rattle.std.specs.Char.{is_ascii_digit, is_ascii_alphabetic}
use Rattle.std.specs.Int.{is_in_range}
use Rattle.std.proofs.ByRecursion.{All-append, All-weaker}
use Rattle.std.proofs.lemmas.Bool.{cases_Bool, cases_eq, eqb-true, or_parts, or_cases, or_left, or_right, both_ways}
use Rattle.std.proofs.lemmas.Bool.Decides.{nat_tests}
use Rattle.std.specs.List.{list_any}
use Rattle.parsers.specs.Bytes.{letter_or_hyphen, or_digit, Each}
use Rattle.parsers.specs.Grammar as g
use Rattle.parsers.specs.Grammar.{limit, worth, Number, Stretch, stretch, Behind, Many, Dotted, dotted, Perhaps, absent, present, spelled, Metadata}
use Rattle.chunk.specs.Piece.{Piece, numeric, alphanum}
use Rattle.chunk.specs.Grammar.{Chunked, number, word, Released}
use Rattle.standard.specs.Parts.{Parts, Capped, CappedRelease, Within}
use Rattle.standard.specs.Grammar as s
use Rattle.standard.specs.Grammar.{Letter, upper, lower, PositiveDigit, Digit, Digits, NonDigit, letter, hyphen, IdentifierCharacter, IdentifierCharacters, NumericIdentifier, AlphanumericIdentifier, alone, before, amid, PreReleaseIdentifier, BuildIdentifier, PreRelease, Build, VersionCore, core, ValidSemver, plain, released, built, full}
use Rattle.standard.specs.Theorems.{Ideal}
use Rattle.standard.proofs.Combined.{Combined, combined}

-- bytes
positive_to : {b : ℕ} → PositiveDigit b → (48 < b) × (is_ascii_digit b ≡ true)
positive_to (s.positive {b} l h) = (omega arith, grind (arith, nat_tests))

positive_from : {b : ℕ} → 48 < b → is_ascii_digit b ≡ true → PositiveDigit b
positive_from {b} l d = s.positive (omega arith) (grind (arith, nat_tests))

digit_to : {b : ℕ} → Digit b → is_ascii_digit b ≡ true
digit_to s.nought = refl
digit_to (s.positive p) = (positive_to p).1

digit_from : (b : ℕ) → is_ascii_digit b ≡ true → Digit b
digit_from b d = ⊎_elim (λ e. subst Digit (sym e) s.nought) (λ ne. s.positive (positive_from (grind (arith, nat_tests)) d)) (cases_eq b 48)

other_to : {b : ℕ} → NonDigit b → letter_or_hyphen b ≡ true
other_to (letter (upper {b} l h)) = grind (arith, nat_tests)
other_to (letter (lower {b} l h)) = grind (arith, nat_tests)
other_to hyphen = refl

letter_from : (b : ℕ) → is_ascii_alphabetic b ≡ true → Letter b
letter_from b h =
    ⊎_elim (λ (u : is_in_range 65 90 b ≡ true). upper (grind (arith, nat_tests)) (grind (arith, nat_tests))) (λ (l : is_in_range 97 122 b ≡ true). lower (grind (arith, nat_tests)) (grind (arith, nat_tests))) (or_cases _ _ h)

other_from : (b : ℕ) → letter_or_hyphen b ≡ true → NonDigit b
other_from b h = ⊎_elim (λ e. letter (letter_from b e)) (λ e. subst NonDigit (sym (eqb-true b 45 e)) hyphen) (or_cases _ _ h)

character_to : {b : ℕ} → IdentifierCharacter b → or_digit letter_or_hyphen b ≡ true
character_to (s.digit d) = or_left _ _ (digit_to d)
character_to (s.non_digit d) = or_right _ _ (other_to d)

character_from : (b : ℕ) → or_digit letter_or_hyphen b ≡ true → IdentifierCharacter b
character_from b h = ⊎_elim (λ d. s.digit (digit_from b d)) (λ d. s.non_digit (other_from b d)) (or_cases _ _ h)

characters_to : {w : List ℕ} → IdentifierCharacters w → Each (or_digit letter_or_hyphen) w
characters_to (s.one c) = (character_to c, tt)
characters_to (s.more c o) = (character_to c, characters_to o)

characters_from : (b : ℕ) (w : List ℕ) → Each (or_digit letter_or_hyphen) (b ∷ w) → IdentifierCharacters (b ∷ w)
characters_from b [] e = s.one (character_from b e.0)
characters_from b (c ∷ w) e = s.more (character_from b e.0) (characters_from c w e.1)

-- numbers
digits_to : {w : List ℕ} {n : ℕ} → Digits w n → Each is_ascii_digit w
digits_to (s.one d) = (digit_to d, tt)
digits_to (s.more d o) = (digit_to d, digits_to o)

digits_from : (b : ℕ) (w : List ℕ) → Each is_ascii_digit (b ∷ w) → (n : ℕ) × Digits (b ∷ w) n
digits_from b [] e = (_, s.one (digit_from b e.0))
digits_from b (c ∷ w) e = (_, s.more (digit_from b e.0) (digits_from c w e.1).1)

-- what digits are worth after the number so far
digits_worth : {w : List ℕ} {n : ℕ} (a : ℕ) → Digits w n → worth a w ≡ a * 10 ^ length w + n
digits_worth a (s.one d) = refl
digits_worth a (s.more {b} {n} {w} d o) =
    omega (arith, digits_worth (a * 10 + (b - 48)) o, add-mul (a * 10) (b - 48) (10 ^ length w), mul_assoc a 10 (10 ^ length w), ap (λ x. a * x) (pow-succ' 10 (length w)))

first_worth : (b : ℕ) (w : List ℕ) → worth 0 (b ∷ w) ≡ worth (b - 48) w
first_worth b w = ap (λ a. worth a w) (omega arith)

first_to : {b n : ℕ} {w : List ℕ} → PositiveDigit b → Each is_ascii_digit w → worth (b - 48) w ≡ n → n ≤ limit → Number (b ∷ w) n
first_to {b} {n} {w} p o e l =
    let h = positive_to p in
    let f : worth 0 (b ∷ w) ≡ n = first_worth b w ∙ e in
    subst (Number (b ∷ w)) f (g.digits h.0 (h.1, o) (rw f l))

number_to : {w : List ℕ} {n : ℕ} → NumericIdentifier w n → n ≤ limit → Number w n
number_to s.nought l = g.nought
number_to (s.positive p) l = first_to p tt refl l
number_to (s.digits {b} p o) l = first_to p (digits_to o) (digits_worth (b - 48) o) l

first_from : (b : ℕ) (w : List ℕ) → PositiveDigit b → Each is_ascii_digit w → NumericIdentifier (b ∷ w) (worth (b - 48) w)
first_from b [] p e = s.positive p
first_from b (c ∷ w) p e = let o = digits_from c w e in subst (NumericIdentifier (b ∷ c ∷ w)) (sym (digits_worth (b - 48) o.1)) (s.digits p o.1)

number_from : {w : List ℕ} {n : ℕ} → Number w n → NumericIdentifier w n × (n ≤ limit)
number_from g.nought = (s.nought, omega arith)
number_from (g.digits {b} {w} l e h) = (subst (NumericIdentifier (b ∷ w)) (sym (first_worth b w)) (first_from b w (positive_from l e.0) e.1), h)

-- words
abbrev Word : List ℕ → Type 0
Word w = Each (or_digit letter_or_hyphen) w × (list_any letter_or_hyphen w ≡ true)

any_at : (q : ℕ → Bool) (v w : List ℕ) (b : ℕ) → q b ≡ true → list_any q (v ++ (b ∷ w)) ≡ true
any_at q [] w b e = or_left _ _ e
any_at q (c ∷ v) w b e = or_right _ _ (any_at q v w b e)

at_word : (v w : List ℕ) {b : ℕ} → Each (or_digit letter_or_hyphen) v → NonDigit b → Each (or_digit letter_or_hyphen) w → Word (v ++ (b ∷ w))
at_word v w {b} e d f = let h = other_to d in (All-append _ v (b ∷ w) e (or_right _ _ h, f), any_at letter_or_hyphen v w b h)

word_to : {w : List ℕ} → AlphanumericIdentifier w → Word w
word_to (alone d) = at_word [] [] tt d tt
word_to (before {w = w} d o) = at_word [] w tt d (characters_to o)
word_to (s.behind {v} b o d) = at_word v [] (characters_to o) d tt
word_to (amid {v} {w} b o d q) = at_word v w (characters_to o) d (characters_to q)

-- one byte more in front
longer : {b : ℕ} {w : List ℕ} → IdentifierCharacter b → AlphanumericIdentifier w → AlphanumericIdentifier (b ∷ w)
longer c (alone {b} d) = s.behind b (s.one c) d
longer c (before {b} d o) = amid b (s.one c) d o
longer c (s.behind b o d) = s.behind b (s.more c o) d
longer c (amid b o d q) = amid b (s.more c o) d q

word_from : (w : List ℕ) → Word w → AlphanumericIdentifier w
word_from [] h = absurd (both_ways false refl h.1)
word_from (b ∷ w) h = ⊎_elim (λ e. first w (other_from b e) h.0.1) (λ e. longer (character_from b h.0.0) (word_from w (h.0.1, e))) (or_cases _ _ h.1)
  where
    first : (w : List ℕ) → NonDigit b → Each (or_digit letter_or_hyphen) w → AlphanumericIdentifier (b ∷ w)
    first [] d f = alone d
    first (c ∷ w) d f = before d (characters_from c w f)

-- identifiers
abbrev Small : Piece → Type 0
Small x = Capped limit (x ∷ [])

identifier_to : {w : List ℕ} {x : Piece} → PreReleaseIdentifier w x → Small x → Chunked letter_or_hyphen w x
identifier_to (s.alphanumeric a) l = let h = word_to a in word h.0 h.1
identifier_to (s.numerical n) l = number (number_to n l.0)

identifier_from : {w : List ℕ} {x : Piece} → Chunked letter_or_hyphen w x → PreReleaseIdentifier w x × Small x
identifier_from (number n) = let h = number_from n in (s.numerical h.0, (h.1, tt))
identifier_from (word e h) = (s.alphanumeric (word_from _ (e, h)), tt)

stretch_to : {w : List ℕ} → BuildIdentifier w → (c : List ℕ) × Stretch (or_digit letter_or_hyphen) w c
stretch_to {w} (s.alphanumeric a) = go w (word_to a)
  where
    go : (w : List ℕ) → Word w → (c : List ℕ) × Stretch (or_digit letter_or_hyphen) w c
    go [] h = absurd (both_ways false refl h.1)
    go (b ∷ w) h = (_, stretch h.0)
stretch_to (s.digits (s.one d)) = (_, stretch (or_left _ _ (digit_to d), tt))
stretch_to (s.digits (s.more {w = w} d o)) = (_, stretch (or_left _ _ (digit_to d), All-weaker _ _ (λ b d. or_left _ _ d) w (digits_to o)))

all_digits : (w : List ℕ) → Each (or_digit letter_or_hyphen) w → list_any letter_or_hyphen w ≡ false → Each is_ascii_digit w
all_digits [] e h = tt
all_digits (b ∷ w) e h =
    let p = or_parts _ _ h in
    (⊎_elim (λ d. d) (λ d. absurd (both_ways _ p.0 d)) (or_cases _ _ e.0), all_digits w e.1 p.1)

stretch_from : {w c : List ℕ} → Stretch (or_digit letter_or_hyphen) w c → BuildIdentifier w
stretch_from (stretch {b} {w} e) =
    ⊎_elim (λ h. s.alphanumeric (word_from (b ∷ w) (e, h))) (λ h. s.digits (digits_from b w (all_digits (b ∷ w) e h)).1) (cases_Bool (list_any letter_or_hyphen (b ∷ w)))

-- identifiers joined by dots
module _ {C : Type 0} (Q : List ℕ → C → Type 0) where
  single : {w : List ℕ} {c : C} → Q w c → Dotted Q w (c ∷ [])
  single {w} {c} q = subst (λ l. Dotted Q l (c ∷ [])) (append-nil w) (dotted q g.none)

  join : {v w : List ℕ} {c : C} {cs : List C} → Q v c → Dotted Q w cs → Dotted Q (v ++ (46 ∷ w)) (c ∷ cs)
  join q (dotted r m) = dotted q (g.more (g.behind r) m)

  module _ (S : List ℕ → List C → Type 0) (one : (w : List ℕ) (c : C) → Q w c → S w (c ∷ [])) (more : (v w : List ℕ) (c : C) (cs : List C) → Q v c → S w cs → S (v ++ (46 ∷ w)) (c ∷ cs)) where
    by_many : {w : List ℕ} {cs : List C} → Many (Behind 46 Q) w cs → (v : List ℕ) (c : C) → Q v c → S (v ++ w) (c ∷ cs)
    by_many g.none v c q = subst (λ l. S l (c ∷ [])) (sym (append-nil v)) (one v c q)
    by_many (g.more (g.behind {w = u} {c = d} r) m) v c q = more v _ c _ q (by_many m u d r)

    by_dots : {w : List ℕ} {cs : List C} → Dotted Q w cs → S w cs
    by_dots (dotted {v = v} {c = c} q m) = by_many m v c q

apart : (x : Piece) (xs : List Piece) → Capped limit (x ∷ xs) → Small x × Capped limit xs
apart (numeric m) xs l = ((l.0, tt), l.1)
apart (alphanum t) xs l = (tt, l)

together : (x : Piece) (xs : List Piece) → Small x → Capped limit xs → Capped limit (x ∷ xs)
together (numeric m) xs h l = (h.0, l)
together (alphanum t) xs h l = l

release_to : {w : List ℕ} {xs : List Piece} → PreRelease w xs → Capped limit xs → Dotted (Chunked letter_or_hyphen) w xs
release_to (s.one i) l = single _ (identifier_to i l)
release_to (s.more {x = x} {xs = xs} i r) l = let h = apart x xs l in join _ (identifier_to i h.0) (release_to r h.1)

release_from : {w : List ℕ} {xs : List Piece} → Dotted (Chunked letter_or_hyphen) w xs → PreRelease w xs × Capped limit xs
release_from =
    by_dots _ (λ w xs. PreRelease w xs × Capped limit xs)
    (λ w x q. let h = identifier_from q in (s.one h.0, h.1))
    (λ v w x xs q r. let h = identifier_from q in (s.more h.0 r.0, together x xs h.1 r.1))

build_to : {w : List ℕ} → Build w → (cs : List (List ℕ)) × Dotted (Stretch (or_digit letter_or_hyphen)) w cs
build_to (s.one i) = (_, single _ (stretch_to i).1)
build_to (s.more i m) = (_, join _ (stretch_to i).1 (build_to m).1)

build_from : {w : List ℕ} {cs : List (List ℕ)} → Dotted (Stretch (or_digit letter_or_hyphen)) w cs → Build w
build_from = by_dots _ (λ w _. Build w) (λ _ _ q. s.one (stretch_from q)) (λ _ _ _ _ q m. s.more (stretch_from q) m)

-- the whole
with_tail : {c r m : List ℕ} {i j k : ℕ} {rs : Option (List Piece)} {ms : Option (List ℕ)} → VersionCore c i j k
    → Within limit (record { major = i; minor = j; patch = k; release = rs; meta = ms }) → Perhaps Released r rs → Perhaps Metadata m ms
    → Combined (c ++ (r ++ m)) (record { major = i; minor = j; patch = k; release = rs; meta = ms })
with_tail (core a b d) l u v = simp append_assoc (combined (number_to a l.major) (g.behind (number_to b l.minor)) (g.behind (number_to d l.patch)) u v)

to : {text : List ℕ} {p : Parts} → ValidSemver text p → Within limit p → Combined text p
to (plain {c} v) l = rw (append-nil c) at (with_tail v l absent absent)
to (released c r) l = rw append-nil at (with_tail c l (present (g.behind (release_to r l.release))) absent)
to (built c m) l = with_tail c l absent (present (g.behind (spelled (build_to m).1)))
to (full c r m) l = with_tail c l (present (g.behind (release_to r l.release))) (present (g.behind (spelled (build_to m).1)))

core_from : {x y z : List ℕ} {i j k : ℕ} → Number x i → Behind 46 Number y j → Behind 46 Number z k → VersionCore (x ++ (y ++ z)) i j k
core_from a (g.behind b) (g.behind d) = core (number_from a).0 (number_from b).0 (number_from d).0

behind_from : {y : List ℕ} {j : ℕ} → Behind 46 Number y j → j ≤ limit
behind_from (g.behind b) = (number_from b).1

released_from : {r : List ℕ} {rs : Option (List Piece)} → Perhaps Released r rs → CappedRelease limit rs
released_from absent = tt
released_from (present (g.behind r)) = (release_from r).1

tail_from : {c r m : List ℕ} {i j k : ℕ} {rs : Option (List Piece)} {ms : Option (List ℕ)} → VersionCore c i j k → Perhaps Released r rs → Perhaps Metadata m ms
    → ValidSemver (c ++ (r ++ m)) (record { major = i; minor = j; patch = k; release = rs; meta = ms })
tail_from c absent absent = rw append-nil (plain c)
tail_from c (present (g.behind r)) absent = rw append-nil (released c (release_from r).0)
tail_from c absent (present (g.behind (spelled m))) = built c (build_from m)
tail_from c (present (g.behind r)) (present (g.behind (spelled m))) = full c (release_from r).0 (build_from m)

pub combined_from : (text : List ℕ) (p : Parts) → Ideal text p → Combined text p
combined_from text p h = to h.valid h.within

pub ideal_from : (text : List ℕ) (p : Parts) → Combined text p → Ideal text p
ideal_from text p (combined a b d u v) = record {
  valid = simp append_assoc at (tail_from (core_from a b d) u v);
  within = record { major = (number_from a).1; minor = behind_from b; patch = behind_from d; release = released_from u };
}
