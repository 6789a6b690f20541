-- The class of a run, byte by byte. Assumes nothing.
use Rattle.std.proofs.Common.{◌≡◌, ℕ, ◌+◌, ◌-◌, ◌*◌, ◌<◌, ◌≤◌, true, false, eqb, leb, List, [], ◌∷◌, ◌++◌, sym, refl, ap, ◌∙◌, subst, append_assoc, append-nil, arith}
use Rattle.std.specs.List.{fold}
use Rattle.std.specs.Char.{is_ascii_digit}
use Rattle.std.specs.Str.{all_ascii_digits}
use Rattle.std.proofs.lemmas.Bool.{and_parts, and_from, and_left, and_right, both_ways, cond_both, cond-true, cond-false, eqb-true, ne_eqb, le-leb, lt-leb, leb-true, leb-false}
use Rattle.std.proofs.lemmas.Bool.Decides.{nat_tests}
use Rattle.parsers.specs.Grammar.{limit, worth}
use Rattle.parsers.proofs.Numbers.{worth_append}
use Rattle.mess.specs.declared.class.Class.{Class}
use Rattle.mess.specs.declared.class.Class.TheVariants.{Start, OnlyR, Digits, Rev, Plain}
use Rattle.mess.specs.Parts.{digits, rev, plain}
use Rattle.mess.specs.Reading.{counts, revises, sorted}
use Rattle.mess.specs.Classes.{counted_on, after_of, classed}

all_append : (v w : List ℕ) → all_ascii_digits v ≡ true → all_ascii_digits w ≡ true → all_ascii_digits (v ++ w) ≡ true
all_append [] w e f = f
all_append (b ∷ v) w e f = let p = and_parts _ _ e in and_from _ _ p.0 (all_append v w p.1 f)

not_all : (v w : List ℕ) → all_ascii_digits w ≡ false → all_ascii_digits (v ++ w) ≡ false
not_all [] w f = f
not_all (b ∷ v) w f = and_right _ _ (not_all v w f)

grows : (n : ℕ) (w : List ℕ) → n ≤ worth n w
grows n [] = omega arith
grows n (b ∷ w) = omega (arith, grows (n * 10 + (b - 48)) w)

counts_from : (w : List ℕ) (b : ℕ) → all_ascii_digits (w ++ b ∷ []) ≡ true → worth 0 (w ++ b ∷ []) ≤ limit → counts (w ++ b ∷ []) ≡ true
counts_from [] b e l = and_from _ _ e (le-leb _ _ l)
counts_from (x ∷ w) b e l = and_from _ _ e (le-leb _ _ l)

-- a byte that is no digit, or a number above the limit
counts_not : (w : List ℕ) → all_ascii_digits w ≡ false → counts w ≡ false
counts_not [] e = refl
counts_not (b ∷ w) e = and_left _ _ e

counts_over : (w : List ℕ) → limit < worth 0 w → counts w ≡ false
counts_over [] h = refl
counts_over (b ∷ w) h = and_right _ _ (lt-leb _ _ h)

counts_all : (w : List ℕ) → counts w ≡ true → all_ascii_digits w ≡ true
counts_all [] e = absurd (both_ways false refl e)
counts_all (b ∷ w) e = (and_parts _ _ e).0

-- digits do not begin with r
digits_first : (w v : List ℕ) → counts w ≡ true → revises (w ++ v) ≡ false
digits_first [] v e = absurd (both_ways false refl e)
digits_first (b ∷ w) v e =
    let d : is_ascii_digit b ≡ true = (and_parts _ _ (counts_all (b ∷ w) e)).0 in
    and_left _ _ (ne_eqb b 114 (λ r. both_ways _ refl (subst (λ x. is_ascii_digit x ≡ true) r d)))

plainly : (w : List ℕ) → counts w ≡ false → revises w ≡ false → sorted w ≡ plain w
plainly w f g = cond-false _ _ _ f ∙ cond-false _ _ _ g

-- digits, and one byte more
module _ (w : List ℕ) (b : ℕ) where
  other : is_ascii_digit b ≡ false → (v : List ℕ) → counts (w ++ b ∷ v) ≡ false
  other f v = counts_not (w ++ b ∷ v) (not_all w (b ∷ v) (and_left _ _ f))

  over : limit < worth 0 w * 10 + (b - 48) → (v : List ℕ) → counts (w ++ b ∷ v) ≡ false
  over h v = counts_over (w ++ b ∷ v) (omega (arith, worth_append 0 w (b ∷ v), grows (worth 0 w * 10 + (b - 48)) v))

  digit : counts w ≡ true → is_ascii_digit b ≡ true → worth 0 w * 10 + (b - 48) ≤ limit → counts (w ++ b ∷ []) ≡ true
  digit c d l = counts_from w b (all_append w (b ∷ []) (counts_all w c) (and_from _ _ d refl)) (subst (λ n. n ≤ limit) (sym (worth_append 0 w (b ∷ []))) l)

  -- whatever follows, both ends of the step
  on : (P : List ℕ → Type 0) → ((v : List ℕ) → P (w ++ b ∷ v)) → (v : List ℕ) → P ((w ++ b ∷ []) ++ v)
  on P h v = subst P (sym (append_assoc w (b ∷ []) v)) (h v)

-- what a class says of the bytes read so far
abbrev pub Says : Class → List ℕ → Type 0
Says Start w = w ≡ []
Says OnlyR w = w ≡ 114 ∷ []
Says (Digits n) w = (counts w ≡ true) × (worth 0 w ≡ n)
Says (Rev n) w = (v : List ℕ) × (w ≡ 114 ∷ v) × (counts v ≡ true) × (worth 0 v ≡ n)
Says Plain w = (v : List ℕ) → sorted (w ++ v) ≡ plain (w ++ v)

one_digit : (b : ℕ) → is_ascii_digit b ≡ true → counts (b ∷ []) ≡ true
one_digit b d = and_from _ _ (and_from _ _ d refl) (le-leb _ _ (grind (arith, nat_tests)))

step : (c : Class) (w : List ℕ) (b : ℕ) → Says c w → Says (after_of c b) (w ++ b ∷ [])
step Start w b s = subst (λ l. Says (after_of Start b) (l ++ b ∷ [])) (sym s)
    (cond_both (is_ascii_digit b) _ _ (λ c. Says c (b ∷ []))
    (λ d. (one_digit b d, omega arith))
    (λ f. cond_both (eqb b 114) _ _ (λ c. Says c (b ∷ [])) (λ e. ap (λ x. x ∷ []) (eqb-true b 114 e)) (λ g v. plainly (b ∷ v) (other [] b f v) (and_left _ _ g))))
step OnlyR w b s = subst (λ l. Says (after_of OnlyR b) (l ++ b ∷ [])) (sym s)
    (cond_both (is_ascii_digit b) _ _ (λ c. Says c (114 ∷ b ∷ []))
    (λ d. (b ∷ [], refl, one_digit b d, omega arith))
    (λ f v. plainly (114 ∷ b ∷ v) refl (other [] b f v)))
step (Digits n) w b (c, e) =
    cond_both (is_ascii_digit b) _ _ (λ c. Says c (w ++ b ∷ []))
    (λ d. cond_both (leb (n * 10 + (b - 48)) limit) _ _ (λ o. Says (counted_on Digits o) (w ++ b ∷ []))
    (λ l. let m = leb-true _ _ l in (digit w b c d (omega (arith, e)), worth_append 0 w (b ∷ []) ∙ ap (λ x. x * 10 + (b - 48)) e))
    (λ g. let m = leb-false _ _ g in on w b (λ l. sorted l ≡ plain l) (λ v. plainly (w ++ b ∷ v) (over w b (omega (arith, e)) v) (digits_first w (b ∷ v) c))))
    (λ f. on w b (λ l. sorted l ≡ plain l) (λ v. plainly (w ++ b ∷ v) (other w b f v) (digits_first w (b ∷ v) c)))
step (Rev n) w b (u, r, c, e) = subst (λ l. Says (after_of (Rev n) b) (l ++ b ∷ [])) (sym r)
    (cond_both (is_ascii_digit b) _ _ (λ c. Says c (114 ∷ (u ++ b ∷ [])))
    (λ d. cond_both (leb (n * 10 + (b - 48)) limit) _ _ (λ o. Says (counted_on Rev o) (114 ∷ (u ++ b ∷ [])))
    (λ l. let m = leb-true _ _ l in (u ++ b ∷ [], refl, digit u b c d (omega (arith, e)), worth_append 0 u (b ∷ []) ∙ ap (λ x. x * 10 + (b - 48)) e))
    (λ g. let m = leb-false _ _ g in on u b (λ l. sorted (114 ∷ l) ≡ plain (114 ∷ l)) (λ v. plainly (114 ∷ (u ++ b ∷ v)) refl (over u b (omega (arith, e)) v))))
    (λ f. on u b (λ l. sorted (114 ∷ l) ≡ plain (114 ∷ l)) (λ v. plainly (114 ∷ (u ++ b ∷ v)) refl (other u b f v))))
step Plain w b s = on w b (λ l. sorted l ≡ plain l) (λ v. s (b ∷ v))

done : (c : Class) (w : List ℕ) → Says c w → classed c w ≡ sorted w
done Start w s = subst (λ l. plain l ≡ sorted l) (sym s) refl
done OnlyR w s = subst (λ l. plain l ≡ sorted l) (sym s) refl
done (Digits n) w (c, e) = sym (cond-true _ _ _ c ∙ ap (λ n. digits n w) e)
done (Rev n) w (u, r, c, e) = subst (λ l. rev n l ≡ sorted l) (sym r) (sym (cond-true _ _ _ c ∙ ap (λ n. rev n (114 ∷ u)) e))
done Plain w s = sym (rw append-nil at (s []))

-- the class of bytes that are read one by one
says_all : (c : Class) (v w : List ℕ) → Says c v → Says (fold after_of c w) (v ++ w)
says_all c v [] s = subst (Says c) (sym (append-nil v)) s
says_all c v (b ∷ w) s = subst (Says (fold after_of c (b ∷ w))) (append_assoc v (b ∷ []) w) (says_all (after_of c b) (v ++ b ∷ []) w (step c v b s))

pub classes : (w : List ℕ) → classed (fold after_of Start w) w ≡ sorted w
classes w = done (fold after_of Start w) w (says_all Start [] w refl)
