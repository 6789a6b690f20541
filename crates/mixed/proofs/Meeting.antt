-- Numbers that meet. Assumes nothing.
use Rattle.std.proofs.Common.{◌≡◌, ℕ, zero, suc, ◌+◌, ◌-◌, ◌<◌, List, [], ◌∷◌, length, get_or, drop, Some, None, Option, Ok, Err, Result, Ordering, Less, Equal, Greater, sym, refl, ap, ◌∙◌, arith}
use Rattle.std.specs.Ordering.{ordering_then, nat_cmp}
use Rattle.chunk.specs.Piece.{Piece}
use Rattle.texts.specs.Tables.{Taken}
use Rattle.version.specs.Parts as version
use Rattle.version.specs.Parts.{LastPart}
use Rattle.version.specs.Numbers as general
use Rattle.versioning.specs.Labels.{ideal_nth}
use Rattle.mess.specs.Parts as mess
use Rattle.mess.specs.Reading as complex
use Rattle.mixed.specs.Meeting.{decided, pair, met_from}
use Rattle.mixed.specs.Generals.{meets, before_chunk, tied}
use Rattle.mixed.specs.Complexes.{meet, meet_from}

-- the order that a pair decided, or what is answered at the position where the numbers end
abbrev pub settled : Result Ordering ℕ → (ℕ → Ordering) → Ordering
settled (Ok o) ended = o
settled (Err n) ended = ended n

first : (o : Ordering) (r : Result Ordering ℕ) (ended : ℕ → Ordering) → settled (decided o r) ended ≡ ordering_then o (settled r ended)
first Less r ended = refl
first Equal r ended = refl
first Greater r ended = refl

-- a number meets one that may be absent
one : (n a : ℕ) (o : Option ℕ) (r : Result Ordering ℕ) (ended : ℕ → Ordering) → settled (pair n (Some a) o r) ended ≡ meets a o (ended n) (settled r ended)
one n a None r ended = refl
one n a (Some b) r ended = first (nat_cmp a b) r ended

-- the three numbers of an Ideal
pub three : (x y z : ℕ) (g : ℕ → Option ℕ) (ended : ℕ → Ordering)
    → settled (met_from (ideal_nth x y z) g 0 3) ended ≡ meets x (g 0) (ended 0) (meets y (g 1) (ended 1) (meets z (g 2) (ended 2) (ended 3)))
three x y z g ended =
    one 0 x (g 0) _ ended ∙ ap (meets x (g 0) (ended 0)) (one 1 y (g 1) _ ended ∙ ap (meets y (g 1) (ended 1)) (one 2 z (g 2) _ ended))

-- two numbers that may be absent
both : (n : ℕ) (a b : Option ℕ) (r : Result Ordering ℕ) (o : Ordering) → settled (pair n a b r) (λ n. o) ≡ meet a b o (settled r (λ n. o))
both n None b r o = refl
both n (Some a) b r o = one n a b r (λ n. o)

-- the numbers of a General and of a Complex
pub positions : (g : version.Parts) (m : mess.Parts) (converted : Ordering) (n k : ℕ) → settled (met_from (general.nth_of g) (λ n. complex.nth_of n m) n k) (λ n. converted) ≡ meet_from g m converted n k
positions g m converted n zero = refl
positions g m converted n (suc k) = both n (general.nth_of g n) (complex.nth_of n m) _ converted ∙ ap (meet (general.nth_of g n) (complex.nth_of n m) converted) (positions g m converted (n + 1) k)

-- a tie goes on
pub goes_on : (f g : ℕ → Option ℕ) (n k : ℕ) {a b : ℕ} → 0 < k → f n ≡ Some a → g n ≡ Some b → nat_cmp a b ≡ Equal → met_from f g n k ≡ met_from f g (n + 1) (k - 1)
goes_on f g n zero h x y e = absurd (omega arith)
goes_on f g n (suc k) h x y e =
    let z : k ≡ suc k - 1 = omega arith in
    (λ i. pair n (x i) (y i) (met_from f g (n + 1) k)) ∙ ap (λ o. decided o (met_from f g (n + 1) k)) e ∙ ap (met_from f g (n + 1)) z

-- the fourth chunk decides
pub by_fourth : (release : Option (List Piece)) (xs : List Piece) (last : LastPart) (x : Piece) (ys : List Piece) {r : Ordering} → ys ≡ xs → Taken ys 3 (Some x) → r ≡ before_chunk x → r ≡ tied release (drop 2 xs) last
by_fourth release [] last x ys e h i = absurd (omega (arith, ap length e, h.0))
by_fourth release (a ∷ []) last x ys e h i = absurd (omega (arith, ap length e, h.0))
by_fourth release (a ∷ b ∷ []) last x ys e h i = absurd (omega (arith, ap length e, h.0))
by_fourth release (a ∷ b ∷ c ∷ []) last x ys e h i = absurd (omega (arith, ap length e, h.0))
by_fourth release (a ∷ b ∷ c ∷ d ∷ xs) last x ys e h i = i ∙ ap before_chunk (sym (h.1 d) ∙ ap (λ l. get_or l 3 d) e)
