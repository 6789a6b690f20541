-- What the order of lists says of two lists. Assumes nothing.
use Rattle.std.proofs.Common.{◌≡◌, ◌⊎◌, List, [], ◌∷◌, ◌++◌, Ordering, Less, Equal, Greater, refl, ap, subst, inl, inr, ⊎_elim, arith}
use Rattle.std.specs.Ordering.{ordering_index, ordering_then}
use Rattle.order.specs.Laws.{Strict}
use Rattle.order.specs.Lists.{lex}

pub then_says : (a b o : Ordering) → ordering_then a b ≡ o → (a ≡ o) ⊎ ((a ≡ Equal) × (b ≡ o))
then_says Less b o e = inl e
then_says Equal b o e = inr (refl, e)
then_says Greater b o e = inl e

pub then_equal : (a b : Ordering) → ordering_then a b ≡ Equal → (a ≡ Equal) × (b ≡ Equal)
then_equal Less b e = absurd (omega (arith, ap ordering_index e))
then_equal Equal b e = (refl, e)
then_equal Greater b e = absurd (omega (arith, ap ordering_index e))

pub less_then : (a b : Ordering) → a ≡ Less → ordering_then a b ≡ Less
less_then a b e = ap (λ o. ordering_then o b) e

pub equal_then : (a b : Ordering) {o : Ordering} → a ≡ Equal → b ≡ o → ordering_then a b ≡ o
equal_then a b e f = λ i. ordering_then (e i) (f i)

module _ {X : Type 0} {cmp : X → X → Ordering} (equal : (x y : X) → cmp x y ≡ Equal → x ≡ y) where
  pub lex_equal : (xs ys : List X) → lex cmp xs ys ≡ Equal → xs ≡ ys
  lex_equal [] [] e = refl
  lex_equal [] (y ∷ ys) e = absurd (omega (arith, ap ordering_index e))
  lex_equal (x ∷ xs) [] e = absurd (omega (arith, ap ordering_index e))
  lex_equal (x ∷ xs) (y ∷ ys) e = let h = then_equal (cmp x y) (lex cmp xs ys) e in λ i. equal x y h.0 i ∷ lex_equal xs ys h.1 i

  -- of a list that is Less, the first other element is Less, or it is the front of the other list
  pub lex_less : {L : X → X → Type 0} → ((x y : X) → cmp x y ≡ Less → L x y)
      → (R : List X → List X → Type 0) → ((x y : X) (same xs ys : List X) → L x y → R (same ++ (x ∷ xs)) (same ++ (y ∷ ys))) → ((y : X) (same ys : List X) → R same (same ++ (y ∷ ys)))
      → (xs ys : List X) → lex cmp xs ys ≡ Less → R xs ys
  lex_less less R first front [] [] e = absurd (omega (arith, ap ordering_index e))
  lex_less less R first front [] (y ∷ ys) e = front y [] ys
  lex_less less R first front (x ∷ xs) [] e = absurd (omega (arith, ap ordering_index e))
  lex_less less R first front (x ∷ xs) (y ∷ ys) e = ⊎_elim
      (λ h. first x y [] xs ys (less x y h))
      (λ h. subst (λ z. R (x ∷ xs) (z ∷ ys)) (equal x y h.0) (lex_less less (λ us vs. R (x ∷ us) (x ∷ vs)) (λ u v same. first u v (x ∷ same)) (λ z same. front z (x ∷ same)) xs ys h.1))
      (then_says (cmp x y) (lex cmp xs ys) Less e)

-- and each of these gives back Less
module _ {X : Type 0} {cmp : X → X → Ordering} (s : Strict cmp) where
  pub less_first : (x y : X) (same xs ys : List X) → cmp x y ≡ Less → lex cmp (same ++ (x ∷ xs)) (same ++ (y ∷ ys)) ≡ Less
  less_first x y [] xs ys e = less_then _ _ e
  less_first x y (z ∷ same) xs ys e = equal_then _ _ (s.itself z) (less_first x y same xs ys e)

  pub less_front : (y : X) (same ys : List X) → lex cmp same (same ++ (y ∷ ys)) ≡ Less
  less_front y [] ys = refl
  less_front y (z ∷ same) ys = equal_then _ _ (s.itself z) (less_front y same ys)
