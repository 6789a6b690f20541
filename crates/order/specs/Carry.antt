-- What the elements' order keeps, the lists' order keeps. Assumes nothing.
use Rattle.std.specs.Prelude.{◌≡◌, List, [], ◌∷◌, refl}
use Rattle.std.specs.declared.cmp.Ordering.TheVariants.{Less, Equal, Greater}
use Rattle.std.specs.declared.cmp.Ordering.{Ordering}
use Rattle.std.proofs.Common.{sym, ap, subst, ◌∙◌}
use Rattle.std.specs.Ordering.{ordering_reverse, ordering_then}
use Rattle.order.specs.Laws.{NotGreater, Balanced, Strict}
use Rattle.order.specs.Lists.{lex}

then_back : (a b : Ordering) → ordering_then (ordering_reverse a) (ordering_reverse b) ≡ ordering_reverse (ordering_then a b)
then_back Less b = refl
then_back Equal b = refl
then_back Greater b = refl

front : (a p : Ordering) → NotGreater (ordering_then a p) → NotGreater a
front Less p h = tt
front Equal p h = tt
front Greater p h = h

tight : (a : Ordering) → NotGreater a → NotGreater (ordering_reverse a) → a ≡ Equal
tight Less h k = absurd k
tight Equal h k = refl
tight Greater h k = absurd h

step : (a b c p q r : Ordering) → (NotGreater a → NotGreater b → NotGreater c) → (c ≡ Equal → NotGreater a → NotGreater b → (a ≡ Equal) × (b ≡ Equal)) → (NotGreater p → NotGreater q → NotGreater r)
    → NotGreater (ordering_then a p) → NotGreater (ordering_then b q) → NotGreater (ordering_then c r)
step a b Less p q r f e k h g = tt
step a b Equal p q r f e k h g =
    let both = e refl (front a p h) (front b q g) in
    k (subst (λ o. NotGreater (ordering_then o p)) both.0 h) (subst (λ o. NotGreater (ordering_then o q)) both.1 g)
step a b Greater p q r f e k h g = f (front a p h) (front b q g)

module _ {X : Type 0} (cmp : X → X → Ordering) (back : (x y : X) → cmp y x ≡ ordering_reverse (cmp x y)) where
  pub lex_swapped : (xs ys : List X) → lex cmp ys xs ≡ ordering_reverse (lex cmp xs ys)
  lex_swapped [] [] = refl
  lex_swapped [] (y ∷ ys) = refl
  lex_swapped (x ∷ xs) [] = refl
  lex_swapped (x ∷ xs) (y ∷ ys) = (λ i. ordering_then (back x y i) (lex_swapped xs ys i)) ∙ then_back (cmp x y) (lex cmp xs ys)

module _ {X : Type 0} (cmp : X → X → Ordering) (same : (x : X) → cmp x x ≡ Equal) where
  pub lex_itself : (xs : List X) → lex cmp xs xs ≡ Equal
  lex_itself [] = refl
  lex_itself (x ∷ xs) = λ i. ordering_then (same x i) (lex_itself xs i)

module _ {X : Type 0} {cmp : X → X → Ordering} (s : Strict cmp) where
  level : (x y z : X) → cmp x z ≡ Equal → NotGreater (cmp x y) → NotGreater (cmp y z) → (cmp x y ≡ Equal) × (cmp y z ≡ Equal)
  level x y z e p q =
      let turned : NotGreater (cmp z x) = subst NotGreater (sym (s.swapped x z ∙ ap ordering_reverse e)) tt in (
        tight (cmp x y) p (subst NotGreater (s.swapped x y) (s.carried y z x q turned)),
        tight (cmp y z) q (subst NotGreater (s.swapped y z) (s.carried z x y turned p)),
      )

  pub lex_carried : (xs ys zs : List X) → NotGreater (lex cmp xs ys) → NotGreater (lex cmp ys zs) → NotGreater (lex cmp xs zs)
  lex_carried [] [] zs h g = g
  lex_carried [] (y ∷ ys) [] h g = tt
  lex_carried [] (y ∷ ys) (z ∷ zs) h g = tt
  lex_carried (x ∷ xs) [] zs h g = absurd h
  lex_carried (x ∷ xs) (y ∷ ys) [] h g = g
  lex_carried (x ∷ xs) (y ∷ ys) (z ∷ zs) h g = step (cmp x y) (cmp y z) (cmp x z) (lex cmp xs ys) (lex cmp ys zs) (lex cmp xs zs) (s.carried x y z) (level x y z) (lex_carried xs ys zs) h g

  pub lex_strict : Strict (lex cmp)
  lex_strict = record { swapped = lex_swapped cmp s.swapped; itself = lex_itself cmp s.itself; carried = lex_carried }

  -- one order, then another of the same values
  pub then_strict : {next : X → X → Ordering} → Strict next → Strict (λ x y. ordering_then (cmp x y) (next x y))
  then_strict {next = next} t = record {
    swapped = λ x y. (λ i. ordering_then (s.swapped x y i) (t.swapped x y i)) ∙ then_back (cmp x y) (next x y);
    itself = λ x i. ordering_then (s.itself x i) (t.itself x i);
    carried = λ x y z. step (cmp x y) (cmp y z) (cmp x z) (next x y) (next y z) (next x z) (s.carried x y z) (level x y z) (t.carried x y z);
  }

  -- the order of what f says
  pub by_strict : {Y : Type 0} (f : Y → X) → Strict (λ x y. cmp (f x) (f y))
  by_strict f = record { swapped = λ x y. s.swapped (f x) (f y); itself = λ x. s.itself (f x); carried = λ x y z. s.carried (f x) (f y) (f z) }

pub lex_balanced : {X : Type 0} {cmp : X → X → Ordering} → Balanced cmp → Balanced (lex cmp)
lex_balanced {cmp = cmp} b = record { swapped = lex_swapped cmp b.swapped; itself = lex_itself cmp b.itself }
