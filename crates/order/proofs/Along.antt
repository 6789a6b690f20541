-- The turns of a loop that compares two lists. Assumes nothing.
use Rattle.std.proofs.Common.{◌≡◌, ℕ, zero, suc, ◌+◌, ◌<◌, ◌≤◌, min, List, [], ◌∷◌, length, get_or, drop, Ordering, Less, Equal, Greater, sym, refl, ap, ◌∙◌, subst, le_of_suc-le-suc, not-suc-le-zero, add-one, arith}
use Rattle.std.specs.Ordering.{ordering_then, MatchOrdering}
use Rattle.order.specs.Lists.{lex}

-- an answer that is not Equal stands
decided : (o p : Ordering) → (o ≡ Equal → ⊥) → o ≡ ordering_then o p
decided Less p n = refl
decided Equal p n = absurd (n refl)
decided Greater p n = refl

module _ {X : Type 0} (cmp : X → X → Ordering) where
  turn : (xs ys : List X) (i : ℕ) (x y : X) → i < length xs → i < length ys → x ≡ get_or xs i x → y ≡ get_or ys i y → lex cmp (drop i xs) (drop i ys) ≡ ordering_then (cmp x y) (lex cmp (drop (suc i) xs) (drop (suc i) ys))
  turn [] ys i x y h g e f = absurd (not-suc-le-zero h)
  turn (u ∷ us) [] i x y h g e f = absurd (not-suc-le-zero g)
  turn (u ∷ us) (v ∷ vs) zero x y h g e f = λ j. ordering_then (cmp (sym e j) (sym f j)) (lex cmp us vs)
  turn (u ∷ us) (v ∷ vs) (suc i) x y h g e f = turn us vs i x y (le_of_suc-le-suc h) (le_of_suc-le-suc g) e f

  -- where a list has ended, the lengths decide
  ended : (xs ys : List X) (i : ℕ) (r : Ordering) → i ≡ min (length xs) (length ys) → MatchOrdering r (length xs < length ys) (length xs ≡ length ys) (length ys < length xs) → r ≡ lex cmp (drop i xs) (drop i ys)
  ended [] [] zero Less m h = absurd (not-suc-le-zero h)
  ended [] [] zero Equal m h = refl
  ended [] [] zero Greater m h = absurd (not-suc-le-zero h)
  ended [] [] (suc i) r m h = absurd (omega arith)
  ended [] (v ∷ vs) zero Less m h = refl
  ended [] (v ∷ vs) zero Equal m h = absurd (omega arith)
  ended [] (v ∷ vs) zero Greater m h = absurd (not-suc-le-zero h)
  ended [] (v ∷ vs) (suc i) r m h = absurd (omega arith)
  ended (u ∷ us) [] zero Less m h = absurd (not-suc-le-zero h)
  ended (u ∷ us) [] zero Equal m h = absurd (omega arith)
  ended (u ∷ us) [] zero Greater m h = refl
  ended (u ∷ us) [] (suc i) r m h = absurd (omega arith)
  ended (u ∷ us) (v ∷ vs) zero r m h = absurd (omega arith)
  ended (u ∷ us) (v ∷ vs) (suc i) Less m h = ended us vs i Less (omega arith) (le_of_suc-le-suc h)
  ended (u ∷ us) (v ∷ vs) (suc i) Equal m h = ended us vs i Equal (omega arith) (omega arith)
  ended (u ∷ us) (v ∷ vs) (suc i) Greater m h = ended us vs i Greater (omega arith) (le_of_suc-le-suc h)

  module _ (xs ys : List X) (i : ℕ) {m n e : ℕ} (u : m ≡ length xs) (v : n ≡ length ys) (w : e ≡ min m n) (same : lex cmp xs ys ≡ lex cmp (drop i xs) (drop i ys)) where
    module _ {x y : X} {o : Ordering} (t : i < e) (ix : x ≡ get_or xs i x) (iy : y ≡ get_or ys i y) (says : o ≡ cmp x y) where
      along : lex cmp xs ys ≡ ordering_then o (lex cmp (drop (suc i) xs) (drop (suc i) ys))
      along = same ∙ turn xs ys i x y (omega arith) (omega arith) ix iy ∙ ap (λ q. ordering_then q (lex cmp (drop (suc i) xs) (drop (suc i) ys))) (sym says)

      -- the pair at i decides
      pub lex_decided : {r : Ordering} → r ≡ o → (r ≡ Equal → ⊥) → r ≡ lex cmp xs ys
      lex_decided {r = r} is n = decided r (lex cmp (drop (suc i) xs) (drop (suc i) ys)) n ∙ ap (λ q. ordering_then q (lex cmp (drop (suc i) xs) (drop (suc i) ys))) is ∙ sym along

      -- the pair at i is equal, so the rest decides
      pub lex_level : Equal ≡ o → lex cmp xs ys ≡ lex cmp (drop (i + 1) xs) (drop (i + 1) ys)
      lex_level is = rw add-one (along ∙ ap (λ q. ordering_then q (lex cmp (drop (suc i) xs) (drop (suc i) ys))) (sym is))

    -- one of the lists has ended
    pub lex_ended : {r : Ordering} → e ≤ i → i ≤ e → MatchOrdering r (m < n) (m ≡ n) (n < m) → r ≡ lex cmp xs ys
    lex_ended {r = r} p q h =
        let k : MatchOrdering r (length xs < length ys) (length xs ≡ length ys) (length ys < length xs) =
        subst (λ t. MatchOrdering r (length xs < t) (length xs ≡ t) (t < length xs)) v (subst (λ t. MatchOrdering r (t < n) (t ≡ n) (n < t)) u h) in
        ended xs ys i r (omega arith) k ∙ sym same
