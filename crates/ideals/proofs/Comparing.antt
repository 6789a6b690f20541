-- How the order of Ideals is put together. Assumes nothing.
use Rattle.std.proofs.Common.{◌≡◌, ℕ, List, Ordering, Less, Equal, Greater, sym, refl, ap, ◌∙◌, subst}
use Rattle.std.specs.Ordering.{ordering_then, nat_cmp}
use Rattle.standard.specs.Parts.{Parts}
use Rattle.standard.specs.Order.{release_order, ideal_order}
use Rattle.standard.specs.Theorems.{Standard}
use Rattle.standard.proofs.Precedences.{precedence_stands}
use Rattle.standard.proofs.Agreements.{agreement_stands}
use Rattle.ideals.specs.Views.{Agreement}

assoc : (a b c : Ordering) → ordering_then (ordering_then a b) c ≡ ordering_then a (ordering_then b c)
assoc Less b c = refl
assoc Equal b c = refl
assoc Greater b c = refl

-- an answer that is not Equal stands
stands : (o p : Ordering) → (o ≡ Equal → ⊥) → o ≡ ordering_then o p
stands Less p n = refl
stands Equal p n = absurd (n refl)
stands Greater p n = refl

-- the numbers, and where they are the same the Releases
module _ (p q : Parts) {numbers : Ordering} (n : numbers ≡ ordering_then (ordering_then (nat_cmp p.major q.major) (nat_cmp p.minor q.minor)) (nat_cmp p.patch q.patch)) where
  joined : ordering_then numbers (release_order p.release q.release) ≡ ideal_order p q
  joined =
      let r = release_order p.release q.release in
      ap (λ o. ordering_then o r) n ∙ assoc (ordering_then (nat_cmp p.major q.major) (nat_cmp p.minor q.minor)) (nat_cmp p.patch q.patch) r ∙ assoc (nat_cmp p.major q.major) (nat_cmp p.minor q.minor) (ordering_then (nat_cmp p.patch q.patch) r)

  -- the numbers are the same
  pub level : numbers ≡ Equal → {o : Ordering} → o ≡ release_order p.release q.release → o ≡ ideal_order p q
  level e i = i ∙ ap (λ o. ordering_then o (release_order p.release q.release)) (sym e) ∙ joined

  -- the numbers decide
  pub decided : (numbers ≡ Equal → ⊥) → numbers ≡ ideal_order p q
  decided e = stands numbers _ e ∙ joined

-- the answer is the standard's, and agrees with the texts
pub standard : {p q : Parts} {o : Ordering} → o ≡ ideal_order p q → Standard p q o
standard {p} {q} i = subst (Standard p q) (sym i) (precedence_stands p q)

pub agreement : {p q : Parts} {o : Ordering} (s t : List ℕ) → o ≡ ideal_order p q → Agreement s t p q o
agreement {p} {q} s t i = subst (Agreement s t p q) (sym i) (agreement_stands s t p q)
