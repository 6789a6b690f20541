-- Orders put together keep both laws. Assumes nothing.
use Rattle.std.specs.declared.cmp.Ordering.{Ordering}
use Rattle.std.proofs.Common.{◌∙◌}
use Rattle.std.specs.Cmp.{then_flip}
use Rattle.std.specs.Ordering.{ordering_then}
use Rattle.order.specs.Laws.{Balanced}

module _ {X : Type 0} {cmp : X → X → Ordering} (b : Balanced cmp) where
  -- one order, then another of the same values
  pub then_balanced : {next : X → X → Ordering} → Balanced next → Balanced (λ x y. ordering_then (cmp x y) (next x y))
  then_balanced {next = next} n = record {
    swapped = λ x y. (λ i. ordering_then (b.swapped x y i) (n.swapped x y i)) ∙ then_flip (cmp x y) (next x y);
    itself = λ x i. ordering_then (b.itself x i) (n.itself x i);
  }

  -- the order of what f says
  pub by_balanced : {Y : Type 0} (f : Y → X) → Balanced (λ x y. cmp (f x) (f y))
  by_balanced f = record { swapped = λ x y. b.swapped (f x) (f y); itself = λ x. b.itself (f x) }
