-- What an Ideal label beside its text says, and its order. Assumes nothing.
use Rattle.std.specs.Prelude.{◌≡◌, ℕ, List}
use Rattle.std.specs.declared.cmp.Ordering.TheVariants.{Equal}
use Rattle.std.specs.declared.cmp.Ordering.{Ordering}
use Rattle.order.specs.Orders.{Order}
use Rattle.standard.specs.Parts.{Parts}
use Rattle.standard.specs.Order.{ideal_order}
use Rattle.standard.specs.Theorems.{Ideal, Iff, before_plus}
use Rattle.standard.proofs.Stricts.{strict_stands}
use Rattle.ideals.specs.declared.ideal.IdealIn.{IdealIn}
use Rattle.ideals.specs.Labels.{parts_in}

abbrev pub parts_of : IdealIn → Parts
parts_of x = parts_in x.text.now x.semver.now

-- Ideals, by the order of their parts
abbrev pub ideally : Order IdealIn
ideally = record { Value = Parts; value = parts_of; answer = ideal_order; laws = record { swapped = strict_stands.swapped; itself = strict_stands.itself } }

-- of two texts that are Ideals with these parts: Equal exactly if they agree before any plus sign
abbrev pub Agreement : List ℕ → List ℕ → Parts → Parts → Ordering → Type 0
Agreement s t p q o = Ideal s p → Ideal t q → Iff (o ≡ Equal) (before_plus s ≡ before_plus t)
