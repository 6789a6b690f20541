-- How the order of Generals is put together. Assumes nothing.
use Rattle.std.proofs.Common.{◌≡◌, Ordering, Less, Greater, sym, ap, ◌∙◌}
use Rattle.std.specs.Cmp.{nat_cmp_is}
use Rattle.std.specs.Ordering.{ordering_then, nat_cmp}
use Rattle.version.specs.Parts.{Parts}
use Rattle.general.specs.Order.{era, body_order, general_order, HigherEpoch}

-- the one with the higher epoch is Greater
pub epochs : {p q : Parts} {o : Ordering} → o ≡ general_order p q → HigherEpoch p q o
epochs {p} {q} e =
    let by : (r : Ordering) → r ≡ nat_cmp (era p) (era q) → general_order p q ≡ ordering_then r (body_order p q) = λ r i. ap (λ r. ordering_then r (body_order p q)) (sym i) in
    record { higher = λ h. e ∙ by Greater (nat_cmp_is (era p) (era q) Greater h); lower = λ h. e ∙ by Less (nat_cmp_is (era p) (era q) Less h) }
