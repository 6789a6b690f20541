-- What holds of the order of labels. Assumes nothing.
use Rattle.std.proofs.Common.{◌≡◌, ℕ, ◌<◌, Bool, true, List, Ordering, Less, Greater, sym, refl, ap, ◌∙◌, subst, arith}
use Rattle.std.specs.Ordering.{ordering_reverse, is_eq}
use Rattle.std.proofs.lemmas.Bool.{cond-true, lt-ltb}
use Rattle.standard.specs.Parts as standard
use Rattle.standard.specs.Order.{ideal_order}
use Rattle.standard.specs.Theorems.{Standard, Iff}
use Rattle.standard.proofs.Agreements.{agreement_stands}
use Rattle.standard.proofs.Precedences.{precedence_stands}
use Rattle.version.specs.Parts as version
use Rattle.versioning.specs.Labels.{Parts}
use Rattle.general.specs.Order.{era}
use Rattle.general.proofs.Comparing as comparing
use Rattle.mixed.specs.Equality.{equal_from, same_to, same_from}
use Rattle.mixed.specs.Generals.{ideal_general}
use Rattle.mixed.specs.Labels.{label_order, Epoch, of_ideal, of_general, HigherEpoch, AmongIdeals, equal_of, SameLabel, Agreeing}

below : (p : standard.Parts) (g : version.Parts) → 0 < era g → ideal_general p g ≡ Less
below p g h = cond-true _ _ _ (lt-ltb 0 (era g) h)

higher : {x y : Parts} {m n : ℕ} → Epoch x m → Epoch y n → n < m → label_order x y ≡ Greater
higher of_ideal of_ideal h = absurd (omega arith)
higher of_ideal (of_general {g}) h = absurd (omega arith)
higher (of_general {g}) (of_ideal {p}) h = ap ordering_reverse (below p g h)
higher (of_general {g}) (of_general {g = k}) h = (comparing.epochs {p = g} {q = k} refl).higher h

lower : {x y : Parts} {m n : ℕ} → Epoch x m → Epoch y n → m < n → label_order x y ≡ Less
lower of_ideal of_ideal h = absurd (omega arith)
lower (of_ideal {p}) (of_general {g}) h = below p g h
lower (of_general {g}) of_ideal h = absurd (omega arith)
lower (of_general {g}) (of_general {g = k}) h = (comparing.epochs {p = g} {q = k} refl).lower h

pub epochs : {x y : Parts} {o : Ordering} → o ≡ label_order x y → HigherEpoch x y o
epochs e = record { higher = λ m n a b h. e ∙ higher a b h; lower = λ m n a b h. e ∙ lower a b h }

pub among_ideals : {x y : Parts} {o : Ordering} → o ≡ label_order x y → AmongIdeals x y o
among_ideals {o = o} e p q a b = subst (Standard p q) (sym (e ∙ λ i. label_order (a i) (b i))) (precedence_stands p q)

pub same_label : (s t : List ℕ) (x y : Parts) {r : Bool} → r ≡ equal_of s t x y → Iff (r ≡ true) (SameLabel s t x y)
same_label s t x y e = subst (λ b. Iff (b ≡ true) (SameLabel s t x y)) (sym e) (same_to s t x y, same_from)

pub agreeing : (s t : List ℕ) (x y : Parts) {r : Bool} → r ≡ equal_of s t x y → Agreeing s t x y r
agreeing s t x y {r} e p q a b h k =
    let is : r ≡ is_eq (ideal_order p q) = e ∙ λ i. equal_of s t (a i) (b i) in
    let stands = agreement_stands s t p q h k in
    (λ z. stands.0 (equal_from (ideal_order p q) (sym is ∙ z)), λ z. is ∙ ap is_eq (stands.1 z))
