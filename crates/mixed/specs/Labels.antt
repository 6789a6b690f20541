-- How every two labels compare, and its laws. Assumes nothing.
use Rattle.std.specs.Prelude.{◌≡◌, ℕ, ◌<◌, Bool, true, false, List, refl}
use Rattle.std.specs.declared.cmp.Ordering.TheVariants.{Less, Equal, Greater}
use Rattle.std.specs.declared.cmp.Ordering.{Ordering}
use Rattle.std.specs.Ordering.{ordering_reverse, is_eq, nat_cmp}
use Rattle.order.specs.Laws.{Balanced}
use Rattle.order.specs.Lists.{lex}
use Rattle.standard.specs.Parts as standard
use Rattle.standard.specs.Precedence.{Level}
use Rattle.standard.specs.Theorems.{Ideal, Standard, Iff, before_plus}
use Rattle.standard.specs.Order.{ideal_order}
use Rattle.version.specs.Parts as version
use Rattle.mess.specs.Parts as mess
use Rattle.standard.proofs.Stricts.{strict_stands}
use Rattle.versioning.specs.First.{ideal, general, complex}
use Rattle.versioning.specs.Labels.{Parts}
use Rattle.order.specs.Carry.{lex_balanced}
use Rattle.lenient.specs.Order.{twice}
use Rattle.general.specs.Laws.{by_balanced}
use Rattle.general.specs.Order.{era, general_order, general_balanced}
use Rattle.mess.specs.Order.{mchunk_balanced}
use Rattle.complex.specs.Order.{levels_of, complex_order}
use Rattle.mixed.specs.Generals.{ideal_general}
use Rattle.mixed.specs.Complexes.{ideal_complex, general_complex}

-- labels of one form by its order; a mixed pair in the other order gives the reverse
abbrev pub label_order : Parts → Parts → Ordering
label_order (ideal p) (ideal q) = ideal_order p q
label_order (ideal p) (general q) = ideal_general p q
label_order (ideal p) (complex q) = ideal_complex p q
label_order (general p) (ideal q) = ordering_reverse (ideal_general q p)
label_order (general p) (general q) = general_order p q
label_order (general p) (complex q) = general_complex p q
label_order (complex p) (ideal q) = ordering_reverse (ideal_complex q p)
label_order (complex p) (general q) = ordering_reverse (general_complex q p)
label_order (complex p) (complex q) = complex_order p q

complex_balanced : Balanced complex_order
complex_balanced = by_balanced (lex_balanced (lex_balanced mchunk_balanced)) levels_of

label_swapped : (x y : Parts) → label_order y x ≡ ordering_reverse (label_order x y)
label_swapped (ideal p) (ideal q) = strict_stands.swapped p q
label_swapped (ideal p) (general q) = refl
label_swapped (ideal p) (complex q) = refl
label_swapped (general p) (ideal q) = twice (ideal_general q p)
label_swapped (general p) (general q) = general_balanced.swapped p q
label_swapped (general p) (complex q) = refl
label_swapped (complex p) (ideal q) = twice (ideal_complex q p)
label_swapped (complex p) (general q) = twice (general_complex q p)
label_swapped (complex p) (complex q) = complex_balanced.swapped p q

label_itself : (x : Parts) → label_order x x ≡ Equal
label_itself (ideal p) = strict_stands.itself p
label_itself (general p) = general_balanced.itself p
label_itself (complex p) = complex_balanced.itself p

pub label_balanced : Balanced label_order
label_balanced = record { swapped = label_swapped; itself = label_itself }

-- the epoch of an Ideal is 0, and that of a General its own, absent counting 0
pub data Epoch : Parts → ℕ → Type 0 where
  of_ideal : {p : standard.Parts} → Epoch (ideal p) 0
  of_general : {g : version.Parts} → Epoch (general g) (era g)

-- among Ideals and Generals the one with the higher epoch is Greater
pub record HigherEpoch (x y : Parts) (o : Ordering) : Type 0 where
  pub higher : (m n : ℕ) → Epoch x m → Epoch y n → n < m → o ≡ Greater
  pub lower : (m n : ℕ) → Epoch x m → Epoch y n → m < n → o ≡ Less

-- Ideals among themselves compare by the standard's precedence
abbrev pub AmongIdeals : Parts → Parts → Ordering → Type 0
AmongIdeals x y o = (p q : standard.Parts) → x ≡ ideal p → y ≡ ideal q → Standard p q o

-- whether two labels are the same for a rule, by their texts and parts
abbrev pub equal_of : List ℕ → List ℕ → Parts → Parts → Bool
equal_of s t (ideal p) (ideal q) = is_eq (ideal_order p q)
equal_of s t (ideal p) (general q) = false
equal_of s t (ideal p) (complex q) = false
equal_of s t (general p) (ideal q) = false
equal_of s t (general p) (general q) = is_eq (lex nat_cmp s t)
equal_of s t (general p) (complex q) = false
equal_of s t (complex p) (ideal q) = false
equal_of s t (complex p) (general q) = false
equal_of s t (complex p) (complex q) = is_eq (lex nat_cmp s t)

-- Two labels are the same for a rule: of one form, two Ideals with the same numbers and Release, others with the same text.
pub data SameLabel (s t : List ℕ) : Parts → Parts → Type 0 where
  ideals : {p q : standard.Parts} → Level p q → SameLabel s t (ideal p) (ideal q)
  generals : {p q : version.Parts} → s ≡ t → SameLabel s t (general p) (general q)
  complexes : {p q : mess.Parts} → s ≡ t → SameLabel s t (complex p) (complex q)

-- two texts that are these Ideals are the same label exactly if they agree before any plus sign
abbrev pub Agreeing : List ℕ → List ℕ → Parts → Parts → Bool → Type 0
Agreeing s t x y r = (p q : standard.Parts) → x ≡ ideal p → y ≡ ideal q → Ideal s p → Ideal t q → Iff (r ≡ true) (before_plus s ≡ before_plus t)
