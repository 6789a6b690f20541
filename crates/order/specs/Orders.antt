-- What an order of elements is, and the order of lists. Assumes nothing.
use Rattle.std.specs.Prelude.{◌≡◌, ℕ, List, refl}
use Rattle.std.specs.declared.cmp.Ordering.{Ordering}
use Rattle.order.specs.Numbers.{number_balanced}
use Rattle.order.specs.Laws.{Balanced, Strict}
use Rattle.order.specs.Lists.{lex}
use Rattle.order.specs.Carry.{lex_balanced}
use Rattle.std.specs.Ordering.{nat_cmp}

-- The meaning of an order of elements: what an element says, free of where it lies (its value), and one fixed answer
-- for each two values, under both laws.
pub record Order (X : Type 0) : Type 1 where
  pub Value : Type 0
  pub value : X → Value
  pub answer : Value → Value → Ordering
  pub laws : Balanced answer

-- the answer for two elements
abbrev pub asks : {X : Type 0} → Order X → X → X → Ordering
asks o x y = o.answer (o.value x) (o.value y)

-- lists of elements, by the one list comparison
abbrev pub listwise : {X Y : Type 0} (o : Order X) → (Y → List o.Value) → Order Y
listwise o parts = record { Value = List o.Value; value = parts; answer = lex o.answer; laws = lex_balanced o.laws }

-- two orders of one type are one: the same answers, and both are strict or neither
pub record Same {X : Type 0} (o p : Order X) : Type 0 where
  pub asked : (x y : X) → asks o x y ≡ asks p x y
  pub strictly : Strict o.answer → Strict p.answer
  pub back : Strict p.answer → Strict o.answer

pub same : {X : Type 0} (o : Order X) → Same o o
same o = record { asked = λ x y. refl; strictly = λ s. s; back = λ s. s }

-- bytes, by number
abbrev pub bytewise : Order ℕ
bytewise = record { Value = ℕ; value = λ b. b; answer = nat_cmp; laws = number_balanced }
