-- What is shown of Ideal labels. Assumes nothing.
use Rattle.std.specs.Prelude.{◌≡◌, ℕ, cond, List, [], ◌∷◌, ◌==◌}
use Rattle.std.specs.declared.cmp.Ordering.TheVariants.{Less, Equal, Greater}
use Rattle.std.specs.declared.cmp.Ordering.{Ordering}
use Rattle.parsers.specs.Grammar.{limit}
use Rattle.parsers.specs.Whole.{Whole}
use Rattle.order.specs.Laws.{Strict}
use Rattle.standard.specs.Parts.{Parts, Within}
use Rattle.standard.specs.Grammar.{ValidSemver}
use Rattle.standard.specs.Precedence.{Lower, Level}
use Rattle.standard.specs.Reading.{ideal_of}
use Rattle.standard.specs.Order.{ideal_order}

-- the standard yields the text with these parts, and no number is above the limit
pub record Ideal (text : List ℕ) (p : Parts) : Type 0 where
  pub valid : ValidSemver text p
  pub within : Within limit p

abbrev pub Iff : Type 0 → Type 0 → Type 0
Iff P Q = (P → Q) × (Q → P)

-- the answer is the standard's
pub record Standard (p q : Parts) (o : Ordering) : Type 0 where
  pub less : Iff (o ≡ Less) (Lower p q)
  pub equal : Iff (o ≡ Equal) (Level p q)
  pub greater : Iff (o ≡ Greater) (Lower q p)

-- the bytes before the first plus sign, all of them where there is none
abbrev pub before_plus : List ℕ → List ℕ
before_plus [] = []
before_plus (b ∷ bs) = cond (b == 43) [] (b ∷ before_plus bs)

-- of whole texts the reader reads just the Ideals, each in one way
abbrev pub ReadingStands : Type 0
ReadingStands = Whole ideal_of Ideal

abbrev pub PrecedenceStands : Type 0
PrecedenceStands = (p q : Parts) → Standard p q (ideal_order p q)

-- two Ideals compare Equal exactly if their texts agree before any plus sign
abbrev pub AgreementStands : Type 0
AgreementStands = (s t : List ℕ) (p q : Parts) → Ideal s p → Ideal t q → Iff (ideal_order p q ≡ Equal) (before_plus s ≡ before_plus t)

abbrev pub StrictStands : Type 0
StrictStands = Strict ideal_order
