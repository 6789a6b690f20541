-- The standard's own example of precedence, as a fact. Assumes nothing.
use Rattle.std.specs.Prelude.{ℕ, List, [], ◌∷◌, codes}
use Rattle.standard.specs.Parts.{Parts}
use Rattle.standard.specs.Precedence.{Lower}
use Rattle.standard.specs.Theorems.{Ideal}

-- from the lowest to the highest
abbrev pub chain : List (List ℕ)
chain = codes "1.0.0-alpha" ∷ codes "1.0.0-alpha.1" ∷ codes "1.0.0-alpha.beta" ∷ codes "1.0.0-beta" ∷ codes "1.0.0-beta.2" ∷ codes "1.0.0-beta.11" ∷ codes "1.0.0-rc.1" ∷ codes "1.0.0" ∷ []

-- the first text is an Ideal with lower precedence than the second
pub record Below (s t : List ℕ) : Type 0 where
  pub low : Parts
  pub high : Parts
  pub first : Ideal s low
  pub second : Ideal t high
  pub lower : Lower low high

-- each text is below the next
abbrev pub Rising : List (List ℕ) → Type 0
Rising [] = Unit {0}
Rising (s ∷ []) = Unit {0}
Rising (s ∷ t ∷ ts) = Below s t × Rising (t ∷ ts)

abbrev pub ChainStands : Type 0
ChainStands = Rising chain
