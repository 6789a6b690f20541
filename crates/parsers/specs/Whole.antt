-- What ties a reader to a grammar. Assumes nothing.
use Rattle.std.specs.Prelude.{◌≡◌, ℕ, List, [], Some}
use Rattle.parsers.specs.Grammar.{Grammar}
use Rattle.parsers.specs.Reading.{Reader}

-- of whole texts, a reader reads just what a grammar yields, and that is one thing
pub record Whole {C : Type 0} (R : Reader C) (P : Grammar C) : Type 0 where
  pub sound : (text : List ℕ) (c : C) → R text ≡ Some (c, []) → P text c
  pub complete : (text : List ℕ) (c : C) → P text c → R text ≡ Some (c, [])
  pub unique : (text : List ℕ) (c d : C) → P text c → P text d → c ≡ d
