-- Lines that ask nothing. Assumes nothing.
use Rattle.std.specs.Prelude.{ℕ, Bool, false, List, [], ◌∷◌, ◌==◌}
use Rattle.std.specs.List.{list_all}

-- only blanks, or nothing
abbrev pub blank : List ℕ → Bool
blank line = list_all (λ b. b == 32) line

-- a number sign in front
abbrev pub comment : List ℕ → Bool
comment [] = false
comment (b ∷ bs) = b == 35
