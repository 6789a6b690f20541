-- The MChunks that a level hands out. Assumes nothing.
use Rattle.std.proofs.Common.{◌≡◌, ℕ, zero, suc, ◌+◌, ◌<◌, ◌≤◌, List, [], ◌∷◌, ◌++◌, map, length, get_or, Some, sym, refl, ap, le_of_suc-le-suc, not-suc-le-zero, arith}
use Rattle.texts.specs.Tables.{Taken}

module _ {X Y : Type 0} (f : X → Y) where
  pub among : (xs : List X) (i : ℕ) (x : X) (y d : Y) → Taken xs i (Some x) → f x ≡ get_or (map f xs ++ y ∷ []) i d
  among [] i x y d h = absurd (not-suc-le-zero h.0)
  among (z ∷ zs) zero x y d h = ap f (sym (h.1 x))
  among (z ∷ zs) (suc i) x y d h = among zs i x y d (le_of_suc-le-suc h.0, h.1)

  pub behind_all : (xs : List X) (i : ℕ) (y d : Y) → length xs ≤ i → i < length xs + 1 → y ≡ get_or (map f xs ++ y ∷ []) i d
  behind_all [] zero y d l h = refl
  behind_all [] (suc i) y d l h = absurd (omega arith)
  behind_all (z ∷ zs) zero y d l h = absurd (omega arith)
  behind_all (z ∷ zs) (suc i) y d l h = behind_all zs i y d (omega arith) (omega arith)
