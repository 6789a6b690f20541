-- How the numbers of two labels meet at their positions. Assumes nothing.
use Rattle.std.specs.Prelude.{ℕ, zero, suc, ◌+◌, Some, None, Ok, Err, Option, Result}
use Rattle.std.specs.declared.cmp.Ordering.TheVariants.{Less, Equal, Greater}
use Rattle.std.specs.declared.cmp.Ordering.{Ordering}
use Rattle.std.specs.Ordering.{nat_cmp}

-- an order that is not Equal decides
abbrev pub decided : Ordering → Result Ordering ℕ → Result Ordering ℕ
decided Less tie = Ok Less
decided Equal tie = tie
decided Greater tie = Ok Greater

-- two numbers at a position, each of which may be absent; an absent one ends at the position
abbrev pub pair : ℕ → Option ℕ → Option ℕ → Result Ordering ℕ → Result Ordering ℕ
pair n None b tie = Err n
pair n (Some a) None tie = Err n
pair n (Some a) (Some b) tie = decided (nat_cmp a b) tie

-- at k positions from one on: the order of the first pair that decides, or the position where those end that agree
abbrev pub met_from : (ℕ → Option ℕ) → (ℕ → Option ℕ) → ℕ → ℕ → Result Ordering ℕ
met_from f g n zero = Err n
met_from f g n (suc k) = pair n (f n) (g n) (met_from f g (n + 1) k)
