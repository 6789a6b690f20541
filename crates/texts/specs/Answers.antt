-- Answers that may be a fault, and which texts enter a reader. Assumes nothing.
use Rattle.std.specs.Prelude.{ℕ, cond, List, length, Ok, Err, Result, ◌==◌, nat_le}
use Rattle.fault.specs.declared.LabelFault.{LabelFault}
use Rattle.fault.specs.declared.LabelFault.TheVariants.{Empty, TooLong}

-- an answer by what its value says
abbrev pub told : {A B E : Type 0} → (A → B) → Result A E → Result B E
told f (Ok x) = Ok (f x)
told f (Err e) = Err e

-- an answer that goes on where there is no fault
abbrev pub onward : {A B E : Type 0} → Result A E → (A → Result B E) → Result B E
onward (Ok x) f = f x
onward (Err e) f = Err e

-- the longest text that is read as a label
abbrev pub longest : ℕ
longest = 128

-- a text of 1 to 128 bytes, or the fault of its length
abbrev pub entering : List ℕ → Result (List ℕ) LabelFault
entering text = cond (length text == 0) (Err Empty) (cond (nat_le (length text) longest) (Ok text) (Err (TooLong longest)))
