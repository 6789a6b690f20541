-- Which of two texts is the later label. Assumes nothing.
use Rattle.std.specs.Prelude.{◌≡◌, ℕ, List, Some, None, Ok, Err, Option, Result}
use Rattle.std.specs.declared.cmp.Ordering.TheVariants.{Less, Equal, Greater}
use Rattle.std.specs.declared.cmp.Ordering.{Ordering}
use Rattle.fault.specs.declared.LabelFault.{LabelFault}
use Rattle.standard.specs.Order.{ideal_order}
use Rattle.standard.specs.Parts.{Parts}
use Rattle.standard.specs.Precedence.{Lower, Level}
use Rattle.standard.specs.Theorems.{Ideal}
use Rattle.job.specs.declared.against.Verdict.{Verdict}
use Rattle.job.specs.declared.against.Verdict.TheVariants.{First, Second, Neither}
use Rattle.job.specs.declared.against.Refusals.{Refusals}

-- the greater is the later
abbrev pub verdict_of : Ordering → Verdict
verdict_of Less = Second
verdict_of Equal = Neither
verdict_of Greater = First

abbrev pub refusals : Option LabelFault → Option LabelFault → Refusals
refusals d e = record { first = d; second = e }

-- the refusals of the texts that are refused, or the verdict on the labels
abbrev pub against_of : Result Parts LabelFault → Result Parts LabelFault → Result Verdict Refusals
against_of (Ok p) (Ok q) = Ok (verdict_of (ideal_order p q))
against_of (Ok p) (Err e) = Err (refusals None (Some e))
against_of (Err d) (Ok q) = Err (refusals (Some d) None)
against_of (Err d) (Err e) = Err (refusals (Some d) (Some e))

-- by the parts of two labels, the standard's precedence
abbrev pub Later : Parts → Parts → Verdict → Type 0
Later p q First = Lower q p
Later p q Second = Lower p q
Later p q Neither = Level p q

-- of two texts that are Ideals the later has the higher precedence of the standard
abbrev pub Judged : List ℕ → List ℕ → Result Verdict Refusals → Type 0
Judged s t r = (p q : Parts) (v : Verdict) → Ideal s p → Ideal t q → r ≡ Ok v → Later p q v
