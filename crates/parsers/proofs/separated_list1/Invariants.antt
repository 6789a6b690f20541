use Rattle.std.proofs.Common.{◌-◌, length}
use Rattle.texts.specs.Tables.{rows_of}
use Rattle.texts.specs.Texts.{bytes_of}
use Rattle.parsers.proofs.Lists.{Joined}
use Rattle.parsers.proofs.separated_list1.Given as goal

abbrev pub invariant-loop-behind : goal.invariant-loop-behind
invariant-loop-behind g l = Joined g.P.PartReader.part (bytes_of l.text) l.at l.end (rows_of l.table)

abbrev pub decreases-loop-behind : goal.decreases-loop-behind
decreases-loop-behind g l = length (bytes_of l.text) - l.end
