use Rattle.std.proofs.Common.{◌≤◌, length}
use Rattle.probe.proofs.begun.take_block.Given as goal

abbrev pub invariant-loop-end : goal.invariant-loop-end
invariant-loop-end l = length l.rest ≤ length l.block

abbrev pub decreases-loop-end : goal.decreases-loop-end
decreases-loop-end l = length l.rest
