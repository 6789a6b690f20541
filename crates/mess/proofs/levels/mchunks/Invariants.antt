use Rattle.std.proofs.Common.{length}
use Rattle.mess.proofs.Filling.{Filling}
use Rattle.mess.proofs.levels.mchunks.Given as goal

abbrev pub invariant-loop-dotted : goal.invariant-loop-dotted
invariant-loop-dotted l = Filling l.initial.end l.initial.chunks l.end l.chunks

abbrev pub decreases-loop-dotted : goal.decreases-loop-dotted
decreases-loop-dotted l = length l.end.bytes.now
