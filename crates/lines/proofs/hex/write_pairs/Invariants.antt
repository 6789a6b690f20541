use Rattle.lines.proofs.Hexes.{Writing}
use Rattle.lines.proofs.hex.write_pairs.Given as goal

abbrev pub invariant-loop-i : goal.invariant-loop-i
invariant-loop-i l = Writing l.hex l.initial.out l.out l.i
