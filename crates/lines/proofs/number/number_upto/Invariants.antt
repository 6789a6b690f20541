use Rattle.lines.proofs.Numbers.{Counting}
use Rattle.lines.proofs.number.number_upto.Given as goal

abbrev pub invariant-loop-byte : goal.invariant-loop-byte
invariant-loop-byte l = Counting l.most l.text l.byte-index l.value
