use Rattle.parsers.proofs.Numbers.{Counting}
use Rattle.parsers.proofs.digits_at.Given as goal

abbrev pub invariant-loop-byte : goal.invariant-loop-byte
invariant-loop-byte l = Counting l.byte-items l.byte-index l.value
