use Rattle.std.proofs.Common.{arith, rules}
use Rattle.parsers.proofs.Numbers.{further, over, done}
use Rattle.parsers.proofs.digits_at.Goals as goal

pub returns-in_err-checked_mul : goal.returns-in_err-checked_mul
returns-in_err-checked_mul c = rw c.from_residual.ensures (over c.stretch_end-end.ensures c.loop-byte.invariant (omega arith) (search rules))

pub returns-in_err-value : goal.returns-in_err-value
returns-in_err-value c = rw c.from_residual-in_err-value.ensures (over c.stretch_end-end.ensures c.loop-byte.invariant (omega arith) (search rules))

pub loop-byte-preserved : goal.loop-byte-preserved
loop-byte-preserved c = further c.stretch_end-end.ensures c.loop-byte.invariant (omega arith) _ (search rules) (search rules)

pub returns : goal.returns
returns c = done c.stretch_end-end.ensures c.loop-byte.invariant c.if-end-at.false (omega arith)
