use Rattle.std.proofs.Common.{rules, ◌∙◌}
use Rattle.lines.proofs.Numbers.{over}
use Rattle.lines.proofs.number.number_upto.Goals as goal

pub returns-in_err-checked_mul : goal.returns-in_err-checked_mul
returns-in_err-checked_mul c = c.from_residual.ensures ∙ over c.loop-byte.invariant c.loop-byte-test.true (search rules)

pub returns-in_err-value : goal.returns-in_err-value
returns-in_err-value c = c.from_residual-in_err-value.ensures ∙ over c.loop-byte.invariant c.loop-byte-test.true (search rules)

pub returns-then-value-most : goal.returns-then-value-most
returns-then-value-most c = over c.loop-byte.invariant c.loop-byte-test.true (search rules)
