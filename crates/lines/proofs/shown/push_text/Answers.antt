use Rattle.lines.proofs.Shows.{more, all}
use Rattle.lines.proofs.shown.push_text.Goals as goal

pub loop-b-preserved : goal.loop-b-preserved
loop-b-preserved c = more _ _ _ _ c.loop-b.invariant c.loop-b-test.true c.in_ok-push_byte.ensures

pub returns : goal.returns
returns c = all _ _ _ _ c.loop-b.invariant c.loop-b-test.false
