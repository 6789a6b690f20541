use Rattle.parsers.proofs.Stretches.{as_stretch}
use Rattle.parsers.proofs.stretch.Goals as goal

pub returns : goal.returns
returns g c = (as_stretch c.stretch_end-end.ensures c.if-end-at.false, c.if-end-at.false, c.stretch_end-end.ensures.fits)
