use Rattle.std.proofs.Common.{ap, ◌∙◌}
use Rattle.mixed.specs.Complexes.{lenient_in}
use Rattle.mixed.proofs.whole.ComplexIn.lenient.Goals as goal

pub returns-in_err-entry : goal.returns-in_err-entry
returns-in_err-entry c = c.from_residual.ensures ∙ ap lenient_in (c.in_err-entry.ensures c.args.self.now.text.now)
