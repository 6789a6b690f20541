use Rattle.std.proofs.Common.{sym, ap, ◌∙◌}
use Rattle.versioning.specs.Labels.{parts_in, nth_in}
use Rattle.versioning.proofs.versioning.Versioning.nth.Goals as goal

pub returns-in-Complex : goal.returns-in-Complex
returns-in-Complex c = λ text. c.nth-in-Complex.ensures text ∙ ap (λ v. nth_in (parts_in text v) c.args.n) (sym c.in-Complex.is)
