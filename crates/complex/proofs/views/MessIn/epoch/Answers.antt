use Rattle.std.proofs.Common.{ap, ◌∙◌}
use Rattle.complex.specs.Views.{parts_of}
use Rattle.complex.specs.Fronts.{alone}
use Rattle.complex.proofs.Fronts.{colon_first, other_first}
use Rattle.complex.proofs.views.MessIn.epoch.Goals as goal

pub returns-in-Colon : goal.returns-in-Colon
returns-in-Colon c =
    let p = parts_of c.args.self.now in
    c.alone.ensures ∙ ap alone c.first.ensures ∙ colon_first (alone p.first) p.further _ c.in_ok-sep.ensures c.in-Colon.is

pub returns-in_default : goal.returns-in_default
returns-in_default c =
    let p = parts_of c.args.self.now in
    other_first (alone p.first) p.further _ c.in_ok-sep.ensures c.in_default.not-Colon
