use Rattle.std.proofs.Common.{length, ◌∙◌}
use Rattle.texts.specs.Tables.{rows_of}
use Rattle.mess.specs.Labels.{mchunks_in}
use Rattle.mess.proofs.Handing.{mchunks_few}
use Rattle.complex.proofs.Handing.{first_from}
use Rattle.complex.proofs.views.MessIn.first.Goals as goal

pub returns : goal.returns
returns c =
    let x = c.args.self.now in
    let m = x.mess.now in
    c.between.ensures ∙ first_from (mchunks_in x.text.now m.chunks) (length (rows_of m.chunks)) (mchunks_few x.text.now m.chunks) x.begin (rows_of m.levels) x.next _ c.begin.ensures
