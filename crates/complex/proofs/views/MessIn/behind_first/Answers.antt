use Rattle.std.proofs.Common.{refl, arith}
use Rattle.texts.specs.Tables.{rows_of}
use Rattle.mess.specs.Labels.{mchunks_in}
use Rattle.complex.proofs.Fronts.{one_on}
use Rattle.complex.proofs.views.MessIn.behind_first.Goals as goal

pub returns : goal.returns
returns c =
    let x = c.args.self.now in
    let m = x.mess.now in
    one_on (mchunks_in x.text.now m.chunks) (rows_of m.levels) x.begin x.next c.in_ok-level.level c.in_ok-level.ensures.row

pub overflow_add-result : goal.overflow_add-result
overflow_add-result c = omega (arith, c.in_ok-level.ensures.few refl)
