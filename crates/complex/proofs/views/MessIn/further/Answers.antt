use Rattle.std.proofs.Common.{drop, arith, length-drop}
use Rattle.texts.specs.Tables.{rows_of}
use Rattle.mess.specs.Labels.{mchunks_in}
use Rattle.complex.proofs.Handing.{further_count}
use Rattle.complex.proofs.views.MessIn.further.Goals as goal

pub returns-clause-count : goal.returns-clause-count
returns-clause-count c =
    let x = c.args.self.now in
    let m = x.mess.now in
    let ls = rows_of m.levels in
    omega (arith, further_count (mchunks_in x.text.now m.chunks) x.begin (drop x.next ls), length-drop x.next ls, c.len.ensures.count, c.saturating_sub.ensures)
