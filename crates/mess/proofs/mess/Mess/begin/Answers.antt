use Rattle.std.proofs.Common.{rules, length}
use Rattle.texts.specs.Tables.{rows_of}
use Rattle.mess.proofs.Handing.{begun}
use Rattle.mess.proofs.mess.Mess.begin.Goals as goal

pub returns : goal.returns
returns c =
    let m = c.args.self.now in
    begun (length (rows_of m.chunks)) c.len.result (rows_of m.levels) c.args.i c.get.result _ c.get.ensures.row c.map_or.result c.len.ensures.count (λ l p. search rules) c.map_or.ensures
