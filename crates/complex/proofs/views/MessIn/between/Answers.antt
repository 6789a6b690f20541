use Rattle.std.proofs.Common.{map, sym, ap, ◌∙◌}
use Rattle.texts.specs.Tables.{rows_of}
use Rattle.mess.specs.Tables.{mchunk_in}
use Rattle.mess.proofs.Handing.{between_map}
use Rattle.complex.proofs.views.MessIn.between.Goals as goal

pub returns : goal.returns
returns c =
    let x = c.args.self.now in
    let f = mchunk_in x.text.now in
    ap (map f) c.between.ensures ∙ sym (between_map f c.args.begin c.args.end (rows_of x.mess.now.chunks))
