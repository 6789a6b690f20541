use Rattle.std.proofs.Common.{rules, length, Some, None, sym, subst}
use Rattle.std.specs.Option.{option_map}
use Rattle.texts.specs.Tables.{Taken, rows_of}
use Rattle.mess.specs.Labels.{mchunks_in}
use Rattle.mess.proofs.Handing.{mchunks_few}
use Rattle.complex.specs.Views.{parts_of, signed_in}
use Rattle.complex.proofs.Handing.{a_level, no_level}
use Rattle.complex.proofs.views.MessIn.level.Goals as goal

pub returns-in_err-level : goal.returns-in_err-level
returns-in_err-level c =
    let x = c.args.self.now in
    let m = x.mess.now in
    let i = c.args.i in
    let t : Taken c.between.result.now i c.copied.result = search rules in
    let u = subst (λ xs. Taken xs i None) c.between.ensures (subst (Taken c.between.result.now i) c.in_err-level.was t) in
    subst (λ o. Taken (parts_of x).further i (option_map signed_in o)) (sym c.from_residual.ensures)
    (no_level (mchunks_in x.text.now m.chunks) (length (rows_of m.chunks)) (mchunks_few x.text.now m.chunks) x.begin (rows_of m.levels) x.next c.len-count.result i c.len-count.ensures.count u)

pub returns : goal.returns
returns c =
    let x = c.args.self.now in
    let m = x.mess.now in
    let i = c.args.i in
    let l = c.in_ok-level.level in
    let t : Taken c.between.result.now i c.copied.result = search rules in
    let u = subst (λ xs. Taken xs i (Some l)) c.between.ensures (subst (Taken c.between.result.now i) c.in_ok-level.was t) in
    subst (λ cs. Taken (parts_of x).further i (Some (l.sep, cs))) (sym c.between-2.ensures)
    (a_level (mchunks_in x.text.now m.chunks) (length (rows_of m.chunks)) (mchunks_few x.text.now m.chunks) x.begin (rows_of m.levels) x.next c.len-count.result i c.len-count.ensures.count l c.begin-end.result u c.begin-end.ensures)
