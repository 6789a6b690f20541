use Rattle.std.proofs.Common.{sym, ◌∙◌}
use Rattle.order.proofs.Along.{lex_decided, lex_level, lex_ended}
use Rattle.std.specs.Cmp.{ranked}
use Rattle.order.proofs.compare_lists.Goals as goal

pub returns-in_default : goal.returns-in_default
returns-in_default g c =
    let p = g.L.Parts in
    lex_decided p.each.answer (p.parts c.args.a.now) (p.parts c.args.b.now) c.loop-i.i (c.len-m.ensures ∙ sym (p.counted c.args.a.now)) (c.len-n.ensures ∙ sym (p.counted c.args.b.now)) c.min-i-end.ensures c.loop-i.invariant
    c.loop-i-test.true c.part-x.ensures c.part-y.ensures (c.agrees.ensures.asked c.part-x.result c.part-y.result) c.compare.ensures c.in_default.not-Equal

pub loop-i-preserved : goal.loop-i-preserved
loop-i-preserved g c =
    let p = g.L.Parts in
    lex_level p.each.answer (p.parts c.args.a.now) (p.parts c.args.b.now) c.loop-i.i (c.len-m.ensures ∙ sym (p.counted c.args.a.now)) (c.len-n.ensures ∙ sym (p.counted c.args.b.now)) c.min-i-end.ensures c.loop-i.invariant
    c.loop-i-test.true c.part-x.ensures c.part-y.ensures (c.agrees.ensures.asked c.part-x.result c.part-y.result) c.in-Equal.ensures

pub returns : goal.returns
returns g c =
    let p = g.L.Parts in
    lex_ended p.each.answer (p.parts c.args.a.now) (p.parts c.args.b.now) c.loop-i.i (c.len-m.ensures ∙ sym (p.counted c.args.a.now)) (c.len-n.ensures ∙ sym (p.counted c.args.b.now)) c.min-i-end.ensures c.loop-i.invariant
    c.loop-i-test.false c.loop-i.auto.i-end (ranked _ _ _ c.cmp.ensures)
