use Rattle.std.proofs.Common.{◌≡◌, drop}
use Rattle.order.specs.Lists.{lex}
use Rattle.order.proofs.compare_lists.Given as goal

abbrev pub invariant-loop-i : goal.invariant-loop-i
invariant-loop-i g l =
    let cmp = g.L.Parts.each.answer in
    let xs = g.L.Parts.parts l.a in
    let ys = g.L.Parts.parts l.b in
    lex cmp xs ys ≡ lex cmp (drop l.i xs) (drop l.i ys)
