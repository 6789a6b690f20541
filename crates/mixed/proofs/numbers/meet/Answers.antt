use Rattle.std.proofs.Common.{◌≡◌, ◌+◌, ◌-◌, ◌<◌, false, Ordering, Less, Equal, Greater, sym, refl, ap, ◌∙◌, arith}
use Rattle.std.specs.Ordering.{is_ne}
use Rattle.mixed.specs.Meeting.{met_from}
use Rattle.mixed.proofs.Meeting.{goes_on}
use Rattle.mixed.proofs.numbers.meet.Goals as goal

tied : (o : Ordering) → false ≡ is_ne o → o ≡ Equal
tied Less e = cc
tied Equal e = refl
tied Greater e = cc

pub loop-n-preserved : goal.loop-n-preserved
loop-n-preserved g c =
    let f = g.A.Numbers.numbers c.args.a.now in
    let h = g.B.Numbers.numbers c.args.b.now in
    let n = c.loop-n.n in
    let k = c.args.count - n in
    let more : 0 < k = omega (arith, c.loop-n-test.true) in
    let less : k - 1 ≡ c.args.count - (n + 1) = omega arith in
    c.loop-n.invariant ∙ goes_on f h n k more (sym c.nth.ensures ∙ c.in_ok-x.ensures.ok_part) (sym c.nth-in-loop-n.ensures ∙ c.in_ok-y.ensures.ok_part) (sym c.cmp-order.ensures ∙ tied _ c.if-is_ne.ensures) ∙ ap (met_from f h (n + 1)) less
