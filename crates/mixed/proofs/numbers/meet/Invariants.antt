use Rattle.std.proofs.Common.{◌≡◌, ◌-◌}
use Rattle.mixed.specs.Meeting.{met_from}
use Rattle.mixed.proofs.numbers.meet.Given as goal

abbrev pub invariant-loop-n : goal.invariant-loop-n
invariant-loop-n g l =
    met_from (g.A.Numbers.numbers l.a) (g.B.Numbers.numbers l.b) 0 l.count ≡ met_from (g.A.Numbers.numbers l.a) (g.B.Numbers.numbers l.b) l.n (l.count - l.n)
