use Rattle.order.specs.Carry.{lex_strict}
use Rattle.order.specs.Orders.{same}
use Rattle.order.proofs.AnyStrictOrder.strict.Goals as goal

pub returns : goal.returns
returns g c =
    record { law = lex_strict (c.agrees.ensures.strictly (c.strict.ensures.tie.back c.strict.ensures.law)); tie = same _ }
