use Rattle.order.specs.Orders.{same}
use Rattle.standard.proofs.Stricts.{strict_stands}
use Rattle.ideals.specs.Views.{ideally}
use Rattle.ideals.proofs.ideal.IdealInStrictOrder.strict.Goals as goal

pub returns : goal.returns
returns c = record { law = strict_stands; tie = same ideally }
