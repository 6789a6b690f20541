use Rattle.order.specs.Orders.{same}
use Rattle.chunk.specs.Semver.{semver_strict}
use Rattle.chunk.specs.Said.{semverly}
use Rattle.chunk.proofs.chunk.BySemverStrictOrder.strict.Goals as goal

pub returns : goal.returns
returns c = record { law = semver_strict; tie = same semverly }
