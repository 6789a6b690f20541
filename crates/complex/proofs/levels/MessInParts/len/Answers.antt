use Rattle.std.proofs.Common.{arith}
use Rattle.complex.specs.Views.{parts_of}
use Rattle.complex.proofs.Handing.{levels_counted}
use Rattle.complex.proofs.levels.MessInParts.len.Goals as goal

pub returns : goal.returns
returns c = omega (arith, c.further.ensures.count, levels_counted (parts_of c.args.self.now))
