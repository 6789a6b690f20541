use Rattle.std.proofs.Common.{arith}
use Rattle.complex.specs.Views.{parts_of}
use Rattle.complex.proofs.Handing.{levels_counted, level_part}
use Rattle.complex.proofs.levels.MessInParts.part.Goals as goal

pub returns-in-Some : goal.returns-in-Some
returns-in-Some c = level_part (parts_of c.args.self.now) c.args.i _ (omega arith) c.in-Some.ensures

pub returns-in-None : goal.returns-in-None
returns-in-None c = absurd (omega (arith, c.requires, c.in-None.ensures, levels_counted (parts_of c.args.self.now)))
