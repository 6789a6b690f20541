use Rattle.std.proofs.Common.{arith}
use Rattle.complex.proofs.Handing.{level_part}
use Rattle.convert.specs.Said.{mess_said}
use Rattle.convert.proofs.levels.LevelsParts.part.Goals as goal

pub returns-in-Some : goal.returns-in-Some
returns-in-Some c = level_part (mess_said c.args.self.now) c.args.i _ (omega arith) c.in-Some.ensures
