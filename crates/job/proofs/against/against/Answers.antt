use Rattle.std.proofs.Common.{rules}
use Rattle.job.proofs.Judging.{judged}
use Rattle.job.proofs.against.against.Goals as goal

pub returns-in-Ok-Ok-clause-standard : goal.returns-in-Ok-Ok-clause-standard
returns-in-Ok-Ok-clause-standard c = judged c.args.first.now c.args.second.now (search rules)
