use Rattle.std.proofs.Common.{length}
use Rattle.mess.proofs.levels.+next_parse.Given as goal

abbrev pub decreases-next : goal.decreases-next
decreases-next l = length l.rest.bytes.now

abbrev pub decreases-parse : goal.decreases-parse
decreases-parse l = length l.rest.bytes.now
