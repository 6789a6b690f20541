use Rattle.mixed.proofs.Meeting.{by_fourth}
use Rattle.mixed.proofs.semver.cmp_tied.Goals as goal

pub returns-in-Some : goal.returns-in-Some
returns-in-Some c = by_fourth _ _ _ _ _ c.chunks-chunks.ensures c.in-Some.ensures c.before_chunk.ensures
