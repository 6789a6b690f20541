use Rattle.std.proofs.Common.{codes}
use Rattle.version.specs.Parts.{rc, post}
use Rattle.general.proofs.last.last_ties.Goals as goal

pub returns : goal.returns
returns c = record {
  ties = λ i. (c.cmp.ensures i, c.cmp-2.ensures i, c.cmp-3.ensures i);
  unstrict = λ s. s.carried (rc 1 (codes "rc") 3) (post 1 (codes "rc")) (rc 1 (codes "rc") 2) tt tt;
}
