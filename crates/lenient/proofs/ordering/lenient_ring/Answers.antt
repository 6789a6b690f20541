use Rattle.std.proofs.Common.{codes}
use Rattle.chunk.specs.Piece.{alphanum}
use Rattle.lenient.proofs.ordering.lenient_ring.Goals as goal

pub returns : goal.returns
returns c = record {
  ring = λ i. (c.cmp_lenient.ensures i, c.cmp_lenient-2.ensures i, c.cmp_lenient-3.ensures i);
  unstrict = λ s. s.carried (alphanum (codes "9a")) (alphanum (codes "10a")) (alphanum (codes "4294967296a")) tt tt;
}
