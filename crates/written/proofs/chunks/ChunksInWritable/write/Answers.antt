use Rattle.std.proofs.Common.{refl}
use Rattle.written.specs.Written.{piece_text}
use Rattle.written.proofs.chunks.ChunksInWritable.write.Goals as goal

pub returns : goal.returns
returns c = c.write_list.ensures piece_text (λ x. refl)
