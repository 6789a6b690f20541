use Rattle.std.proofs.Common.{codes, refl}
use Rattle.mess.specs.Parts.{digits, plain}
use Rattle.mess.proofs.mchunk.mchunks_not_strict.Goals as goal

pub returns : goal.returns
returns c = record {
  ring = record { nine = refl; ten = refl; back = refl };
  not_strict = λ s. s.carried (digits 9 (codes "9")) (digits 10 (codes "10")) (plain (codes "1a")) tt tt;
}
