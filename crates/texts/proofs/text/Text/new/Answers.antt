use Rattle.std.proofs.lemmas.List.{take_min}
use Rattle.texts.proofs.text.Text.new.Goals as goal

pub returns : goal.returns
returns c = rw c.min.ensures (take_min 128 _)
