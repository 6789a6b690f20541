use Rattle.std.proofs.Common.{◌∙◌}
use Rattle.texts.specs.Texts.{bytes_of}
use Rattle.parsers.proofs.Lists.{behind_mark}
use Rattle.chunk.proofs.release.Release.parse.Goals as goal

pub returns-in_err-chunks : goal.returns-in_err-chunks
returns-in_err-chunks c = rw c.from_residual-in_err-chunks.ensures (behind_mark _ (bytes_of c.args.text) 45 c.args.at _ c.in_ok-from.ensures ∙ c.in_err-chunks.ensures)
