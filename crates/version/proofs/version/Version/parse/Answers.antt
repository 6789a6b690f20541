use Rattle.parsers.proofs.Answering.{read_parsed}
use Rattle.version.specs.Labels.{parts_in}
use Rattle.version.specs.Reading.{general_of}
use Rattle.version.proofs.version.Version.parse.Goals as goal

pub returns : goal.returns
returns c = rw c.ok_or.ensures.value (read_parsed general_of c.args.text.now c.in_ok-check_length.ensures parts_in _ c.new.ensures _ c.read.ensures)
