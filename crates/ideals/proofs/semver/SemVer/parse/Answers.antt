use Rattle.parsers.proofs.Answering.{read_parsed}
use Rattle.standard.specs.Reading.{ideal_of}
use Rattle.ideals.specs.Labels.{parts_in}
use Rattle.ideals.proofs.semver.SemVer.parse.Goals as goal

pub returns : goal.returns
returns c = rw c.ok_or.ensures.value (read_parsed ideal_of c.args.text.now c.in_ok-check_length.ensures parts_in _ c.new.ensures _ c.read.ensures)
