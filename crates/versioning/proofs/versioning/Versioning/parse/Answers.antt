use Rattle.standard.specs.Reading.{ideal_of}
use Rattle.version.specs.Reading.{general_of}
use Rattle.mess.specs.Reading.{complex_of}
use Rattle.versioning.proofs.Firsts.{parsed_general, parsed_third}
use Rattle.versioning.proofs.versioning.Versioning.parse.Goals as goal

pub returns-in-Ok-parse : goal.returns-in-Ok-parse
returns-in-Ok-parse c = parsed_general ideal_of general_of complex_of c.args.text.now _ c.in_default.ensures _ _ c.in-Ok-parse.ensures

pub returns : goal.returns
returns c = parsed_third ideal_of general_of complex_of c.args.text.now _ c.in_default.ensures _ c.in_default-parse.ensures _ c.in_ok-mess.ensures
