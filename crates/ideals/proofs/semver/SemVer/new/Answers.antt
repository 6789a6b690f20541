use Rattle.std.proofs.Common.{◌≡◌, ℕ, List, Result, sym, subst, rules}
use Rattle.fault.specs.declared.LabelFault.{LabelFault}
use Rattle.parsers.specs.Answers.{new_by, NewReads}
use Rattle.parsers.proofs.Answering.{new_reads}
use Rattle.standard.specs.Parts.{Parts}
use Rattle.standard.specs.Reading.{ideal_of}
use Rattle.standard.specs.Theorems.{Ideal}
use Rattle.standard.proofs.Readings.{reading_stands}
use Rattle.ideals.proofs.semver.SemVer.new.Goals as goal

-- what the definition answers reads the standard
standard : (text : List ℕ) (r : Result Parts LabelFault) → r ≡ new_by ideal_of text → NewReads Ideal text r
standard text r e = subst (NewReads Ideal text) (sym e) (new_reads reading_stands text)

pub returns-in_err-parse-clause-standard : goal.returns-in_err-parse-clause-standard
returns-in_err-parse-clause-standard c = standard c.args.text.now _ (search rules)

pub returns-clause-standard : goal.returns-clause-standard
returns-clause-standard c = standard c.args.text.now _ (search rules)
