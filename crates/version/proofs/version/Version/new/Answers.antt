use Rattle.std.proofs.Common.{◌≡◌, ℕ, List, Result, sym, subst, rules}
use Rattle.fault.specs.declared.LabelFault.{LabelFault}
use Rattle.parsers.specs.Answers.{new_by, NewReads}
use Rattle.parsers.proofs.Answering.{read_new, new_reads}
use Rattle.version.specs.Parts.{Parts}
use Rattle.version.specs.Labels.{parts_in}
use Rattle.version.specs.Grammar.{General}
use Rattle.version.specs.Reading.{general_of}
use Rattle.version.proofs.Generals.{general_stands}
use Rattle.version.proofs.version.Version.new.Goals as goal

-- what the definition answers reads the grammar
reading : (text : List ℕ) (r : Result Parts LabelFault) → r ≡ new_by general_of text → NewReads General text r
reading text r e = subst (NewReads General text) (sym e) (new_reads general_stands text)

pub returns-in_err-parse-clause-reading : goal.returns-in_err-parse-clause-reading
returns-in_err-parse-clause-reading c = reading c.args.text.now _ (search rules)

pub returns-clause-reading : goal.returns-clause-reading
returns-clause-reading c = reading c.args.text.now _ (rw c.whole.ensures (read_new general_of c.args.text.now (parts_in c.args.text.now) _ c.in_ok-parse.ensures))
