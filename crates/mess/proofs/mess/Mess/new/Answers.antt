use Rattle.std.proofs.Common.{rules, ◌≡◌, ℕ, List, Result, sym, subst}
use Rattle.fault.specs.declared.LabelFault.{LabelFault}
use Rattle.parsers.specs.Answers.{new_by, NewReads}
use Rattle.parsers.proofs.Answering.{new_reads}
use Rattle.mess.specs.Parts.{Parts}
use Rattle.mess.specs.Grammar.{Complex}
use Rattle.mess.specs.Reading.{complex_of}
use Rattle.mess.proofs.Agreeing.{complex_whole}
use Rattle.mess.proofs.mess.Mess.new.Goals as goal

-- what the definition answers is what the grammar yields
reading : (text : List ℕ) (r : Result Parts LabelFault) → r ≡ new_by complex_of text → NewReads Complex text r
reading text r e = subst (NewReads Complex text) (sym e) (new_reads complex_whole text)

pub returns-in_err-parse-clause-reading : goal.returns-in_err-parse-clause-reading
returns-in_err-parse-clause-reading c = reading c.args.text.now _ (search rules)

pub returns-clause-reading : goal.returns-clause-reading
returns-clause-reading c = reading c.args.text.now _ (search rules)
