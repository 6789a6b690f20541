-- What each command answers, once its texts are read. Assumes nothing.
use Rattle.std.specs.Prelude.{ℕ, List, Ok, Err, Result}
use Rattle.std.specs.declared.cmp.Ordering.{Ordering}
use Rattle.fault.specs.declared.LabelFault.{LabelFault}
use Rattle.parsers.specs.Answers.{new_by, parsed_by}
use Rattle.standard.specs.Parts as standard
use Rattle.standard.specs.Reading.{ideal_of}
use Rattle.standard.specs.Order.{ideal_order}
use Rattle.ideals.specs.Labels.{parts_in}
use Rattle.protocol.specs.declared.asked.Form.{Form}
use Rattle.protocol.specs.declared.asked.Form.TheVariants.{SemVer}
use Rattle.protocol.specs.declared.answer.Answer.{Answer}
use Rattle.protocol.specs.declared.answer.Answer.TheVariants.{Parts, Read, Order}
use Rattle.protocol.specs.declared.answer.Refusal.{Refusal}
use Rattle.protocol.specs.declared.answer.Refusal.TheVariants.{Bad, Label}

-- no command, a refusal, the parts of a label, the bytes read with them, or an order
pub data Said : Type 0 where
  bad : Said
  refused : LabelFault → Said
  parts : standard.Parts → Said
  read : ℕ → standard.Parts → Said
  order : Ordering → Said

-- the parts' places are in the text
abbrev pub said_in : List ℕ → Result Answer Refusal → Said
said_in text (Ok (Parts semver)) = parts (parts_in text semver)
said_in text (Ok (Read count semver)) = read count (parts_in text semver)
said_in text (Ok (Order o)) = order o
said_in text (Err Bad) = bad
said_in text (Err (Label fault)) = refused fault

-- a refusal ends it
abbrev pub unless_refused : {X : Type 0} → Result X LabelFault → (X → Said) → Said
unless_refused (Ok x) f = f x
unless_refused (Err fault) f = refused fault

abbrev pub new_answer : Form → List ℕ → Said
new_answer SemVer text = unless_refused (new_by ideal_of text) parts

abbrev pub parse_answer : Form → List ℕ → Said
parse_answer SemVer text = unless_refused (parsed_by ideal_of text) (λ r. read r.1 r.0)

-- where both are refused, the first is told
abbrev pub compare_answer : Form → List ℕ → List ℕ → Said
compare_answer SemVer first second = unless_refused (new_by ideal_of first) (λ p. unless_refused (new_by ideal_of second) (λ q. order (ideal_order p q)))
