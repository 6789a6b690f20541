use Rattle.std.proofs.Common.{◌≡◌, ℕ, List, Err, Result, sym, refl, ap, ◌∙◌, subst}
use Rattle.fault.specs.declared.LabelFault.{LabelFault}
use Rattle.parsers.specs.Answers.{new_by, NewReads}
use Rattle.standard.specs.Parts as I
use Rattle.standard.specs.Reading.{ideal_of}
use Rattle.standard.specs.Theorems.{Ideal}
use Rattle.standard.proofs.Readings.{reading_stands}
use Rattle.version.specs.Parts as G
use Rattle.version.specs.Grammar.{General}
use Rattle.version.specs.Reading.{general_of}
use Rattle.version.proofs.Generals.{general_stands}
use Rattle.mess.specs.Parts as K
use Rattle.mess.specs.Grammar.{Complex}
use Rattle.mess.specs.Reading.{complex_of}
use Rattle.mess.proofs.Agreeing.{complex_whole}
use Rattle.versioning.specs.First.{further, first_answer, FirstForm, RefusedNoForm, Furthest}
use Rattle.versioning.specs.Labels.{Parts}
use Rattle.versioning.proofs.Firsts.{first_reads, none_reads, stopped}
use Rattle.versioning.proofs.versioning.Versioning.new.Goals as goal

abbrev Answer : List ℕ → Result Parts LabelFault
Answer text = first_answer (new_by ideal_of text) (new_by general_of text) (new_by complex_of text)

-- what is shown of an answer that is the definition's
record Shown (text : List ℕ) (r : Result Parts LabelFault) : Type 0 where
  reads : NewReads (FirstForm Ideal General Complex) text r
  none : RefusedNoForm Ideal General Complex text r
  place : Furthest ideal_of general_of complex_of text r

shown : (text : List ℕ) (r : Result Parts LabelFault) → r ≡ Answer text → Shown text r
shown text r e =
    subst (Shown text) (sym e) (record { reads = first_reads reading_stands general_stands complex_whole text; none = none_reads reading_stands general_stands complex_whole text; place = stopped reading_stands general_stands complex_whole text })

three : (text : List ℕ) {i : Result I.Parts LabelFault} {g : Result G.Parts LabelFault} {k : Result K.Parts LabelFault} → i ≡ new_by ideal_of text → g ≡ new_by general_of text → k ≡ new_by complex_of text → first_answer i g k ≡ Answer text
three text p q r = rw (p, q, r) refl

pub returns-in-Ok : goal.returns-in-Ok
returns-in-Ok c =
    let a = three c.args.text.now c.in-Ok.ensures.answer refl refl in
    let s = shown c.args.text.now _ a in
    record { answer = a; reading = s.reads; refused = s.none; stopped = s.place }

pub returns-in-Ok-new : goal.returns-in-Ok-new
returns-in-Ok-new c =
    let a = three c.args.text.now c.in-Err.ensures.answer c.in-Ok-new.ensures.answer refl in
    let s = shown c.args.text.now _ a in
    record { answer = a; reading = s.reads; refused = s.none; stopped = s.place }

pub returns-in-Ok-new-2 : goal.returns-in-Ok-new-2
returns-in-Ok-new-2 c =
    let a = three c.args.text.now c.in-Err.ensures.answer c.in-Err-new.ensures.answer c.in-Ok-new-2.ensures.answer in
    let s = shown c.args.text.now _ a in
    record { answer = a; reading = s.reads; refused = s.none; stopped = s.place }

pub returns-in-Err-new-2 : goal.returns-in-Err-new-2
returns-in-Err-new-2 c =
    let f = c.furthest-in-Err-new-2.ensures ∙ ap (further c.in-Err.ideal) c.furthest.ensures in
    let a = ap Err f ∙ three c.args.text.now c.in-Err.ensures.answer c.in-Err-new.ensures.answer c.in-Err-new-2.ensures.answer in
    let s = shown c.args.text.now _ a in
    record { answer = a; reading = s.reads; refused = s.none; stopped = s.place }
