-- What `parse` and `new` of a form answer, by the form's reader. Assumes nothing.
use Rattle.std.specs.Prelude.{◌≡◌, ℕ, ◌-◌, ◌≤◌, cond, List, length, Ok, Err, Result, ◌==◌}
use Rattle.fault.specs.declared.LabelFault.{LabelFault}
use Rattle.fault.specs.declared.LabelFault.TheVariants.{NoForm}
use Rattle.texts.specs.Answers.{onward, longest, entering}
use Rattle.parsers.specs.Grammar.{Grammar}
use Rattle.parsers.specs.Reading.{Reader, follow}

-- `parse`: the part in front and the bytes read
abbrev pub parsed_by : {C : Type 0} → Reader C → List ℕ → Result (C × ℕ) LabelFault
parsed_by R text = onward (entering text) (λ text. follow (R text) (λ c rest. Ok (c, length text - length rest)) (Err (NoForm 0)))

-- a part, if with it all n bytes of a text are read
abbrev pub whole_read : {C : Type 0} → ℕ → C × ℕ → Result C LabelFault
whole_read n r = cond (r.1 == n) (Ok r.0) (Err (NoForm r.1))

-- `new`: the part, if nothing is left over
abbrev pub new_by : {C : Type 0} → Reader C → List ℕ → Result C LabelFault
new_by R text = onward (parsed_by R text) (whole_read (length text))

-- `new` takes a text of 1 to 128 bytes exactly if the grammar yields it, with those parts, and a text has one reading
pub record NewReads {C : Type 0} (P : Grammar C) (text : List ℕ) (r : Result C LabelFault) : Type 0 where
  pub taken : (c : C) → r ≡ Ok c → P text c
  pub takes : (c : C) → 1 ≤ length text → length text ≤ longest → P text c → r ≡ Ok c
  pub one_reading : (c d : C) → P text c → P text d → c ≡ d
