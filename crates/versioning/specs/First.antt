-- The first of three forms that takes a text. Assumes nothing.
use Rattle.std.specs.Prelude.{◌≡◌, ℕ, ◌-◌, ◌≤◌, max, List, length, Some, None, Ok, Err, Result}
use Rattle.fault.specs.declared.LabelFault.{LabelFault}
use Rattle.fault.specs.declared.LabelFault.TheVariants.{Empty, TooLong, NoForm}
use Rattle.parsers.specs.Grammar.{Grammar}
use Rattle.parsers.specs.Reading.{Reader, follow}
use Rattle.texts.specs.Answers.{longest}

-- a reading, by one of three forms
pub data OneOf (A B C : Type 0) : Type 0 where
  ideal : A → OneOf A B C
  general : B → OneOf A B C
  complex : C → OneOf A B C

-- The subject: a text is read by the first form whose grammar yields it.
pub data FirstForm {A B C : Type 0} (P : Grammar A) (Q : Grammar B) (R : Grammar C) (text : List ℕ) : OneOf A B C → Type 0 where
  as_ideal : {a : A} → P text a → FirstForm P Q R text (ideal a)
  as_general : {b : B} → ((a : A) → P text a → ⊥) → Q text b → FirstForm P Q R text (general b)
  as_complex : {c : C} → ((a : A) → P text a → ⊥) → ((b : B) → Q text b → ⊥) → R text c → FirstForm P Q R text (complex c)

-- no form yields the text
pub record NoneOf {A B C : Type 0} (P : Grammar A) (Q : Grammar B) (R : Grammar C) (text : List ℕ) : Type 0 where
  pub no_ideal : (a : A) → P text a → ⊥
  pub no_general : (b : B) → Q text b → ⊥
  pub no_complex : (c : C) → R text c → ⊥

-- refused for no form are exactly the texts of 1 to 128 bytes that no form yields
pub record RefusedNoForm {A B C X : Type 0} (P : Grammar A) (Q : Grammar B) (R : Grammar C) (text : List ℕ) (r : Result X LabelFault) : Type 0 where
  pub refused : (n : ℕ) → r ≡ Err (NoForm n) → (1 ≤ length text) × (length text ≤ longest) × NoneOf P Q R text
  pub refuses : 1 ≤ length text → length text ≤ longest → NoneOf P Q R text → (n : ℕ) × (r ≡ Err (NoForm n))

-- the bytes that a reader reads, none where it fails
abbrev pub bytes_read : {C : Type 0} → Reader C → List ℕ → ℕ
bytes_read R text = follow (R text) (λ _ rest. length text - length rest) 0

-- `parse`: the first reader that reads something
abbrev pub first_of : {A B C : Type 0} → Reader A → Reader B → Reader C → Reader (OneOf A B C)
first_of I G K bs = follow (I bs) (λ a rest. Some (ideal a, rest)) (follow (G bs) (λ b rest. Some (general b, rest)) (follow (K bs) (λ c rest. Some (complex c, rest)) None))

-- of two faults of one text, the one that stopped further on
abbrev pub further : LabelFault → LabelFault → LabelFault
further Empty f = f
further (TooLong n) f = f
further (NoForm m) Empty = NoForm m
further (NoForm m) (TooLong n) = NoForm m
further (NoForm m) (NoForm n) = NoForm (max m n)

-- `new`: the first answer that is a reading, or the fault that stopped furthest on
abbrev pub first_answer : {A B C : Type 0} → Result A LabelFault → Result B LabelFault → Result C LabelFault → Result (OneOf A B C) LabelFault
first_answer (Ok a) g k = Ok (ideal a)
first_answer (Err e) (Ok b) k = Ok (general b)
first_answer (Err e) (Err f) (Ok c) = Ok (complex c)
first_answer (Err e) (Err f) (Err h) = Err (further e (further f h))

-- a refusal for no form has the most bytes read as its place
abbrev pub Furthest : {A B C X : Type 0} → Reader A → Reader B → Reader C → List ℕ → Result X LabelFault → Type 0
Furthest I G K text r = (n : ℕ) → r ≡ Err (NoForm n) → n ≡ max (bytes_read I text) (max (bytes_read G text) (bytes_read K text))

-- the first `parse` that reads something
abbrev pub first_parsed : {A B C : Type 0} → Result (A × ℕ) LabelFault → Result (B × ℕ) LabelFault → Result (C × ℕ) LabelFault → Result (OneOf A B C × ℕ) LabelFault
first_parsed (Ok a) g k = Ok (ideal a.0, a.1)
first_parsed (Err e) (Ok b) k = Ok (general b.0, b.1)
first_parsed (Err e) (Err f) (Ok c) = Ok (complex c.0, c.1)
first_parsed (Err e) (Err f) (Err h) = Err h
