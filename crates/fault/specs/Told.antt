-- What each fault tells: its number, its place and its layer. Assumes nothing.
use Rattle.std.specs.Prelude.{ℕ, List, ◌++◌, codes}
use Rattle.std.specs.Fmt.{decimal}
use Rattle.fault.specs.declared.Layer.{Layer}
use Rattle.fault.specs.declared.Layer.TheVariants.{Label}
use Rattle.fault.specs.declared.LabelFault.{LabelFault}
use Rattle.fault.specs.declared.LabelFault.TheVariants.{Empty, TooLong, NoForm}

pub record Told : Type 0 where
  pub number : ℕ
  pub place : ℕ
  pub layer : Layer

-- an empty text: 1 at 0; a text over the longest: 2 at that limit; no form: 3 at the most bytes that were read
abbrev pub label_told : LabelFault → Told
label_told Empty = record { number = 1; place = 0; layer = Label }
label_told (TooLong longest) = record { number = 2; place = longest; layer = Label }
label_told (NoForm read) = record { number = 3; place = read; layer = Label }

-- the cause in words
abbrev pub cause_of : LabelFault → List ℕ
cause_of Empty = codes "the text is empty"
cause_of (TooLong longest) = codes "the text is longer than " ++ decimal longest ++ codes " bytes"
cause_of (NoForm read) = codes "no form takes the text; it was read up to the caret"
