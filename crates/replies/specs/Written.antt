-- How an answer is written. Assumes nothing.
use Rattle.std.specs.Prelude.{ℕ, List, [], ◌∷◌, ◌++◌, codes, decimal}
use Rattle.std.specs.declared.cmp.Ordering.TheVariants.{Less, Equal, Greater}
use Rattle.std.specs.declared.cmp.Ordering.{Ordering}
use Rattle.fault.specs.declared.LabelFault.{LabelFault}
use Rattle.fault.specs.declared.Layer.{Layer}
use Rattle.fault.specs.declared.Layer.TheVariants.{Label}
use Rattle.fault.specs.Told.{label_told}
use Rattle.standard.specs.Parts.{Parts}
use Rattle.written.specs.Written.{ideal_text}
use Rattle.protocol.specs.Answers.{Said, bad, refused, parts, read, order}

abbrev pub read_text : ℕ → Parts → List ℕ
read_text count p = codes "read " ++ decimal count ++ codes " " ++ ideal_text p

abbrev pub order_name : Ordering → List ℕ
order_name Less = codes "Less"
order_name Equal = codes "Equal"
order_name Greater = codes "Greater"

abbrev pub order_text : Ordering → List ℕ
order_text o = codes "order " ++ order_name o

abbrev pub layer_text : Layer → List ℕ
layer_text Label = codes "label"

abbrev pub fault_text : LabelFault → List ℕ
fault_text f = decimal (label_told f).number ++ codes " at " ++ decimal (label_told f).place ++ codes " layer " ++ layer_text (label_told f).layer

abbrev pub refusal_text : LabelFault → List ℕ
refusal_text f = codes "refused " ++ fault_text f

abbrev pub bad_text : List ℕ
bad_text = codes "bad command"

abbrev pub said_text : Said → List ℕ
said_text bad = bad_text
said_text (refused f) = refusal_text f
said_text (parts p) = ideal_text p
said_text (read count p) = read_text count p
said_text (order o) = order_text o

-- a line of its own
abbrev pub line_of : Said → List ℕ
line_of said = said_text said ++ 10 ∷ []
