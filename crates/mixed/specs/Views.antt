-- What a label beside its text says, and its order. Assumes nothing.
use Rattle.std.specs.Prelude.{Bool}
use Rattle.order.specs.Orders.{Order}
use Rattle.versioning.specs.First.{ideal, general, complex}
use Rattle.versioning.specs.Labels.{Parts, parts_in}
use Rattle.ideals.specs.Views as ideals
use Rattle.general.specs.Views as generals
use Rattle.mixed.specs.declared.label.VersioningIn.{VersioningIn}
use Rattle.mixed.specs.declared.label.Form.{Form}
use Rattle.mixed.specs.declared.label.Form.TheVariants.{Ideal, General, Complex}
use Rattle.mixed.specs.Labels.{label_order, label_balanced, equal_of}
use Rattle.mixed.specs.Whole as whole

abbrev pub parts_of : VersioningIn → Parts
parts_of x = parts_in x.text.now x.versioning.now

-- the same of a label by its form
abbrev pub form_parts : Form → Parts
form_parts (Ideal x) = ideal (ideals.parts_of x)
form_parts (General x) = general (generals.parts_of x)
form_parts (Complex x) = complex (whole.parts_of x)

-- labels of any form, by the order of their parts
abbrev pub labelwise : Order VersioningIn
labelwise = record { Value = Parts; value = parts_of; answer = label_order; laws = label_balanced }

-- the equality that a rule asks for
abbrev pub same : VersioningIn → VersioningIn → Bool
same x y = equal_of x.text.now y.text.now (parts_of x) (parts_of y)
