-- What a General label beside its text says, and the orders of Lasts and Generals. Assumes nothing.
use Rattle.order.specs.Orders.{Order}
use Rattle.version.specs.Parts.{LastPart, Parts}
use Rattle.version.specs.Labels.{parts_in, last_said as said}
use Rattle.general.specs.declared.last.LastIn.{LastIn}
use Rattle.general.specs.declared.general.VersionIn.{VersionIn}
use Rattle.general.specs.Lasts.{last_order, last_balanced}
use Rattle.general.specs.Order.{general_order, general_balanced}

abbrev pub parts_of : VersionIn → Parts
parts_of x = parts_in x.text.now x.version.now

-- what a Last that is handed out says
abbrev pub last_said : LastIn → LastPart
last_said l = said l.0

-- Lasts under `cmp`
abbrev pub lastly : Order LastIn
lastly = record { Value = LastPart; value = last_said; answer = last_order; laws = last_balanced }

-- Generals, by the order of their parts
abbrev pub generally : Order VersionIn
generally = record { Value = Parts; value = parts_of; answer = general_order; laws = general_balanced }
