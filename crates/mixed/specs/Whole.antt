-- What a whole Complex beside its text says. Assumes nothing.
use Rattle.mess.specs.Parts.{Parts}
use Rattle.mess.specs.Labels.{parts_in}
use Rattle.mixed.specs.declared.whole.ComplexIn.{ComplexIn}

abbrev pub parts_of : ComplexIn → Parts
parts_of x = parts_in x.text.now x.mess.now
