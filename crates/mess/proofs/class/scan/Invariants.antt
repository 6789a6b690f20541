use Rattle.std.proofs.Common.{◌≡◌, take}
use Rattle.std.specs.List.{fold}
use Rattle.mess.specs.Classes.{after_of}
use Rattle.mess.specs.declared.class.Class.TheVariants.{Start}
use Rattle.mess.proofs.class.scan.Given as goal

abbrev pub invariant-loop-byte : goal.invariant-loop-byte
invariant-loop-byte l = l.class ≡ fold after_of Start (take l.byte-index l.byte-items)
