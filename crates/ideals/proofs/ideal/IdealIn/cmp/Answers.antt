use Rattle.ideals.specs.Views.{parts_of}
use Rattle.ideals.proofs.Comparing.{level, decided, standard, agreement}
use Rattle.ideals.proofs.ideal.IdealIn.cmp.Goals as goal

pub returns-in-Equal : goal.returns-in-Equal
returns-in-Equal c =
    let a = level (parts_of c.args.self.now) (parts_of c.args.other.now) c.cmp.ensures c.in-Equal.is c.cmp_release.ensures in
    record { answer = a; standard = standard a; agreement = agreement _ _ a }

pub returns-in_default : goal.returns-in_default
returns-in_default c =
    let a = decided (parts_of c.args.self.now) (parts_of c.args.other.now) c.cmp.ensures c.in_default.not-Equal in
    record { answer = a; standard = standard a; agreement = agreement _ _ a }
