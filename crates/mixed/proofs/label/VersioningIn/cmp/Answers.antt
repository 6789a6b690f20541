use Rattle.mixed.proofs.Labels.{epochs, among_ideals}
use Rattle.mixed.proofs.label.VersioningIn.cmp.Goals as goal

pub returns : goal.returns
returns c =
    let a = c.cmp_forms.ensures in
    record { answer = a; epochs = epochs a; standard = among_ideals a }
