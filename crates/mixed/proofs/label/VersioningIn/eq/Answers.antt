use Rattle.mixed.proofs.Labels.{same_label, agreeing}
use Rattle.mixed.proofs.label.VersioningIn.eq.Goals as goal

pub returns : goal.returns
returns c =
    let a = c.eq.ensures in
    record { answer = a; same = same_label _ _ _ _ a; agreement = agreeing _ _ _ _ a }
