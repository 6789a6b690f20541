use Rattle.std.proofs.Common.{◌≡◌, take, ap, ◌∙◌}
use Rattle.std.proofs.lemmas.List.{take_all}
use Rattle.std.specs.List.{fold}
use Rattle.mess.specs.Classes.{after_of, classed}
use Rattle.mess.specs.declared.class.Class.TheVariants.{Start}
use Rattle.mess.proofs.Scanning.{classes}
use Rattle.mess.proofs.class.scan.Goals as goal

pub returns : goal.returns
returns c =
    let w = take c.run_end-end.result c.args.text.now in
    let e : c.loop-byte.class ≡ fold after_of Start w = c.loop-byte.invariant ∙ ap (fold after_of Start) (take_all _ w c.loop-byte-test.false) in
    record { end = c.run_end-end.ensures; class = ap (λ x. classed x w) e ∙ classes w }
