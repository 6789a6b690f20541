use Rattle.std.proofs.Common.{◌≤◌, refl, ◌∙◌, subst, arith, length-take}
use Rattle.std.specs.Char.{is_ascii_alphabetic}
use Rattle.parsers.specs.Places.{EndOf}
use Rattle.parsers.proofs.Stretches.{as_stretch}
use Rattle.version.proofs.Fronts.{between_front}
use Rattle.version.proofs.last.letters.Goals as goal

pub returns : goal.returns
returns c =
    let text = c.args.text.now in
    let e = subst (λ t. EndOf is_ascii_alphabetic t c.args.at c.stretch_end-end.result) c.front.ensures c.stretch_end-end.ensures in
    let h : c.stretch_end-end.result ≤ c.args.to = omega (arith, e.fits, length-take c.args.to text) in
    (as_stretch e c.if-end-at.false ∙ rw (between_front text c.args.at c.stretch_end-end.result c.args.to h) refl, c.if-end-at.false, e.fits)
