use Rattle.std.proofs.Common.{◌∙◌, arith}
use Rattle.parsers.specs.Bytes.{letter_or_hyphen, or_digit}
use Rattle.texts.specs.Texts.{bytes_of}
use Rattle.parsers.specs.Reading.{dotted_of, stretch_of}
use Rattle.parsers.proofs.Lists.{behind_mark, spelled_gives}
use Rattle.parsers.proofs.meta.Goals as goal

pub returns : goal.returns
returns c =
    let text = bytes_of c.args.text in
    let m = c.in_ok-from.ensures in
    let g = c.in_ok-end.ensures in
    (behind_mark _ text 43 c.args.at _ m ∙ spelled_gives (dotted_of (stretch_of (or_digit letter_or_hyphen))) text _ _ _ g.0 g.1 g.2, omega (arith, m.2, g.1), g.2)
