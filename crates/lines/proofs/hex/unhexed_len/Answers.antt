use Rattle.std.proofs.Common.{◌≡◌, ◌%◌, ◌&&◌, length, eqb, ◌∙◌, rules}
use Rattle.std.specs.List.{list_all}
use Rattle.std.proofs.lemmas.Bool.{eq-eqb, ne_eqb}
use Rattle.lines.specs.Hex.{hex_digit}
use Rattle.lines.proofs.Hexes.{decided}
use Rattle.lines.proofs.hex.unhexed_len.Goals.{then-hex-eq0, else-hex-eq0}
use Rattle.lines.proofs.hex.unhexed_len.Goals as goal

pub returns : goal.returns
returns c =
    let both : c.if-hex-eq0.then_some ≡ (list_all hex_digit c.args.hex.now && eqb (length c.args.hex.now % 2) 0) = elim c.if-hex-eq0.branch [
      | then-hex-eq0 w ↦ search (rules, eq-eqb _ _ w.if-hex-eq0.true)
      | else-hex-eq0 w ↦ w.then_some-is ∙ search (rules, ne_eqb _ _ w.if-hex-eq0.false)
    ] in
    decided c.args.hex.now _ c.if-is_hyphen.ensures both c.then_some.ensures
