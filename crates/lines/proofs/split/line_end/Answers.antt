use Rattle.std.proofs.Common.{sym, subst}
use Rattle.lines.specs.Split.{First}
use Rattle.lines.proofs.Splits.{first, none}
use Rattle.lines.proofs.split.line_end.Goals as goal

pub returns-in_err-found : goal.returns-in_err-found
returns-in_err-found c =
    let behind = c.in_ok-get.ensures.lookup.0 in
    subst (First 10 c.args.block.now c.args.at) (sym c.from_residual-in_err-found.ensures) (none 10 c.args.block.now c.args.at behind.0 behind.2 c.in_err-found.ensures)

pub returns : goal.returns
returns c =
    let behind = c.in_ok-get.ensures.lookup.0 in
    first 10 c.args.block.now c.args.at behind.0 behind.2 c.in_ok-found.ensures
