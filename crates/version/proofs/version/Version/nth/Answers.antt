use Rattle.std.proofs.Common.{Some, None, sym, ◌∙◌}
use Rattle.version.proofs.Places.{at_chunk}
use Rattle.version.proofs.version.Version.nth.Goals as goal

pub returns-in_err-get : goal.returns-in_err-get
returns-in_err-get c = λ text. c.from_residual.ensures ∙ sym (at_chunk c.args.self.now c.args.n _ c.len.ensures.count text c.if-n-len.false None c.in_err-get.ensures.row)

pub returns : goal.returns
returns c = λ text. c.single_digit.ensures text ∙ sym (at_chunk c.args.self.now c.args.n _ c.len.ensures.count text c.if-n-len.false (Some c.in_ok-get.field-0) c.in_ok-get.ensures.row)
