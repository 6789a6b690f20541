use Rattle.std.proofs.Common.{◌∙◌}
use Rattle.mess.proofs.Handing.{no_number, a_number, not_number}
use Rattle.mess.proofs.mess.Mess.nth.Goals as goal

pub returns-in_err-number : goal.returns-in_err-number
returns-in_err-number c text = c.from_residual.ensures ∙ no_number text c.args.self.now c.args.n c.nth_mchunk.result (c.nth_mchunk.ensures text) c.in_err-number.was

pub returns-in-Digits : goal.returns-in-Digits
returns-in-Digits c text = a_number text c.args.self.now c.args.n c.nth_mchunk.result (c.nth_mchunk.ensures text) _ _ _ c.in_ok-number.was c.in-Digits.is

pub returns-in_default : goal.returns-in_default
returns-in_default c text = not_number text c.args.self.now c.args.n c.nth_mchunk.result (c.nth_mchunk.ensures text) _ c.in_ok-number.was c.in_default.not-Digits
