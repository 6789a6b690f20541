use Rattle.std.proofs.Common.{rules}
use Rattle.mess.specs.Tables.{mchunk_in}
use Rattle.mess.specs.Labels.{parts_in}
use Rattle.mess.proofs.Handing.{nth_got}
use Rattle.mess.proofs.mess.Mess.nth_mchunk.Goals as goal

pub returns : goal.returns
returns c text = nth_got (mchunk_in text) c.nth_level.result.now c.args.n (parts_in text c.args.self.now) (c.nth_level.ensures text) c.copied.result (search rules)
