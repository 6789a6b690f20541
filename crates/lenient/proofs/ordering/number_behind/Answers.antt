use Rattle.std.proofs.Common.{rules}
use Rattle.lenient.proofs.Counts.{behind}
use Rattle.lenient.proofs.ordering.number_behind.Goals as goal

pub returns-in-len1-up-len1-up : goal.returns-in-len1-up-len1-up
returns-in-len1-up-len1-up c =
    behind c.args.text.now c.args.other.now _ (search rules) (search rules) c.if-a-b.true c.if-is_ascii_alphabetic.ensures.value c.lenient_number.ensures
