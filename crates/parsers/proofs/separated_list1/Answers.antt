use Rattle.std.proofs.Common.{sym, ap, ◌∙◌, subst}
use Rattle.texts.specs.Texts.{bytes_of}
use Rattle.texts.specs.Tables.{with_row}
use Rattle.parsers.proofs.Lists.{Joined, start, more, at_other, at_dot}
use Rattle.parsers.proofs.separated_list1.Goals as goal
use Rattle.parsers.proofs.separated_list1.Goals.{in-Some+in_default-read, in_default}

pub loop-behind-init : goal.loop-behind-init
loop-behind-init g c =
    let first = c.in_ok-first.first in
    subst (Joined g.P.PartReader.part (bytes_of c.args.text) c.args.at c.in_ok-first.end) (sym (c.push.ensures.rows ∙ ap (λ l. with_row l first) c.new-table.ensures.none))
    (start _ _ first c.in_ok-first.ensures)

pub loop-behind-preserved : goal.loop-behind-preserved
loop-behind-preserved g c = rw c.push-in-Some.ensures.rows (more c.loop-behind.invariant c.args.text.short _ _ _ c.in-Some.ensures c.in-Some-read.ensures)

pub returns : goal.returns
returns g c = elim c.match-mark.branch [
  | in-Some+in_default-read w ↦ at_dot c.loop-behind.invariant _ w.in-Some.ensures w.in_default-read.ensures
  | in_default w ↦ at_other c.loop-behind.invariant w.in_default.ensures
]
