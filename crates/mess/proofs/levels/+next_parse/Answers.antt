use Rattle.std.proofs.Common.{take, refl, ap, ◌∙◌}
use Rattle.texts.specs.Tables.{rows_of}
use Rattle.mess.proofs.Ring.{joined, at_end, no_sign, no_level, a_level}
use Rattle.mess.proofs.levels.+next_parse.Goals as goal

pub next-returns-in_default : goal.next-returns-in_default
next-returns-in_default t c = at_end c.args.rest c.args.mess.now c.in_default.ensures

pub next-returns-in_default-sep : goal.next-returns-in_default-sep
next-returns-in_default-sep t c = no_sign c.args.rest c.in-Some.behind c.in-Some.byte c.in-Some.ensures c.args.mess.now c.in_default-sep.ensures

pub next-returns-in-Some-parse : goal.next-returns-in-Some-parse
next-returns-in-Some-parse t c =
    let m = c.args.mess.now in
    a_level c.args.rest c.in-Some.behind c.in-Some.byte c.in-Some.ensures m c.in-Some-sep.sep c.in-Some-sep.ensures c.len.result c.len.ensures.count _ c.parse.new.mess refl c.requires.room.levels c.push.ensures.rows c.in-Some-parse.end c.in-Some-parse.ensures

pub next-returns-in-None : goal.next-returns-in-None
next-returns-in-None t c =
    let m = c.args.mess.now in
    no_level c.args.rest c.in-Some.behind c.in-Some.byte c.in-Some.ensures m c.in-Some-sep.sep c.in-Some-sep.ensures c.len.result c.len.ensures.count (record m { levels = c.push.new.self }) c.parse.new.mess refl c.requires.room.levels c.push.ensures.rows _ c.in-None.ensures refl (c.truncate.ensures ∙ ap (λ n. take n (rows_of c.parse.new.mess.levels)) c.len-count.ensures.count)

pub parse-returns : goal.parse-returns
parse-returns t c = joined c.args.mess.now _ c.next.new.mess c.in_ok-end.ensures refl c.next.ensures
