use Rattle.mess.proofs.Filling.{start, more, at_other, at_dot}
use Rattle.mess.proofs.levels.mchunks.Goals as goal
use Rattle.mess.proofs.levels.mchunks.Goals.{in-Some+in_default-parse, in_default}

pub loop-dotted-init : goal.loop-dotted-init
loop-dotted-init c = start c.args.chunks.now c.push.new.self c.in_ok-first.first c.requires.room c.in_ok-first.ensures c.push.ensures.rows

pub loop-dotted-preserved : goal.loop-dotted-preserved
loop-dotted-preserved c = more c.in-Some-parse.further c.loop-dotted.invariant c.in-Some.ensures c.in-Some-parse.ensures c.push-in-Some.ensures.rows

pub returns : goal.returns
returns c =
    let j = c.loop-dotted.invariant in
    elim c.match-strip.branch [
      | in-Some+in_default-parse w ↦ at_dot c.args.chunks.now c.push.new.self c.in_ok-first.first c.requires.room c.in_ok-first.ensures c.push.ensures.rows c.loop-dotted.chunks j w.in-Some.dotted w.in-Some.ensures w.in_default-parse.ensures
      | in_default w ↦ at_other c.args.chunks.now c.push.new.self c.in_ok-first.first c.requires.room c.in_ok-first.ensures c.push.ensures.rows c.loop-dotted.chunks j w.in_default.ensures
    ]
