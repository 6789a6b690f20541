use Rattle.std.proofs.Common.{◌∙◌, ap, arith}
use Rattle.lines.specs.Hex.{digit_worth}
use Rattle.lines.proofs.Hexes.{all_rows, in_row, high_in_row, digit_in_row, write, all_written}
use Rattle.lines.proofs.hex.write_pairs.Goals as goal

pub digit_worth-requires : goal.digit_worth-requires
digit_worth-requires c = digit_in_row c.args.hex.now c.args.count c.requires.long c.as_chunks.ensures.front c.as_chunks.ensures.front_len c.loop-i.i 0 _ c.loop-i-test.true (omega arith)

pub digit_worth-requires-in-loop-i : goal.digit_worth-requires-in-loop-i
digit_worth-requires-in-loop-i c = digit_in_row c.args.hex.now c.args.count c.requires.long c.as_chunks.ensures.front c.as_chunks.ensures.front_len c.loop-i.i 1 _ c.loop-i-test.true (omega arith)

pub bounds-out-i : goal.bounds-out-i
bounds-out-i c = omega (arith, all_rows c.args.hex.now c.args.count c.requires.long c.as_chunks.ensures.front c.as_chunks.ensures.front_len)

pub loop-i-preserved : goal.loop-i-preserved
loop-i-preserved c =
    let n = all_rows c.args.hex.now c.args.count c.requires.long c.as_chunks.ensures.front c.as_chunks.ensures.front_len in
    let high = high_in_row c.args.hex.now c.args.count c.requires.long c.as_chunks.ensures.front c.as_chunks.ensures.front_len c.loop-i.i _ c.loop-i-test.true in
    let low = in_row c.args.hex.now c.args.count c.requires.long c.as_chunks.ensures.front c.as_chunks.ensures.front_len c.loop-i.i 1 _ c.loop-i-test.true (omega arith) in
    write c.loop-i.invariant c.requires.long (omega (arith, n)) (omega (arith, n)) (c.digit_worth.ensures.worth ∙ ap digit_worth high) (c.digit_worth-in-loop-i.ensures.worth ∙ ap digit_worth low)

pub returns : goal.returns
returns c =
    let n = all_rows c.args.hex.now c.args.count c.requires.long c.as_chunks.ensures.front c.as_chunks.ensures.front_len in
    let e = all_written c.loop-i.invariant c.requires.long (omega (arith, n)) (omega arith) in
    record { front = e.0; rest = e.1 }
