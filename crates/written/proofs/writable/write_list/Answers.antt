use Rattle.std.proofs.Common.{vec_items, arith}
use Rattle.written.proofs.Listing.{more, all}
use Rattle.written.proofs.writable.write_list.Goals as goal

pub loop-i-preserved : goal.loop-i-preserved
loop-i-preserved g c text agrees =
    let p = g.L.Parts in
    let n = p.counted c.args.list.now in
    more text (p.parts c.args.list.now) (vec_items c.args.out.now) _ _ (c.loop-i.invariant text agrees) {mid = vec_items c.write_comma.new.out} c.in_ok-write_comma.ensures (omega arith) c.part.ensures (rw (← agrees _) c.in_ok-write.ensures)

pub returns : goal.returns
returns g c text agrees =
    let p = g.L.Parts in
    let n = p.counted c.args.list.now in
    all text (p.parts c.args.list.now) (vec_items c.args.out.now) _ _ (c.loop-i.invariant text agrees) (omega arith)
