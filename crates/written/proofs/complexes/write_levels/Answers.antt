use Rattle.std.proofs.Common.{◌≡◌, Some, rules, arith, vec_items, refl, sym, ◌∙◌}
use Rattle.std.proofs.lemmas.List.{append-nil}
use Rattle.convert.specs.Said.{mess_said, signed_said}
use Rattle.texts.specs.Tables.{Taken}
use Rattle.written.specs.Written.{further_text}
use Rattle.written.proofs.Joining.{more_taken, stepped}
use Rattle.written.proofs.complexes.write_levels.Goals as goal

pub loop-level-init : goal.loop-level-init
loop-level-init c =
    let b = c.into_iter-level-iterator.ensures.into_iter_gives in
    rw (b, c.map_while-level-items.ensures.source, c.map_while-level-items.ensures.closure) (refl, c.further.ensures.count, omega arith, sym (append-nil _))

pub loop-level-preserved : goal.loop-level-preserved
loop-level-preserved c =
    let xs = (mess_said c.args.complex).further in
    let i = c.loop-level.level-iterator.iter.start in
    let h = c.in-Some.ensures.steps in
    let k = stepped _ _ h.0 (λ j e. absurd (search (e.0, rules))) h.1.1 h.2 in
    let t : Taken xs i (Some (signed_said c.in-Some.level)) = search (k.3, k.1, k.3.met, c.loop-level.invariant, rules) in
    let f : c.next.new.self.f.0.now ≡ c.args.complex = search (k.3.met, c.loop-level.invariant, rules) in
    rw k.2 (f, h.1.0 ∙ c.loop-level.invariant.1, omega (arith, t.0), more_taken further_text xs (vec_items c.args.out.now) _ i c.loop-level.invariant.3 t c.in_ok-write.ensures)
