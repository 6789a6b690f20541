use Rattle.std.proofs.Common.{◌+◌, length, sym, ap, ◌∙◌}
use Rattle.general.specs.Views as general
use Rattle.complex.specs.Order.{complex_order}
use Rattle.convert.specs.Said.{mess_said}
use Rattle.mixed.specs.Whole as complex
use Rattle.mixed.specs.Complexes.{meet_from}
use Rattle.mixed.proofs.Meeting.{settled, positions}
use Rattle.mixed.proofs.version_mess.cmp_positions.Goals as goal

pub returns-in-Ok : goal.returns-in-Ok
returns-in-Ok c =
    let g = general.parts_of c.args.general.now in
    let m = complex.parts_of c.args.complex.now in
    let o = complex_order (mess_said c.args.mine.now) (mess_said c.args.other.now) in
    ap (λ r. settled r (λ n. o)) (sym c.in-Ok.is ∙ c.meet.ensures) ∙ positions g m o 0 _ ∙ ap (meet_from g m o 0) (ap (λ n. n + 1) (c.len.ensures.count ∙ ap length c.chunks.ensures))

pub returns-in-Err : goal.returns-in-Err
returns-in-Err c =
    let g = general.parts_of c.args.general.now in
    let m = complex.parts_of c.args.complex.now in
    let o = complex_order (mess_said c.args.mine.now) (mess_said c.args.other.now) in
    c.cmp.ensures ∙ ap (λ r. settled r (λ n. o)) (sym c.in-Err.is ∙ c.meet.ensures) ∙ positions g m o 0 _ ∙ ap (meet_from g m o 0) (ap (λ n. n + 1) (c.len.ensures.count ∙ ap length c.chunks.ensures))
