use Rattle.std.proofs.Common.{◌≡◌, ◌≤◌, ◌++◌, length, take, vec_items}
use Rattle.std.specs.List.{flat_map}
use Rattle.convert.specs.Said.{mess_said}
use Rattle.written.specs.Written.{further_text}
use Rattle.written.proofs.complexes.write_levels.Given as goal

abbrev pub invariant-loop-level : goal.invariant-loop-level
invariant-loop-level l =
    let xs = (mess_said l.fn.complex).further in
    (l.level-iterator.f.0.now ≡ l.fn.complex)
    × (l.level-iterator.iter.end ≡ length xs)
    × (l.level-iterator.iter.start ≤ length xs)
    × (vec_items l.out ≡ vec_items l.initial.out ++ flat_map further_text (take l.level-iterator.iter.start xs))
