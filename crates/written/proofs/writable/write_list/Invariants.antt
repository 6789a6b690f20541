use Rattle.std.proofs.Common.{◌≡◌, ℕ, ◌++◌, List, take, vec_items}
use Rattle.written.specs.Written.{list_text}
use Rattle.written.proofs.writable.write_list.Given as goal

abbrev pub invariant-loop-i : goal.invariant-loop-i
invariant-loop-i g l =
    (text : g.L.Parts.each.Value → List ℕ) → ((x : _) → g.L.Part.Writable.text x ≡ text (g.L.Parts.each.value x))
    → vec_items l.out ≡ vec_items l.initial.out ++ list_text text (take l.i (g.L.Parts.parts l.list))
