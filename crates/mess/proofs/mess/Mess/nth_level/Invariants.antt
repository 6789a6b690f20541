use Rattle.std.proofs.Common.{◌≡◌, ℕ, List, drop}
use Rattle.mess.specs.Reading.{nth_level}
use Rattle.mess.specs.Labels.{mchunks_in, levels_from, parts_in}
use Rattle.mess.proofs.mess.Mess.nth_level.Given as goal

abbrev pub invariant-loop-level : goal.invariant-loop-level
invariant-loop-level l = (text : List ℕ) → nth_level (parts_in text l.self) ≡ nth_level (levels_from (mchunks_in text l.self.chunks) l.begin (drop l.level-index l.level-items))
