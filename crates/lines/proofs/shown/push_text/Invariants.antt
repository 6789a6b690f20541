use Rattle.std.proofs.Common.{◌≡◌, ◌++◌, take, string_bytes}
use Rattle.lines.specs.Shown.{shown_of}
use Rattle.lines.proofs.shown.push_text.Given as goal

abbrev pub invariant-loop-b : goal.invariant-loop-b
invariant-loop-b l = string_bytes l.all ≡ string_bytes l.initial.all ++ shown_of (take l.b-index l.text)
