-- What is still to be read of a text, and readers of it. Assumes nothing.
use Rattle.std.specs.Prelude.{◌≡◌, ℕ, ◌+◌, ◌-◌, ◌<◌, ◌≤◌, List, length, drop, Some, None, Option}
use Rattle.parsers.specs.Reading.{Reader}
use Rattle.mess.specs.declared.rest.Rest.{Rest}

-- a rest, and one behind it
pub record Follows (r s : Rest) : Type 0 where
  pub past : r.from ≤ s.from
  pub fits : s.from ≤ r.from + length r.bytes.now
  pub bytes : s.bytes.now ≡ drop (s.from - r.from) r.bytes.now

-- a text that a rest is the end of
abbrev pub EndsIn : List ℕ → Rest → Type 0
EndsIn text r = drop r.from text ≡ r.bytes.now

-- a reader of a rest answers what f answers of its bytes; what it answers speaks of any text that the rest is the end of
abbrev pub GivesIn : {U V : Type 0} → (List ℕ → U → V) → Reader V → Rest → Option (U × Rest) → Type 0
GivesIn den f r None = f r.bytes.now ≡ None
GivesIn den f r (Some x) = Follows r x.1 × (r.from < x.1.from) × ((text : List ℕ) → EndsIn text r → f r.bytes.now ≡ Some (den text x.0, x.1.bytes.now))
