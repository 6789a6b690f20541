-- How a line is cut at its first blank, and where a line ends. Assumes nothing.
use Rattle.std.specs.Prelude.{◌≡◌, ℕ, ◌<◌, ◌≤◌, List, length, Some, None, Option, ◌==◌, ◌≢◌, slice_index}
use Rattle.std.specs.List.{before_first, after_first}

-- what stands before the first blank: the whole line where there is none
abbrev pub word_of : List ℕ → List ℕ
word_of line = before_first (λ b. b == 32) line

-- what stands behind the first blank: nothing where there is none
abbrev pub rest_of : List ℕ → List ℕ
rest_of line = after_first (λ b. b == 32) line

-- no b stands from one place up to another
abbrev pub Lacks : ℕ → List ℕ → ℕ → ℕ → Type 0
Lacks b text from to = (k : ℕ) → from ≤ k → k < to → slice_index text k ≢ b

-- the first place at or behind `at` that holds b, if there is one
abbrev pub First : ℕ → List ℕ → ℕ → Option ℕ → Type 0
First b text at None = Lacks b text at (length text)
First b text at (Some i) = (at ≤ i) × (i < length text) × (slice_index text i ≡ b) × Lacks b text at i
