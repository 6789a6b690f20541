-- What a reader at a place answers. Assumes nothing.
use Rattle.std.specs.Prelude.{◌≡◌, ℕ, suc, ◌<◌, ◌≤◌, Bool, true, false, List, map, length, drop, Some, None, Option, ◌≢◌, slice_index}
use Rattle.std.specs.Option.{option_map}
use Rattle.texts.specs.declared.table.Rows.{Rows}
use Rattle.texts.specs.declared.table.Span.{Span}
use Rattle.texts.specs.Tables.{bytes_in, rows_of}
use Rattle.parsers.specs.Bytes.{letter_or_hyphen, or_digit}
use Rattle.parsers.specs.Reading.{Reader, perhaps_of, stretch_of}

-- A sort of part that a table has by its place P: its values, its reader, and what a place says in its text.
pub record Part (P : Type 0) : Type 1 where
  pub Value : Type 0
  pub reader : Reader Value
  pub says : List ℕ → P → Value

-- an identifier of metadata
abbrev pub identifier_part : Part Span
identifier_part = record { Value = List ℕ; reader = stretch_of (or_digit letter_or_hyphen); says = bytes_in }

-- the parts of a table, with their text
abbrev pub said_in : {P : Type 0} → (p : Part P) → List ℕ → Rows P → List p.Value
said_in p text t = map (p.says text) (rows_of t)

-- where the stretch of the class p at a place ends: the first place there or behind it whose byte is not of p, or the end
pub record EndOf (p : ℕ → Bool) (text : List ℕ) (at r : ℕ) : Type 0 where
  pub fits : r ≤ length text
  pub past : at ≤ length text → at ≤ r
  pub inside : (k : ℕ) → at ≤ k → k < r → p (slice_index text k) ≡ true
  pub stops : r < length text → p (slice_index text r) ≡ false

-- a reader at a place answers what f answers of the rest of the text, and goes on behind it
abbrev pub Gives : {U V : Type 0} → (U → V) → Reader V → List ℕ → ℕ → Option (U × ℕ) → Type 0
Gives den f text at None = f (drop at text) ≡ None
Gives den f text at (Some r) = (f (drop at text) ≡ Some (den r.0, drop r.1 text)) × (at < r.1) × (r.1 ≤ length text)

-- a part that may be absent, at a place
abbrev pub PerhapsGives : {U V : Type 0} → (U → V) → Reader V → List ℕ → ℕ → Option U × ℕ → Type 0
PerhapsGives den f text at r = (perhaps_of f (drop at text) ≡ (option_map den r.0, drop r.1 text)) × (at ≤ r.1) × (at ≤ length text → r.1 ≤ length text)

-- a part that may be absent, and the place to go on at
abbrev pub perhaps_read : {U : Type 0} → Option (U × ℕ) → ℕ → Option U × ℕ
perhaps_read None at = (None, at)
perhaps_read (Some r) at = (Some r.0, r.1)

-- the place behind a mark
abbrev pub Marked : ℕ → List ℕ → ℕ → Option ℕ → Type 0
Marked mark text at None = at < length text → slice_index text at ≢ mark
Marked mark text at (Some r) = (at < length text) × (slice_index text at ≡ mark) × (r ≡ suc at)
