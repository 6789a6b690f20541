-- The subject: the grammar of Complex labels. Assumes nothing.
use Rattle.std.specs.Prelude.{ℕ, ◌≤◌, List, ◌∷◌, ◌++◌}
use Rattle.std.specs.Char.{is_ascii_digit, is_ascii_alphabetic}
use Rattle.parsers.specs.Bytes.{or_digit, Each}
use Rattle.parsers.specs.Grammar.{Behind, Many, Dotted, Stretch, limit, worth}
use Rattle.mess.specs.declared.sep.Sep.{Sep}
use Rattle.mess.specs.declared.sep.Sep.TheVariants.{Colon, Hyphen, Plus, Underscore, Tilde}
use Rattle.mess.specs.Parts.{MChunk, digits, rev, plain, Parts}

-- digits, with zeros in front or not, worth no more than the limit
pub data Count : List ℕ → ℕ → Type 0 where
  count : {b : ℕ} {w : List ℕ} → Each is_ascii_digit (b ∷ w) → worth 0 (b ∷ w) ≤ limit → Count (b ∷ w) (worth 0 (b ∷ w))

-- the letter r and such digits
abbrev pub Revision : List ℕ → ℕ → Type 0
Revision = Behind 114 Count

-- what a run is: Digits, Rev, or else Plain
pub data MChunked : List ℕ → MChunk → Type 0 where
  as_digits : {w : List ℕ} {n : ℕ} → Count w n → MChunked w (digits n w)
  as_rev : {w : List ℕ} {n : ℕ} → Revision w n → MChunked w (rev n w)
  as_plain : {w : List ℕ} → Stretch (or_digit is_ascii_alphabetic) w w → ((n : ℕ) → Count w n → ⊥) → ((n : ℕ) → Revision w n → ⊥) → MChunked w (plain w)

-- the level signs : - + _ ~
pub data Sign : ℕ → Sep → Type 0 where
  colon : Sign 58 Colon
  hyphen : Sign 45 Hyphen
  plus : Sign 43 Plus
  underscore : Sign 95 Underscore
  tilde : Sign 126 Tilde

-- a level: one or more MChunks joined by dots
abbrev pub Level : List ℕ → List MChunk → Type 0
Level = Dotted MChunked

-- a further level, behind its sign
pub data Next : List ℕ → Sep × List MChunk → Type 0 where
  next : {b : ℕ} {s : Sep} {w : List ℕ} {cs : List MChunk} → Sign b s → Level w cs → Next (b ∷ w) (s, cs)

-- a level, and any number of further ones
pub data Complex : List ℕ → Parts → Type 0 where
  complex : {v w : List ℕ} {cs : List MChunk} {ls : List (Sep × List MChunk)} → Level v cs → Many Next w ls → Complex (v ++ w) (record { first = cs; further = ls })
