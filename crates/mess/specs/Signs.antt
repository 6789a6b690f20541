-- The bytes of level signs. Assumes nothing.
use Rattle.std.specs.Prelude.{◌≡◌, ℕ, Some, None, Result, MatchResult, refl}
use Rattle.mess.specs.declared.sep.Sep.{Sep}
use Rattle.mess.specs.declared.sep.Sep.TheVariants.{Colon, Hyphen, Plus, Underscore, Tilde}
use Rattle.mess.specs.declared.sep.NoSep.{NoSep}
use Rattle.mess.specs.Reading.{sep_of}

-- the level sign that a byte is, or the byte where it is none
abbrev pub SignOr : ℕ → Result Sep NoSep → Type 0
SignOr byte r = MatchResult r (λ sep. sep_of byte ≡ Some sep) (λ e. (sep_of byte ≡ None) × (e.0 ≡ byte))

-- the byte of a level sign
abbrev pub sep_byte : Sep → ℕ
sep_byte Colon = 58
sep_byte Hyphen = 45
sep_byte Plus = 43
sep_byte Underscore = 95
sep_byte Tilde = 126

-- which is read as that sign
pub sep_byte_read : (s : Sep) → sep_of (sep_byte s) ≡ Some s
sep_byte_read Colon = refl
sep_byte_read Hyphen = refl
sep_byte_read Plus = refl
sep_byte_read Underscore = refl
sep_byte_read Tilde = refl
