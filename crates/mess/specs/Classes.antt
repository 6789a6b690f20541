-- The class of a run as it is read, byte by byte. Assumes nothing.
use Rattle.std.specs.Prelude.{◌≡◌, ℕ, ◌+◌, ◌-◌, ◌*◌, cond, List, take, Some, None, Option, ◌==◌, nat_le}
use Rattle.std.specs.Char.{is_ascii_digit, is_ascii_alphabetic}
use Rattle.parsers.specs.Bytes.{or_digit}
use Rattle.parsers.specs.Grammar.{limit}
use Rattle.parsers.specs.Places.{EndOf}
use Rattle.mess.specs.declared.class.Class.{Class}
use Rattle.mess.specs.declared.class.Class.TheVariants.{Start, OnlyR, Digits, Rev, Plain}
use Rattle.mess.specs.Parts.{MChunk, digits, rev, plain}
use Rattle.mess.specs.Reading.{sorted, ended}

-- a number with one digit more, within the limit
abbrev pub with_digit : ℕ → ℕ → Option ℕ
with_digit n d = cond (nat_le (n * 10 + d) limit) (Some (n * 10 + d)) None

abbrev pub counted_on : (ℕ → Class) → Option ℕ → Class
counted_on f None = Plain
counted_on f (Some n) = f n

-- the class after one byte more
abbrev pub after_of : Class → ℕ → Class
after_of Start b = cond (is_ascii_digit b) (Digits (b - 48)) (cond (b == 114) OnlyR Plain)
after_of OnlyR b = cond (is_ascii_digit b) (Rev (b - 48)) Plain
after_of (Digits n) b = cond (is_ascii_digit b) (counted_on Digits (with_digit n (b - 48))) Plain
after_of (Rev n) b = cond (is_ascii_digit b) (counted_on Rev (with_digit n (b - 48))) Plain
after_of Plain b = Plain

-- what a run of a class is
abbrev pub classed : Class → List ℕ → MChunk
classed Start w = plain w
classed OnlyR w = plain w
classed (Digits n) w = digits n w
classed (Rev n) w = rev n w
classed Plain w = plain w

-- the class counts before a dot, a level sign or the end
abbrev pub settled : Class → List ℕ → List ℕ → MChunk
settled c rest w = cond (ended rest) (classed c w) (plain w)

-- the run in front of a text ends there, and is of this class
pub record Scanned (text : List ℕ) (r : Class × ℕ) : Type 0 where
  pub end : EndOf (or_digit is_ascii_alphabetic) text 0 r.1
  pub class : classed r.0 (take r.1 text) ≡ sorted (take r.1 text)
