-- Plain decimal numbers. Assumes nothing.
use Rattle.std.specs.Prelude.{ℕ, cond, ◌&&◌, List, length, Some, None, Option, ◌==◌, nat_le}
use Rattle.std.specs.Char.{is_ascii_digit}
use Rattle.parsers.specs.Grammar.{worth, limit}
use Rattle.std.specs.List.{list_all}

-- what digits are worth, if that is at most `most`
abbrev pub upto : ℕ → List ℕ → Option ℕ
upto most text = cond (list_all is_ascii_digit text && nat_le (worth 0 text) most) (Some (worth 0 text)) None

-- one or more digits, worth no more than the limit
abbrev pub decimal_of : List ℕ → Option ℕ
decimal_of text = cond (length text == 0) None (upto limit text)
