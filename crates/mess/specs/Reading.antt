-- The meaning: what `parse` reads, and `nth`. Assumes nothing.
use Rattle.std.specs.Prelude.{ℕ, zero, suc, Bool, true, false, cond, ◌&&◌, ◌||◌, List, [], ◌∷◌, length, is_some, Some, None, Option, ◌==◌, nat_le}
use Rattle.std.specs.Char.{is_ascii_alphabetic}
use Rattle.std.specs.List.{slice_get}
use Rattle.std.specs.Str.{all_ascii_digits}
use Rattle.parsers.specs.Bytes.{or_digit}
use Rattle.parsers.specs.Grammar.{limit, worth}
use Rattle.parsers.specs.Reading.{Reader, follow, stretch_of, dotted_of, many_of}
use Rattle.mess.specs.declared.sep.Sep.{Sep}
use Rattle.mess.specs.declared.sep.Sep.TheVariants.{Colon, Hyphen, Plus, Underscore, Tilde}
use Rattle.mess.specs.Parts.{MChunk, digits, rev, plain, Parts}

-- digits, with zeros in front or not, worth no more than the limit
abbrev pub counts : List ℕ → Bool
counts [] = false
counts (b ∷ w) = all_ascii_digits (b ∷ w) && nat_le (worth 0 (b ∷ w)) limit

-- the letter r and such digits
abbrev pub revises : List ℕ → Bool
revises [] = false
revises (b ∷ w) = b == 114 && counts w

abbrev pub past_r : List ℕ → List ℕ
past_r [] = []
past_r (b ∷ w) = w

-- what a run is alone
abbrev pub sorted : List ℕ → MChunk
sorted w = cond (counts w) (digits (worth 0 w) w) (cond (revises w) (rev (worth 0 (past_r w)) w) (plain w))

-- the level sign that a byte is
abbrev pub sep_of : ℕ → Option Sep
sep_of b = cond (b == 58) (Some Colon) (cond (b == 45) (Some Hyphen) (cond (b == 43) (Some Plus) (cond (b == 95) (Some Underscore) (cond (b == 126) (Some Tilde) None))))

-- a dot or a level sign
abbrev pub joint : ℕ → Bool
joint b = b == 46 || is_some (sep_of b)

-- whether a dot, a level sign or the end stands in front
abbrev pub ended : List ℕ → Bool
ended [] = true
ended (b ∷ bs) = joint b

-- the run in front: what it is alone before a dot, a level sign or the end, and Plain before any other byte
abbrev pub mchunk_of : Reader MChunk
mchunk_of bs = follow (stretch_of (or_digit is_ascii_alphabetic) bs) (λ w rest. Some (cond (ended rest) (sorted w) (plain w), rest)) None

abbrev pub level_of : Reader (List MChunk)
level_of = dotted_of mchunk_of

-- a part behind a level sign
abbrev pub signed : {C : Type 0} → Option Sep → Option (C × List ℕ) → Option ((Sep × C) × List ℕ)
signed None o = None
signed (Some s) o = follow o (λ c rest. Some ((s, c), rest)) None

abbrev pub behind_sign : {C : Type 0} → Reader C → Reader (Sep × C)
behind_sign R [] = None
behind_sign R (b ∷ bs) = signed (sep_of b) (R bs)

abbrev pub next_of : Reader (Sep × List MChunk)
next_of = behind_sign level_of

-- a level and at most k further ones, by a reader of one level
abbrev pub levels_by : Reader (List MChunk) → ℕ → Reader Parts
levels_by R k bs = follow (R bs) (λ cs rest. let m = many_of (behind_sign R) k rest in Some (record { first = cs; further = m.0 }, m.1)) None

-- a level and as many further ones as there are
abbrev pub complex_of : Reader Parts
complex_of bs = levels_by level_of (length bs) bs

-- the number of an MChunk, if it is Digits
abbrev pub number_in : MChunk → Option ℕ
number_in (digits n w) = Some n
number_in (rev n w) = None
number_in (plain w) = None

-- the number of the nth MChunk
abbrev pub number_at : ℕ → List MChunk → Option ℕ
number_at n [] = None
number_at zero (c ∷ cs) = number_in c
number_at (suc n) (c ∷ cs) = number_at n cs

abbrev pub by_colon : {A : Type 0} → Sep → A → A → A
by_colon Colon x y = x
by_colon Hyphen x y = y
by_colon Plus x y = y
by_colon Underscore x y = y
by_colon Tilde x y = y

-- of the next level where a colon follows, otherwise of this one
abbrev pub nth_from : ℕ → List MChunk → List (Sep × List MChunk) → Option ℕ
nth_from n cs [] = number_at n cs
nth_from n cs (l ∷ ls) = by_colon l.0 (nth_from n l.1 ls) (number_at n cs)

abbrev pub nth_of : ℕ → Parts → Option ℕ
nth_of n p = nth_from n p.first p.further

-- the nth MChunk: of the next level where a colon follows, otherwise of this one
abbrev pub mchunk_from : ℕ → List MChunk → List (Sep × List MChunk) → Option MChunk
mchunk_from n cs [] = slice_get cs n
mchunk_from n cs (l ∷ ls) = by_colon l.0 (mchunk_from n l.1 ls) (slice_get cs n)

abbrev pub mchunk_at : ℕ → Parts → Option MChunk
mchunk_at n p = mchunk_from n p.first p.further

-- the first level that no colon follows, in which the nth MChunk is looked up
abbrev pub nth_level_from : List MChunk → List (Sep × List MChunk) → List MChunk
nth_level_from cs [] = cs
nth_level_from cs (l ∷ ls) = by_colon l.0 (nth_level_from l.1 ls) cs

abbrev pub nth_level : Parts → List MChunk
nth_level p = nth_level_from p.first p.further
