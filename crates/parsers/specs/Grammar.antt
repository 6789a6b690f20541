-- The subject: what the grammars of labels are made of, as relations of whole texts and their parts. Assumes nothing.
use Rattle.std.specs.Prelude.{ℕ, ◌+◌, ◌-◌, ◌*◌, ◌<◌, ◌≤◌, Bool, List, [], ◌∷◌, ◌++◌, Some, None, Option}
use Rattle.std.specs.Char.{is_ascii_digit}
use Rattle.parsers.specs.Bytes.{letter_or_hyphen, or_digit, Each}

-- A grammar says of a text and a part that the text writes the part.
abbrev pub Grammar : Type 0 → Type 1
Grammar C = List ℕ → C → Type 0

-- nothing, or a part
pub data Perhaps {C : Type 0} (P : Grammar C) : List ℕ → Option C → Type 0 where
  absent : Perhaps P [] None
  present : {w : List ℕ} {c : C} → P w c → Perhaps P w (Some c)

-- a part behind a mark
pub data Behind {C : Type 0} (mark : ℕ) (P : Grammar C) : List ℕ → C → Type 0 where
  behind : {w : List ℕ} {c : C} → P w c → Behind mark P (mark ∷ w) c

-- any number of parts
pub data Many {C : Type 0} (P : Grammar C) : List ℕ → List C → Type 0 where
  none : Many P [] []
  more : {v w : List ℕ} {c : C} {cs : List C} → P v c → Many P w cs → Many P (v ++ w) (c ∷ cs)

-- one or more parts joined by dots
pub data Dotted {C : Type 0} (P : Grammar C) : List ℕ → List C → Type 0 where
  dotted : {v w : List ℕ} {c : C} {cs : List C} → P v c → Many (Behind 46 P) w cs → Dotted P (v ++ w) (c ∷ cs)

-- one or more bytes of the class p
pub data Stretch (p : ℕ → Bool) : List ℕ → List ℕ → Type 0 where
  stretch : {b : ℕ} {w : List ℕ} → Each p (b ∷ w) → Stretch p (b ∷ w) (b ∷ w)

-- a text that writes some part, as the text itself
pub data Spelled {C : Type 0} (P : Grammar C) : List ℕ → List ℕ → Type 0 where
  spelled : {w : List ℕ} {c : C} → P w c → Spelled P w w

-- the largest number that a label may write
abbrev pub limit : ℕ
limit = 4294967295

-- the number that digits write, after the number so far
abbrev pub worth : ℕ → List ℕ → ℕ
worth n [] = n
worth n (b ∷ bs) = worth (n * 10 + (b - 48)) bs

-- 0, or digits of which the first is 1 to 9, worth no more than the limit
pub data Number : List ℕ → ℕ → Type 0 where
  nought : Number (48 ∷ []) 0
  digits : {b : ℕ} {w : List ℕ} → 48 < b → Each is_ascii_digit (b ∷ w) → worth 0 (b ∷ w) ≤ limit → Number (b ∷ w) (worth 0 (b ∷ w))

-- metadata: a plus sign and stretches of letters, digits and hyphens joined by dots, as the text behind the plus sign
abbrev pub Metadata : List ℕ → List ℕ → Type 0
Metadata = Behind 43 (Spelled (Dotted (Stretch (or_digit letter_or_hyphen))))
