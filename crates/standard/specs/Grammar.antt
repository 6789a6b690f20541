-- The grammar of Semantic Versioning 2.0.0, production by production under the standard's names,
-- as a relation of whole texts and their parts. Assumes nothing.
use Rattle.std.specs.Prelude.{ℕ, ◌+◌, ◌-◌, ◌*◌, ◌^◌, ◌≤◌, List, [], ◌∷◌, ◌++◌, length, Some, None}
use Rattle.chunk.specs.Piece.{Piece, numeric, alphanum}
use Rattle.standard.specs.Parts.{Parts}

-- <letter> ::= "A" .. "Z" | "a" .. "z"
pub data Letter : ℕ → Type 0 where
  upper : {b : ℕ} → 65 ≤ b → b ≤ 90 → Letter b
  lower : {b : ℕ} → 97 ≤ b → b ≤ 122 → Letter b

-- <positive digit> ::= "1" .. "9"
pub data PositiveDigit : ℕ → Type 0 where
  positive : {b : ℕ} → 49 ≤ b → b ≤ 57 → PositiveDigit b

-- <digit> ::= "0" | <positive digit>
pub data Digit : ℕ → Type 0 where
  nought : Digit 48
  positive : {b : ℕ} → PositiveDigit b → Digit b

-- <digits> ::= <digit> | <digit> <digits>, with the number that they write
pub data Digits : List ℕ → ℕ → Type 0 where
  one : {b : ℕ} → Digit b → Digits (b ∷ []) (b - 48)
  more : {b n : ℕ} {w : List ℕ} → Digit b → Digits w n → Digits (b ∷ w) ((b - 48) * 10 ^ length w + n)

-- <non-digit> ::= <letter> | "-"
pub data NonDigit : ℕ → Type 0 where
  letter : {b : ℕ} → Letter b → NonDigit b
  hyphen : NonDigit 45

-- <identifier character> ::= <digit> | <non-digit>
pub data IdentifierCharacter : ℕ → Type 0 where
  digit : {b : ℕ} → Digit b → IdentifierCharacter b
  non_digit : {b : ℕ} → NonDigit b → IdentifierCharacter b

-- <identifier characters> ::= <identifier character> | <identifier character> <identifier characters>
pub data IdentifierCharacters : List ℕ → Type 0 where
  one : {b : ℕ} → IdentifierCharacter b → IdentifierCharacters (b ∷ [])
  more : {b : ℕ} {w : List ℕ} → IdentifierCharacter b → IdentifierCharacters w → IdentifierCharacters (b ∷ w)

-- <numeric identifier> ::= "0" | <positive digit> | <positive digit> <digits>, with the number that it writes
pub data NumericIdentifier : List ℕ → ℕ → Type 0 where
  nought : NumericIdentifier (48 ∷ []) 0
  positive : {b : ℕ} → PositiveDigit b → NumericIdentifier (b ∷ []) (b - 48)
  digits : {b n : ℕ} {w : List ℕ} → PositiveDigit b → Digits w n → NumericIdentifier (b ∷ w) ((b - 48) * 10 ^ length w + n)

-- <alphanumeric identifier> ::= <non-digit> | <non-digit> <identifier characters>
--   | <identifier characters> <non-digit> | <identifier characters> <non-digit> <identifier characters>
pub data AlphanumericIdentifier : List ℕ → Type 0 where
  alone : {b : ℕ} → NonDigit b → AlphanumericIdentifier (b ∷ [])
  before : {b : ℕ} {w : List ℕ} → NonDigit b → IdentifierCharacters w → AlphanumericIdentifier (b ∷ w)
  behind : {v : List ℕ} (b : ℕ) → IdentifierCharacters v → NonDigit b → AlphanumericIdentifier (v ++ (b ∷ []))
  amid : {v w : List ℕ} (b : ℕ) → IdentifierCharacters v → NonDigit b → IdentifierCharacters w → AlphanumericIdentifier (v ++ (b ∷ w))

-- <pre-release identifier> ::= <alphanumeric identifier> | <numeric identifier>
pub data PreReleaseIdentifier : List ℕ → Piece → Type 0 where
  alphanumeric : {w : List ℕ} → AlphanumericIdentifier w → PreReleaseIdentifier w (alphanum w)
  numerical : {w : List ℕ} {n : ℕ} → NumericIdentifier w n → PreReleaseIdentifier w (numeric n)

-- <build identifier> ::= <alphanumeric identifier> | <digits>
pub data BuildIdentifier : List ℕ → Type 0 where
  alphanumeric : {w : List ℕ} → AlphanumericIdentifier w → BuildIdentifier w
  digits : {w : List ℕ} {n : ℕ} → Digits w n → BuildIdentifier w

-- <pre-release> ::= <pre-release identifier> | <pre-release identifier> "." <dot-separated pre-release identifiers>
pub data PreRelease : List ℕ → List Piece → Type 0 where
  one : {w : List ℕ} {x : Piece} → PreReleaseIdentifier w x → PreRelease w (x ∷ [])
  more : {v w : List ℕ} {x : Piece} {xs : List Piece} → PreReleaseIdentifier v x → PreRelease w xs → PreRelease (v ++ (46 ∷ w)) (x ∷ xs)

-- <build> ::= <build identifier> | <build identifier> "." <dot-separated build identifiers>
pub data Build : List ℕ → Type 0 where
  one : {w : List ℕ} → BuildIdentifier w → Build w
  more : {v w : List ℕ} → BuildIdentifier v → Build w → Build (v ++ (46 ∷ w))

-- <version core> ::= <major> "." <minor> "." <patch>, each a <numeric identifier>
pub data VersionCore : List ℕ → ℕ → ℕ → ℕ → Type 0 where
  core : {x y z : List ℕ} {i j k : ℕ} → NumericIdentifier x i → NumericIdentifier y j → NumericIdentifier z k → VersionCore (x ++ (46 ∷ (y ++ (46 ∷ z)))) i j k

-- <valid semver> ::= <version core> | <version core> "-" <pre-release> | <version core> "+" <build>
--   | <version core> "-" <pre-release> "+" <build>
pub data ValidSemver : List ℕ → Parts → Type 0 where
  plain : {c : List ℕ} {i j k : ℕ} → VersionCore c i j k → ValidSemver c (record { major = i; minor = j; patch = k; release = None; meta = None })
  released : {c r : List ℕ} {i j k : ℕ} {xs : List Piece} → VersionCore c i j k → PreRelease r xs
      → ValidSemver (c ++ (45 ∷ r)) (record { major = i; minor = j; patch = k; release = Some xs; meta = None })
  built : {c m : List ℕ} {i j k : ℕ} → VersionCore c i j k → Build m
      → ValidSemver (c ++ (43 ∷ m)) (record { major = i; minor = j; patch = k; release = None; meta = Some m })
  full : {c r m : List ℕ} {i j k : ℕ} {xs : List Piece} → VersionCore c i j k → PreRelease r xs → Build m
      → ValidSemver (c ++ (45 ∷ (r ++ (43 ∷ m)))) (record { major = i; minor = j; patch = k; release = Some xs; meta = Some m })
