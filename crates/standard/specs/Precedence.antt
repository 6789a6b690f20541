-- The precedence of Semantic Versioning 2.0.0, as the standard tells it. Assumes nothing.
use Rattle.std.specs.Prelude.{◌≡◌, ℕ, ◌<◌, List, ◌∷◌, ◌++◌, Some, None}
use Rattle.chunk.specs.Piece.{Piece, numeric, alphanum}
use Rattle.standard.specs.Parts.{Parts}

-- A text comes before another in ASCII order.
pub data TextLower : List ℕ → List ℕ → Type 0 where
  byte : {a b : ℕ} (same s t : List ℕ) → a < b → TextLower (same ++ (a ∷ s)) (same ++ (b ∷ t))
  shorter : (b : ℕ) (same t : List ℕ) → TextLower same (same ++ (b ∷ t))

pub data IdentifierLower : Piece → Piece → Type 0 where
  -- Identifiers of digits only are compared numerically.
  numerically : {m n : ℕ} → m < n → IdentifierLower (numeric m) (numeric n)
  -- Identifiers with letters or hyphens are compared lexically in ASCII order.
  lexically : {s t : List ℕ} → TextLower s t → IdentifierLower (alphanum s) (alphanum t)
  -- Numeric identifiers have lower precedence than others.
  below_others : {m : ℕ} {t : List ℕ} → IdentifierLower (numeric m) (alphanum t)

pub data ReleaseLower : List Piece → List Piece → Type 0 where
  -- Identifiers are compared from left to right until a difference is found.
  difference : {x y : Piece} (same xs ys : List Piece) → IdentifierLower x y → ReleaseLower (same ++ (x ∷ xs)) (same ++ (y ∷ ys))
  -- The larger set of identifiers is higher, if all of the preceding ones are equal.
  larger_set : (y : Piece) (same ys : List Piece) → ReleaseLower same (same ++ (y ∷ ys))

-- The three numbers are the same.
pub record SameCore (p q : Parts) : Type 0 where
  pub major : p.major ≡ q.major
  pub minor : p.minor ≡ q.minor
  pub patch : p.patch ≡ q.patch

-- The first label has lower precedence than the second. Metadata is not asked.
pub data Lower (p q : Parts) : Type 0 where
  -- Major, minor and patch are compared numerically; the first difference decides.
  by_major : p.major < q.major → Lower p q
  by_minor : p.major ≡ q.major → p.minor < q.minor → Lower p q
  by_patch : p.major ≡ q.major → p.minor ≡ q.minor → p.patch < q.patch → Lower p q
  -- With these equal, a pre-release version is lower than the normal version.
  pre_release : {xs : List Piece} → SameCore p q → p.release ≡ Some xs → q.release ≡ None → Lower p q
  -- Two pre-releases with these equal are compared by their identifiers.
  by_identifiers : {xs ys : List Piece} → SameCore p q → p.release ≡ Some xs → q.release ≡ Some ys → ReleaseLower xs ys → Lower p q

-- Neither is lower: the same numbers and the same Release. Metadata is not asked.
pub record Level (p q : Parts) : Type 0 where
  pub core : SameCore p q
  pub release : p.release ≡ q.release
