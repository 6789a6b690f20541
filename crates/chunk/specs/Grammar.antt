-- The subject: chunks, lists of chunks and Releases. Assumes nothing.
use Rattle.std.specs.Prelude.{◌≡◌, ℕ, Bool, true, List}
use Rattle.std.specs.List.{list_any}
use Rattle.std.specs.Char.{is_ascii_alphabetic}
use Rattle.parsers.specs.Bytes.{letter_or_hyphen, or_digit, Each}
use Rattle.parsers.specs.Grammar.{Number, Behind, Dotted}
use Rattle.chunk.specs.Piece.{Piece, numeric, alphanum}

-- a number, or digits and bytes of q with a q among them
pub data Chunked (q : ℕ → Bool) : List ℕ → Piece → Type 0 where
  number : {w : List ℕ} {n : ℕ} → Number w n → Chunked q w (numeric n)
  word : {w : List ℕ} → Each (or_digit q) w → list_any q w ≡ true → Chunked q w (alphanum w)

-- a hyphen and one or more release chunks joined by dots
abbrev pub Released : List ℕ → List Piece → Type 0
Released = Behind 45 (Dotted (Chunked letter_or_hyphen))

-- one or more plain chunks joined by dots
abbrev pub Chunks : List ℕ → List Piece → Type 0
Chunks = Dotted (Chunked is_ascii_alphabetic)
