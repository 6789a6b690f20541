-- The subject: the grammar of General labels, as a relation of whole texts and their parts. Assumes nothing.
use Rattle.std.specs.Prelude.{ℕ, List, [], ◌∷◌, ◌++◌, Option}
use Rattle.std.specs.Char.{is_ascii_alphabetic}
use Rattle.parsers.specs.Grammar.{Perhaps, Number, Stretch, Metadata}
use Rattle.chunk.specs.Piece as piece
use Rattle.chunk.specs.Piece.{Piece}
use Rattle.chunk.specs.Grammar.{Chunks, Released}
use Rattle.version.specs.Parts.{LastPart, numeric, rc, post, alphanum, Parts}

-- a number and a colon
pub data Epoch : List ℕ → ℕ → Type 0 where
  epoch : {w : List ℕ} {n : ℕ} → Number w n → Epoch (w ++ (58 ∷ [])) n

-- a number, letters and a number
pub data Rc : List ℕ → LastPart → Type 0 where
  rc_text : {u v w s : List ℕ} {a b : ℕ} → Number u a → Stretch is_ascii_alphabetic v s → Number w b → Rc (u ++ (v ++ w)) (rc a s b)

-- a number and letters
pub data Post : List ℕ → LastPart → Type 0 where
  post_text : {u v s : List ℕ} {a : ℕ} → Number u a → Stretch is_ascii_alphabetic v s → Post (u ++ v) (post a s)

-- what the last chunk becomes
pub data Lasts : Piece → LastPart → Type 0 where
  number : {n : ℕ} → Lasts (piece.numeric n) (numeric n)
  candidate : {t : List ℕ} {l : LastPart} → Rc t l → Lasts (piece.alphanum t) l
  posted : {t : List ℕ} {l : LastPart} → Post t l → Lasts (piece.alphanum t) l
  other : {t : List ℕ} → ((l : LastPart) → Rc t l → ⊥) → ((l : LastPart) → Post t l → ⊥) → Lasts (piece.alphanum t) (alphanum t)

-- perhaps an epoch, one or more plain chunks joined by dots, perhaps a Release, perhaps metadata
pub data General : List ℕ → Parts → Type 0 where
  general : {e c r m : List ℕ} {es : Option ℕ} {xs : List Piece} {x : Piece} {l : LastPart} {rs : Option (List Piece)} {ms : Option (List ℕ)}
      → Perhaps Epoch e es → Chunks c (xs ++ (x ∷ [])) → Lasts x l → Perhaps Released r rs → Perhaps Metadata m ms
      → General (e ++ (c ++ (r ++ m))) (record { epoch = es; chunks = xs; last = l; release = rs; meta = ms })
