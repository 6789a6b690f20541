-- The meaning: the reader of General labels. Assumes nothing.
use Rattle.std.specs.Prelude.{ℕ, List, [], ◌∷◌, Some, None, Option}
use Rattle.std.specs.Option.{unwrap_or}
use Rattle.std.specs.Char.{is_ascii_alphabetic}
use Rattle.parsers.specs.Reading.{Reader, follow, perhaps_of, behind_of, stretch_of, number_of, meta_of}
use Rattle.chunk.specs.Piece as piece
use Rattle.chunk.specs.Piece.{Piece}
use Rattle.chunk.specs.Reading.{chunks_of, release_of}
use Rattle.version.specs.Parts.{LastPart, numeric, rc, post, alphanum, Parts}

-- a number and a colon
abbrev pub epoch_of : Reader ℕ
epoch_of bs = follow (number_of bs) (λ n. behind_of 58 (λ rest. Some (n, rest))) None

-- a number, letters and a number
abbrev pub rc_of : Reader LastPart
rc_of bs = follow (number_of bs) (λ a bs. follow (stretch_of is_ascii_alphabetic bs) (λ s bs. follow (number_of bs) (λ b rest. Some (rc a s b, rest)) None) None) None

-- a number and letters
abbrev pub post_of : Reader LastPart
post_of bs = follow (number_of bs) (λ a bs. follow (stretch_of is_ascii_alphabetic bs) (λ s rest. Some (post a s, rest)) None) None

abbrev pub ended : {C : Type 0} → C → List ℕ → Option C
ended c [] = Some c
ended c (b ∷ bs) = None

-- what a reader reads, if it reads all of a text
abbrev pub all_of : {C : Type 0} → Reader C → List ℕ → Option C
all_of R bs = follow (R bs) ended None

-- what the last chunk becomes: Rc or Post, if they make up its whole text
abbrev pub last_of : Piece → LastPart
last_of (piece.numeric n) = numeric n
last_of (piece.alphanum t) = unwrap_or (all_of rc_of t) (unwrap_or (all_of post_of t) (alphanum t))

-- the chunks before the last one
abbrev pub front_of : List Piece → List Piece
front_of [] = []
front_of (x ∷ []) = []
front_of (x ∷ y ∷ xs) = x ∷ front_of (y ∷ xs)

-- the last of x and the chunks behind it
abbrev pub final_of : Piece → List Piece → Piece
final_of x [] = x
final_of x (y ∷ ys) = final_of y ys

-- perhaps an epoch, then chunks, then perhaps a Release, then perhaps metadata; an epoch once read is kept. Chunks are one
-- or more, so that there is a last one
abbrev pub general_of : Reader Parts
general_of bs =
    let e = perhaps_of epoch_of bs in
    follow (chunks_of e.1) (λ xs rest.
    let r = perhaps_of release_of rest in
    let m = perhaps_of meta_of r.1 in
    Some (record { epoch = e.0; chunks = front_of xs; last = last_of (final_of (piece.numeric 0) xs); release = r.0; meta = m.0 }, m.1)) None
