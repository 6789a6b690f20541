-- The meaning: readers of chunks, lists of chunks and Releases. Assumes nothing.
use Rattle.std.specs.Prelude.{ℕ, Bool, cond, List, Some, None}
use Rattle.std.specs.List.{list_any}
use Rattle.std.specs.Char.{is_ascii_alphabetic}
use Rattle.parsers.specs.Bytes.{letter_or_hyphen, or_digit}
use Rattle.parsers.specs.Reading.{Reader, follow, behind_of, dotted_of, span, number_of}
use Rattle.chunk.specs.Piece.{Piece, numeric, alphanum}

-- the longest stretch of digits and q, if a q is in it
abbrev pub word_of : (ℕ → Bool) → Reader (List ℕ)
word_of q bs = cond (list_any q (span (or_digit q) bs).0) (Some (span (or_digit q) bs)) None

-- such a stretch, as a text; otherwise the number there
abbrev pub chunk_of : (ℕ → Bool) → Reader Piece
chunk_of q bs = follow (word_of q bs) (λ w rest. Some (alphanum w, rest)) (follow (number_of bs) (λ n rest. Some (numeric n, rest)) None)

abbrev pub release_of : Reader (List Piece)
release_of = behind_of 45 (dotted_of (chunk_of letter_or_hyphen))

-- one or more plain chunks joined by dots
abbrev pub chunks_of : Reader (List Piece)
chunks_of = dotted_of (chunk_of is_ascii_alphabetic)
