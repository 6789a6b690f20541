-- What the code's Generals say of their texts: the Last and the chunks before it, and the number at a position. Assumes nothing.
use Rattle.std.proofs.Common.{◌≡◌, ℕ, zero, suc, List, [], ◌∷◌, ◌++◌, map, length, Some, None, Option, sym, refl, ap, ◌∙◌, le_of_suc-le-suc, not-suc-le-zero}
use Rattle.std.specs.Option.{option_map}
use Rattle.std.specs.Char.{is_ascii_alphabetic}
use Rattle.std.proofs.lemmas.List.{map_push}
use Rattle.std.proofs.lemmas.Bool.{cond-false, ne_eqb}
use Rattle.texts.specs.declared.table.Span.{Span}
use Rattle.chunk.specs.Piece as piece
use Rattle.chunk.specs.Piece.{Piece}
use Rattle.texts.specs.Tables.{rows_of, Taken, Popped}
use Rattle.chunk.specs.declared.chunk.Chunk.{Chunk}
use Rattle.chunk.specs.Said.{piece_in, chunk_part}
use Rattle.parsers.proofs.Lists.{said_counted, handed_out}
use Rattle.chunk.specs.declared.chunks.Chunks.{Chunks}
use Rattle.chunk.specs.Tables.{chunks_in}
use Rattle.version.specs.declared.last.Last.{Last}
use Rattle.version.specs.declared.version.Version.{Version}
use Rattle.version.specs.Labels.{last_in, parts_in}
use Rattle.version.specs.Numbers.{single, single_at, nth_of}
use Rattle.version.specs.Reading.{front_of, final_of, last_of}
use Rattle.version.proofs.Generals.{front_push, final_push}

pub mapped_same : (o : Option ℕ) → option_map (λ n. n) o ≡ o
mapped_same None = refl
mapped_same (Some n) = refl

-- the last chunk taken off, and made the Last
module _ (text : List ℕ) (all left : Chunks) (chunk : Chunk Span) (p : Popped (rows_of all.chunks) (rows_of left.chunks) (Some chunk)) where
  listed : chunks_in text all ≡ chunks_in text left ++ (piece_in text chunk ∷ [])
  listed = ap (map (piece_in text)) p ∙ map_push (piece_in text) (rows_of left.chunks) chunk

  pub before_last : front_of (chunks_in text all) ≡ chunks_in text left
  before_last = ap front_of listed ∙ front_push (chunks_in text left) (piece_in text chunk)

  pub made_last : (last : Last Span) → last_in text last ≡ last_of (piece_in text chunk) → last_of (final_of (piece.numeric 0) (chunks_in text all)) ≡ last_in text last
  made_last last e = ap (λ l. last_of (final_of (piece.numeric 0) l)) listed ∙ ap last_of (final_push (piece.numeric 0) (chunks_in text left) (piece_in text chunk)) ∙ sym e

-- the number of a chunk that a table hands out
abbrev pub single_of : Option Piece → Option ℕ
single_of None = None
single_of (Some x) = single x

single_taken : (xs : List Piece) (n : ℕ) (r : Option Piece) → Taken xs n r → single_at xs n ≡ single_of r
single_taken [] n None h = refl
single_taken [] n (Some x) h = absurd (not-suc-le-zero h.0)
single_taken (y ∷ ys) zero None h = absurd (not-suc-le-zero h)
single_taken (y ∷ ys) zero (Some x) h = ap single (h.1 y)
single_taken (y ∷ ys) (suc n) None h = single_taken ys n None (le_of_suc-le-suc h)
single_taken (y ∷ ys) (suc n) (Some x) h = single_taken ys n (Some x) (le_of_suc-le-suc h.0, h.1)

module _ (v : Version) (n count : ℕ) (is : count ≡ length (rows_of v.chunks.chunks)) (text : List ℕ) where
  counts : length (chunks_in text v.chunks) ≡ count
  counts = said_counted (chunk_part is_ascii_alphabetic) text v.chunks.chunks ∙ sym is

  pub at_chunk : (n ≡ count → ⊥) → (r : Option (Chunk Span)) → Taken (rows_of v.chunks.chunks) n r → nth_of (parts_in text v) n ≡ single_of (option_map (piece_in text) r)
  at_chunk ne r h = cond-false _ _ _ (ne_eqb _ _ (λ e. ne (e ∙ counts))) ∙ single_taken _ n _ (handed_out (chunk_part is_ascii_alphabetic) text v.chunks.chunks n r h)
