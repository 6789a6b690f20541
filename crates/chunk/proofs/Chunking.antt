-- Readers of chunks read what the grammar yields. Assumes nothing.
use Rattle.std.proofs.Common.{◌≡◌, ℕ, Bool, true, false, List, [], ◌∷◌, ◌++◌, IfSome, Some, None, Option, refl, arith}
use Rattle.std.specs.List.{list_any}
use Rattle.std.specs.Char.{is_ascii_digit, is_ascii_alphabetic}
use Rattle.std.proofs.ByRecursion.{All-weaker}
use Rattle.std.proofs.lemmas.Bool.{cond_both, or_parts, or_left, or_from}
use Rattle.std.proofs.lemmas.Bool.Decides.{nat_tests}
use Rattle.parsers.specs.Bytes.{letter_or_hyphen, or_digit, Each}
use Rattle.parsers.specs.Reading.{follow, span, number_of}
use Rattle.parsers.proofs.Joining.{Stops, or, stops_weaker, follow_found, Front, Reads, behind_reads, dotted_reads}
use Rattle.parsers.proofs.Parts.{span_sound, span_complete, number_each, number_reads}
use Rattle.chunk.specs.Piece.{Piece, numeric, alphanum}
use Rattle.chunk.specs.Grammar.{Chunked, number, word, Chunks, Released}
use Rattle.chunk.specs.Reading.{chunk_of, chunks_of, release_of}

module _ (q : ℕ → Bool) (apart : (b : ℕ) → is_ascii_digit b ≡ true → q b ≡ false) where
  pub any_none : (w : List ℕ) → Each is_ascii_digit w → list_any q w ≡ false
  any_none [] d = refl
  any_none (b ∷ w) d = or_from _ _ (apart b d.0) (any_none w d.1)

  chunk_sound : (bs : List ℕ) → IfSome (chunk_of q bs) (Front (Chunked q) bs)
  chunk_sound bs =
      let P : Option (Piece × List ℕ) → Type 0 = λ o. IfSome o (Front (Chunked q) bs) in
      let s = span_sound (or_digit q) bs in
      cond_both (list_any q (span (or_digit q) bs).0) (Some (span (or_digit q) bs)) None (λ o. P (follow o (λ w rest. Some (alphanum w, rest)) (follow (number_of bs) (λ n rest. Some (numeric n, rest)) None)))
      (λ has. (_, word s.0 has, s.1))
      (λ _. follow_found (number_of bs) (λ n rest. Some (numeric n, rest)) None _ P (number_reads.sound bs) (λ n rest h. (h.0, number h.1, h.2)) tt)

  pub chunk_each : {w : List ℕ} {c : Piece} → Chunked q w c → Each (or_digit q) w
  chunk_each {w} (number n) = All-weaker _ _ (λ b d. or_left _ _ d) w (number_each n)
  chunk_each (word e _) = e

  chunk_complete : {w : List ℕ} {c : Piece} (rest : List ℕ) → Chunked q w c → Stops (or_digit q) rest → chunk_of q (w ++ rest) ≡ Some (c, rest)
  chunk_complete {w} rest (number n) s =
      rw (span_complete (or_digit q) w rest (chunk_each (number n)) s, any_none w (number_each n), number_reads.complete rest n (stops_weaker (or_digit q) is_ascii_digit (λ b f. (or_parts _ _ f).0) rest s))
  chunk_complete {w} rest (word e h) s = rw (span_complete (or_digit q) w rest e s, h)

  pub chunk_reads : Reads (chunk_of q) (Chunked q) (or_digit q)
  chunk_reads = record { sound = chunk_sound; complete = chunk_complete }

pub chunks_reads : Reads chunks_of Chunks (or 46 (or_digit is_ascii_alphabetic))
chunks_reads = dotted_reads (chunk_reads is_ascii_alphabetic (λ b d. grind (arith, nat_tests))) refl

pub release_reads : Reads release_of Released (or 46 (or_digit letter_or_hyphen))
release_reads = behind_reads (dotted_reads (chunk_reads letter_or_hyphen (λ b d. grind (arith, nat_tests))) refl) 45
