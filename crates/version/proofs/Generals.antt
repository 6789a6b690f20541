-- The reader of Generals reads what the grammar yields. Assumes nothing.
use Rattle.std.proofs.Common.{◌≡◌, ℕ, Bool, false, eqb, List, [], ◌∷◌, ◌++◌, IfSome, Some, None, Option, sym, refl, ap, ◌∙◌, subst, append_assoc, append-nil, arith}
use Rattle.std.specs.Char.{is_ascii_alphabetic}
use Rattle.std.proofs.ByRecursion.{All-weaker}
use Rattle.std.proofs.lemmas.Bool.{cond_both, eqb-true, both_ways, or_left}
use Rattle.std.proofs.lemmas.Bool.Decides.{nat_tests}
use Rattle.parsers.specs.Bytes.{or_digit, Each}
use Rattle.parsers.specs.Grammar.{Number, dotted}
use Rattle.parsers.specs.Reading.{span, perhaps_of, behind_of, number_of, meta_of}
use Rattle.parsers.specs.Whole.{Whole}
use Rattle.chunk.specs.Piece as piece
use Rattle.chunk.specs.Piece.{Piece}
use Rattle.parsers.proofs.Joining.{Stops, follow_found, Front, Reads, perhaps_sound, perhaps_complete, stops_many, none_behind, starts_behind, stops_perhaps, whole}
use Rattle.parsers.proofs.Parts.{span_complete, number_each, number_reads, meta_reads}
use Rattle.chunk.specs.Grammar.{Chunks}
use Rattle.chunk.specs.Reading.{chunks_of, release_of}
use Rattle.chunk.proofs.Chunking.{chunk_each, chunks_reads, release_reads}
use Rattle.version.specs.Parts.{Parts}
use Rattle.version.specs.Grammar.{Epoch, epoch, General, general}
use Rattle.version.specs.Reading.{epoch_of, front_of, final_of, general_of}
use Rattle.version.proofs.Lasts.{last_sound, last_complete}

-- the epoch
abbrev colon : ℕ → List ℕ → Option (ℕ × List ℕ)
colon n = behind_of 58 (λ rest. Some (n, rest))

colon_sound : (bs : List ℕ) (n : ℕ) (rest : List ℕ) → Front Number bs (n, rest) → IfSome (colon n rest) (Front Epoch bs)
colon_sound bs n [] h = tt
colon_sound bs n (b ∷ rest) h =
    cond_both (eqb b 58) _ _ (λ o. IfSome o (Front Epoch bs)) (λ e. (_, epoch h.1, h.2 ∙ rw (eqb-true b 58 e, append_assoc))) (λ _. tt)

free : (rest : List ℕ) → Stops (λ _. false) rest
free [] = tt
free (b ∷ rest) = refl

epoch_complete : {w : List ℕ} {n : ℕ} (rest : List ℕ) → Epoch w n → Stops (λ _. false) rest → epoch_of (w ++ rest) ≡ Some (n, rest)
epoch_complete rest (epoch n) s = rw (append_assoc, number_reads.complete (58 ∷ rest) n refl)

epoch_reads : Reads epoch_of Epoch (λ _. false)
epoch_reads = record {
  sound = λ bs. follow_found (number_of bs) colon None _ (λ o. IfSome o (Front Epoch bs)) (number_reads.sound bs) (colon_sound bs) tt;
  complete = epoch_complete;
}

-- letters and digits are no epoch, whatever number is in front
module _ (w rest : List ℕ) (e : Each (or_digit is_ascii_alphabetic) w) (s : Stops (or_digit is_ascii_alphabetic) rest) (t : Stops (λ b. eqb b 58) rest) where
  no_colon : (n : ℕ) (r : List ℕ) → Front Number (w ++ rest) (n, r) → colon n r ≡ None
  no_colon n [] h = refl
  no_colon n (b ∷ r) h = cond_both (eqb b 58) _ _ (λ x. x ≡ None)
      (λ f.
      let d : Each (or_digit is_ascii_alphabetic) h.0 = All-weaker _ _ (λ c d. or_left _ _ d) h.0 (number_each h.1) in
      let g : Stops (or_digit is_ascii_alphabetic) (b ∷ r) = rw (eqb-true b 58 f) refl in
      let same : rest ≡ b ∷ r = ap (λ x. x.1) (sym (span_complete _ w rest e s) ∙ ap (span _) h.2 ∙ span_complete _ h.0 (b ∷ r) d g) in
      absurd (both_ways _ (subst (Stops (λ b. eqb b 58)) same t) f))
      (λ _. refl)

  no_epoch : epoch_of (w ++ rest) ≡ None
  no_epoch = follow_found (number_of (w ++ rest)) colon None _ (λ x. x ≡ None) (number_reads.sound (w ++ rest)) no_colon refl

-- what ends the chunks: a Release, metadata, or the text
abbrev Ends : List ℕ → Type 0
Ends rest = (p : ℕ → Bool) → p 43 ≡ false → p 45 ≡ false → Stops p rest

no_epoch_in : {w : List ℕ} {xs : List Piece} (rest : List ℕ) → Chunks w xs → Ends rest → epoch_of (w ++ rest) ≡ None
no_epoch_in rest (dotted {v = v} {w = w} f g) s =
    let a : (p : ℕ → Bool) → p 43 ≡ false → p 45 ≡ false → p 46 ≡ false → Stops p (w ++ rest) = λ p x y z. stops_many p (starts_behind p z) rest g (s p x y) in
    rw append_assoc (no_epoch v (w ++ rest) (chunk_each is_ascii_alphabetic (λ b d. grind (arith, nat_tests)) f) (a _ refl refl refl) (a _ refl refl refl))

-- the last chunk and those before it
parted : (d x : Piece) (xs : List Piece) → x ∷ xs ≡ front_of (x ∷ xs) ++ (final_of d (x ∷ xs) ∷ [])
parted d x [] = refl
parted d x (y ∷ ys) = ap (λ l. x ∷ l) (parted x y ys)

chunks_parted : {w : List ℕ} {xs : List Piece} (d : Piece) → Chunks w xs → Chunks w (front_of xs ++ (final_of d xs ∷ []))
chunks_parted {w} d (dotted {c = x} {cs = xs} f g) = subst (Chunks w) (parted d x xs) (dotted f g)

pub front_push : (xs : List Piece) (x : Piece) → front_of (xs ++ (x ∷ [])) ≡ xs
front_push [] x = refl
front_push (y ∷ []) x = refl
front_push (y ∷ z ∷ zs) x = ap (λ l. y ∷ l) (front_push (z ∷ zs) x)

pub final_push : (d : Piece) (xs : List Piece) (x : Piece) → final_of d (xs ++ (x ∷ [])) ≡ x
final_push d [] x = refl
final_push d (y ∷ ys) x = final_push y ys x

-- the whole
general_sound : (bs : List ℕ) → IfSome (general_of bs) (Front General bs)
general_sound bs =
    let e = perhaps_sound epoch_reads bs in
    follow_found (chunks_of (perhaps_of epoch_of bs).1) _ None _ (λ o. IfSome o (Front General bs)) (chunks_reads.sound (perhaps_of epoch_of bs).1)
    (λ xs rest h.
    let b = perhaps_sound release_reads rest in
    let d = perhaps_sound meta_reads (perhaps_of release_of rest).1 in
    (_, general e.1 (chunks_parted (piece.numeric 0) h.1) (last_sound _) b.1 d.1, e.2 ∙ ap (λ l. e.0 ++ l) (h.2 ∙ ap (λ l. h.0 ++ l) (b.2 ∙ ap (λ l. b.0 ++ l) d.2)) ∙ simp append_assoc))
    tt

general_complete : (text : List ℕ) (p : Parts) → General text p → general_of text ≡ Some (p, [])
general_complete text p (general {c = c} {r = r} {m = m} {xs = xs} {x = x} e cs l rs ms) =
    let end2 : (p : ℕ → Bool) → p 43 ≡ false → Stops p m = λ p x. rw append-nil at (stops_perhaps p [] ms x tt) in
    let end1 : Ends (r ++ m) = λ p x y. stops_perhaps p m rs y (end2 p x) in
    let ee = perhaps_complete epoch_reads (c ++ (r ++ m)) e (free _) (no_epoch_in (r ++ m) cs end1) in
    let ec = chunks_reads.complete (r ++ m) cs (end1 _ refl refl) in
    let er = perhaps_complete release_reads m rs (end2 _ refl) (none_behind _ 45 m (end2 _ refl)) in
    let em : perhaps_of meta_of m ≡ (_, []) = rw append-nil at (perhaps_complete meta_reads [] ms tt refl) in
    rw (ee, ec, er, em, front_push xs x, final_push (piece.numeric 0) xs x, last_complete l)

-- of whole texts the reader reads just the Generals, each in one way
pub general_stands : Whole general_of General
general_stands = whole general_sound general_complete
