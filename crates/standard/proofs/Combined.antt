-- The grammar of Ideals out of the grammars that the readers are tied to. Assumes nothing.
use Rattle.std.proofs.Common.{◌≡◌, ℕ, Bool, false, List, [], ◌++◌, IfSome, Some, None, Option, refl, ap, ◌∙◌, append_assoc, append-nil}
use Rattle.std.specs.Char.{is_ascii_digit}
use Rattle.parsers.specs.Grammar.{Number, Behind, behind, Perhaps, Metadata}
use Rattle.parsers.specs.Reading.{number_of, behind_of, perhaps_of, meta_of}
use Rattle.parsers.specs.Whole.{Whole}
use Rattle.parsers.proofs.Joining.{Stops, follow_found, Front, Reads, perhaps_sound, perhaps_complete, behind_reads, none_behind, stops_perhaps, whole}
use Rattle.parsers.proofs.Parts.{number_reads, meta_reads}
use Rattle.chunk.specs.Piece.{Piece}
use Rattle.chunk.specs.Grammar.{Released}
use Rattle.chunk.specs.Reading.{release_of}
use Rattle.chunk.proofs.Chunking.{release_reads}
use Rattle.standard.specs.Parts.{Parts}
use Rattle.standard.specs.Reading.{ideal_of}

pub data Combined : List ℕ → Parts → Type 0 where
  combined : {x y z r m : List ℕ} {i j k : ℕ} {rs : Option (List Piece)} {ms : Option (List ℕ)}
      → Number x i → Behind 46 Number y j → Behind 46 Number z k → Perhaps Released r rs → Perhaps Metadata m ms
      → Combined (x ++ (y ++ (z ++ (r ++ m)))) (record { major = i; minor = j; patch = k; release = rs; meta = ms })

next : Reads (behind_of 46 number_of) (Behind 46 Number) is_ascii_digit
next = behind_reads number_reads 46

combined_sound : (bs : List ℕ) → IfSome (ideal_of bs) (Front Combined bs)
combined_sound bs =
    let Q : Option (Parts × List ℕ) → Type 0 = λ o. IfSome o (Front Combined bs) in
    follow_found (number_of bs) _ None _ Q (number_reads.sound bs) (λ x s a. follow_found (behind_of 46 number_of s) _ None _ Q (next.sound s) (λ y t b. follow_found (behind_of 46 number_of t) _ None _ Q (next.sound t) (λ z u c.
    let d = perhaps_sound release_reads u in
    let e = perhaps_sound meta_reads (perhaps_of release_of u).1 in
    (_, combined a.1 b.1 c.1 d.1 e.1, a.2 ∙ ap (λ l. a.0 ++ l) (b.2 ∙ ap (λ l. b.0 ++ l) (c.2 ∙ ap (λ l. c.0 ++ l) (d.2 ∙ ap (λ l. d.0 ++ l) e.2))) ∙ simp append_assoc)) tt) tt) tt

-- a part behind a mark ends what stands before it
marked : {mark n : ℕ} {w : List ℕ} (p : ℕ → Bool) (rest : List ℕ) → Behind mark Number w n → p mark ≡ false → Stops p (w ++ rest)
marked p rest (behind f) m = m

combined_complete : (text : List ℕ) (p : Parts) → Combined text p → ideal_of text ≡ Some (p, [])
combined_complete text p (combined {y = y} {z = z} {r = r} {m = m} a b c rs ms) =
    let end : (p : ℕ → Bool) → p 43 ≡ false → Stops p m = λ p x. rw append-nil at (stops_perhaps p [] ms x tt) in
    let ex = number_reads.complete (y ++ (z ++ (r ++ m))) a (marked is_ascii_digit _ b refl) in
    let ey = next.complete (z ++ (r ++ m)) b (marked is_ascii_digit _ c refl) in
    let ez = next.complete (r ++ m) c (stops_perhaps is_ascii_digit m rs refl (end _ refl)) in
    let er = perhaps_complete release_reads m rs (end _ refl) (none_behind _ 45 m (end _ refl)) in
    let em : perhaps_of meta_of m ≡ (_, []) = rw append-nil at (perhaps_complete meta_reads [] ms tt refl) in
    rw (ex, ey, ez, er, em)

-- of whole texts the reader reads just this grammar
pub combined_stands : Whole ideal_of Combined
combined_stands = whole combined_sound combined_complete
