-- The reader of the Last reads what the grammar says of that chunk. Assumes nothing.
use Rattle.std.proofs.Common.{◌≡◌, ℕ, Bool, true, List, [], ◌∷◌, ◌++◌, IfSome, Some, None, Option, unwrap_or, sym, refl, ap, ◌∙◌, append_assoc, append-nil, arith}
use Rattle.std.specs.Char.{is_ascii_digit, is_ascii_alphabetic}
use Rattle.std.proofs.lemmas.Bool.Decides.{nat_tests}
use Rattle.parsers.specs.Grammar.{Grammar, Number, nought, digits, Stretch, stretch}
use Rattle.parsers.specs.Reading.{Reader, follow, number_of, stretch_of}
use Rattle.parsers.specs.Whole.{Whole}
use Rattle.chunk.specs.Piece as piece
use Rattle.chunk.specs.Piece.{Piece}
use Rattle.parsers.proofs.Joining.{Stops, follow_found, Front, Reads, some_same, whole}
use Rattle.parsers.proofs.Parts.{number_reads, stretch_reads}
use Rattle.version.specs.Parts.{LastPart, alphanum}
use Rattle.version.specs.Grammar.{Rc, rc_text, Post, post_text, Lasts, number, candidate, posted, other}
use Rattle.version.specs.Reading.{rc_of, post_of, ended, all_of, last_of}

-- a number is no letter, and letters are no digit
number_first : {w : List ℕ} {n : ℕ} (rest : List ℕ) → Number w n → Stops is_ascii_alphabetic (w ++ rest)
number_first rest nought = refl
number_first rest (digits {b} l e h) = let d : is_ascii_digit b ≡ true = e.0 in grind (arith, nat_tests)

letters_first : {v s : List ℕ} (rest : List ℕ) → Stretch is_ascii_alphabetic v s → Stops is_ascii_digit (v ++ rest)
letters_first rest (stretch {b} e) = let d : is_ascii_alphabetic b ≡ true = e.0 in grind (arith, nat_tests)

letters : Reads (stretch_of is_ascii_alphabetic) (Stretch is_ascii_alphabetic) is_ascii_alphabetic
letters = stretch_reads is_ascii_alphabetic

rc_reads : Reads rc_of Rc is_ascii_digit
rc_reads = record { sound = sound; complete = complete }
  where
    sound : (bs : List ℕ) → IfSome (rc_of bs) (Front Rc bs)
    sound bs =
        let Q : Option (LastPart × List ℕ) → Type 0 = λ o. IfSome o (Front Rc bs) in
        follow_found (number_of bs) _ None _ Q (number_reads.sound bs) (λ a s f. follow_found (stretch_of is_ascii_alphabetic s) _ None _ Q (letters.sound s) (λ l t g. follow_found (number_of t) _ None _ Q (number_reads.sound t)
        (λ b u h. (_, rc_text f.1 g.1 h.1, f.2 ∙ ap (λ l. f.0 ++ l) (g.2 ∙ ap (λ l. g.0 ++ l) h.2) ∙ simp append_assoc)) tt) tt) tt

    complete : {w : List ℕ} {l : LastPart} (rest : List ℕ) → Rc w l → Stops is_ascii_digit rest → rc_of (w ++ rest) ≡ Some (l, rest)
    complete rest (rc_text {v = v} {w = w} a s b) e =
        let f = number_reads.complete (v ++ (w ++ rest)) a (letters_first (w ++ rest) s) in
        let g = letters.complete (w ++ rest) s (number_first rest b) in
        rw (append_assoc, append_assoc, f, g, number_reads.complete rest b e)

post_reads : Reads post_of Post is_ascii_alphabetic
post_reads = record { sound = sound; complete = complete }
  where
    sound : (bs : List ℕ) → IfSome (post_of bs) (Front Post bs)
    sound bs =
        let Q : Option (LastPart × List ℕ) → Type 0 = λ o. IfSome o (Front Post bs) in
        follow_found (number_of bs) _ None _ Q (number_reads.sound bs) (λ a s f. follow_found (stretch_of is_ascii_alphabetic s) _ None _ Q (letters.sound s)
        (λ l t g. (_, post_text f.1 g.1, f.2 ∙ ap (λ l. f.0 ++ l) g.2 ∙ simp append_assoc)) tt) tt

    complete : {w : List ℕ} {l : LastPart} (rest : List ℕ) → Post w l → Stops is_ascii_alphabetic rest → post_of (w ++ rest) ≡ Some (l, rest)
    complete rest (post_text {v = v} a s) e = rw (append_assoc, number_reads.complete (v ++ rest) a (letters_first rest s), letters.complete rest s e)

reads_whole : {C : Type 0} {R : Reader C} {P : Grammar C} {p : ℕ → Bool} → Reads R P p → Whole R P
reads_whole reads = whole reads.sound (λ text c f. rw append-nil at (reads.complete [] f tt))

-- what a reader makes of a whole text is what the grammar says of it
abbrev Judges : {C : Type 0} → Grammar C → List ℕ → Option C → Type 0
Judges {C} P t None = (c : C) → P t c → ⊥
Judges P t (Some c) = P t c

module _ {C : Type 0} {R : Reader C} {P : Grammar C} (w : Whole R P) (t : List ℕ) where
  judged : (o : Option (C × List ℕ)) → R t ≡ o → Judges P t (follow o ended None)
  judged None e = λ c f. let h = w.complete t c f in let z : ◌≡◌ {A = ℕ} 0 1 = cc in omega arith
  judged (Some (c, [])) e = w.sound t c e
  judged (Some (c, b ∷ r)) e = λ d f. let h = ap (λ x. x.1) (some_same (sym e ∙ w.complete t d f)) in let z : ◌≡◌ {A = ℕ} 0 1 = cc in omega arith

  all_judges : Judges P t (all_of R t)
  all_judges = judged (R t) refl

  all_some : {c : C} → P t c → all_of R t ≡ Some c
  all_some {c} f = rw (w.complete t c f)

  none_from : (o : Option C) → Judges P t o → ((c : C) → P t c → ⊥) → o ≡ None
  none_from None h n = refl
  none_from (Some c) h n = absurd (n c h)

  all_none : ((c : C) → P t c → ⊥) → all_of R t ≡ None
  all_none n = none_from (all_of R t) all_judges n

rc_whole : Whole rc_of Rc
rc_whole = reads_whole rc_reads

post_whole : Whole post_of Post
post_whole = reads_whole post_reads

-- what is Post is not Rc: behind its letters there is no number
not_both : {t : List ℕ} {l : LastPart} → Post t l → all_of rc_of t ≡ None
not_both (post_text {v = v} a s) =
    let f = number_reads.complete v a (rw append-nil at (letters_first [] s)) in
    let g : stretch_of is_ascii_alphabetic v ≡ Some (_, []) = rw append-nil at (letters.complete [] s tt) in
    rw (f, g)

pub last_sound : (x : Piece) → Lasts x (last_of x)
last_sound (piece.numeric n) = number
last_sound (piece.alphanum t) = go (all_of rc_of t) (all_of post_of t) (all_judges rc_whole t) (all_judges post_whole t)
  where
    go : (o p : Option LastPart) → Judges Rc t o → Judges Post t p → Lasts (piece.alphanum t) (unwrap_or o (unwrap_or p (alphanum t)))
    go (Some l) p h k = candidate h
    go None (Some l) h k = posted k
    go None None h k = other h k

pub last_complete : {x : Piece} {l : LastPart} → Lasts x l → last_of x ≡ l
last_complete number = refl
last_complete (candidate {t} f) = rw (all_some rc_whole t f)
last_complete (posted {t} f) = rw (not_both f, all_some post_whole t f)
last_complete (other {t} n m) = rw (all_none rc_whole t n, all_none post_whole t m)
