-- What a run is, by its reader and by the grammar. Assumes nothing.
use Rattle.std.proofs.Common.{◌≡◌, ℕ, Bool, true, false, List, [], ◌∷◌, ◌++◌, IfSome, Some, None, sym, refl, ap, ◌∙◌, subst}
use Rattle.std.specs.Char.{is_ascii_digit, is_ascii_alphabetic}
use Rattle.std.specs.Str.{all_ascii_digits}
use Rattle.std.proofs.ByRecursion.{All-weaker}
use Rattle.std.proofs.lemmas.Bool.{and_parts, and_from, both_ways, cond_both, cond-true, cond-false, eqb-true, le-leb, leb-true, or_left}
use Rattle.parsers.specs.Bytes.{or_digit, Each}
use Rattle.parsers.specs.Grammar.{behind, Stretch, stretch, worth}
use Rattle.parsers.specs.Reading.{Reader, follow, stretch_of}
use Rattle.parsers.proofs.Joining.{Stops, follow_found, Front, Reads}
use Rattle.parsers.proofs.Parts.{stretch_reads}
use Rattle.mess.specs.Parts.{MChunk, digits, rev, plain}
use Rattle.mess.specs.Grammar.{Count, count, Revision, MChunked, as_digits, as_rev, as_plain}
use Rattle.mess.specs.Reading.{counts, revises, past_r, sorted}

abbrev pub alnum : ℕ → Bool
alnum = or_digit is_ascii_alphabetic

all_each : (w : List ℕ) → all_ascii_digits w ≡ true → Each is_ascii_digit w
all_each [] e = tt
all_each (b ∷ w) e = let p = and_parts _ _ e in (p.0, all_each w p.1)

each_all : (w : List ℕ) → Each is_ascii_digit w → all_ascii_digits w ≡ true
each_all [] e = refl
each_all (b ∷ w) e = and_from _ _ e.0 (each_all w e.1)

count_sound : (w : List ℕ) → counts w ≡ true → Count w (worth 0 w)
count_sound [] e = absurd (both_ways false refl e)
count_sound (b ∷ w) e = let p = and_parts _ _ e in count (all_each (b ∷ w) p.0) (leb-true _ _ p.1)

count_complete : {w : List ℕ} {n : ℕ} → Count w n → (counts w ≡ true) × (worth 0 w ≡ n)
count_complete (count {b} {w} e l) = (and_from _ _ (each_all (b ∷ w) e) (le-leb _ _ l), refl)

revision_sound : (w : List ℕ) → revises w ≡ true → Revision w (worth 0 (past_r w))
revision_sound [] e = absurd (both_ways false refl e)
revision_sound (b ∷ w) e = let p = and_parts _ _ e in subst (λ r. Revision (r ∷ w) (worth 0 w)) (sym (eqb-true _ _ p.0)) (behind (count_sound w p.1))

revision_complete : {w : List ℕ} {n : ℕ} → Revision w n → (counts w ≡ false) × (revises w ≡ true) × (worth 0 (past_r w) ≡ n)
revision_complete (behind c) = let p = count_complete c in (refl, p.0, p.1)

count_run : {w : List ℕ} {n : ℕ} → Count w n → Stretch alnum w w
count_run (count {b} {w} e l) = stretch (All-weaker _ _ (λ b d. or_left _ _ d) (b ∷ w) e)

revision_run : {w : List ℕ} {n : ℕ} → Revision w n → Stretch alnum w w
revision_run (behind (count {b} {w} e l)) = stretch (refl, All-weaker _ _ (λ b d. or_left _ _ d) (b ∷ w) e)

sorted_sound : (w : List ℕ) → Stretch alnum w w → MChunked w (sorted w)
sorted_sound w s = cond_both (counts w) _ _ (MChunked w)
    (λ e. as_digits (count_sound w e))
    (λ f. cond_both (revises w) _ _ (MChunked w)
    (λ e. as_rev (revision_sound w e))
    (λ g. as_plain s (λ n c. both_ways _ f (count_complete c).0) (λ n c. both_ways _ g (revision_complete c).1)))

sorted_complete : {w : List ℕ} {c : MChunk} → MChunked w c → sorted w ≡ c
sorted_complete {w} (as_digits d) = let p = count_complete d in cond-true _ _ _ p.0 ∙ ap (λ n. digits n w) p.1
sorted_complete {w} (as_rev r) = let p = revision_complete r in cond-false _ _ _ p.0 ∙ cond-true _ _ _ p.1 ∙ ap (λ n. rev n w) p.2
sorted_complete {w} (as_plain s c r) = cond_both (counts w) _ _ (λ m. m ≡ plain w)
    (λ e. absurd (c _ (count_sound w e)))
    (λ _. cond_both (revises w) _ _ (λ m. m ≡ plain w) (λ e. absurd (r _ (revision_sound w e))) (λ _. refl))

mchunk_run : {w : List ℕ} {c : MChunk} → MChunked w c → Stretch alnum w w
mchunk_run (as_digits d) = count_run d
mchunk_run (as_rev r) = revision_run r
mchunk_run (as_plain s c r) = s

-- the run in front, by what it is alone
abbrev pub run_of : Reader MChunk
run_of bs = follow (stretch_of alnum bs) (λ w rest. Some (sorted w, rest)) None

itself : {v w : List ℕ} → Stretch alnum v w → MChunked v (sorted w)
itself (stretch e) = sorted_sound _ (stretch e)

run_complete : {w : List ℕ} {c : MChunk} (rest : List ℕ) → MChunked w c → Stops alnum rest → run_of (w ++ rest) ≡ Some (c, rest)
run_complete rest m s = rw ((stretch_reads alnum).complete rest (mchunk_run m) s, sorted_complete m)

pub run_reads : Reads run_of MChunked alnum
run_reads = record {
  sound = λ bs. follow_found (stretch_of alnum bs) (λ w rest. Some (sorted w, rest)) None _ (λ o. IfSome o (Front MChunked bs)) ((stretch_reads alnum).sound bs) (λ w rest h. (h.0, itself h.1, h.2)) tt;
  complete = run_complete;
}
