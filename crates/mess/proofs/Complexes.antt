-- Levels whose runs are what they are alone: the reader reads what the grammar yields. Assumes nothing.
use Rattle.std.proofs.Common.{◌≡◌, ℕ, ◌≤◌, Bool, false, cond, eqb, List, [], ◌∷◌, ◌++◌, length, IfSome, Some, None, Option, sym, refl, ap, ◌∙◌, subst, append_assoc, append-nil, arith, length-append}
use Rattle.std.proofs.lemmas.Bool.{cond_both, eqb-true}
use Rattle.parsers.specs.Reading.{Reader, dotted_of, many_of}
use Rattle.parsers.specs.Whole.{Whole}
use Rattle.parsers.proofs.Joining.{Stops, Starts, or, follow_found, Front, Reads, stops_many, many_sound, many_complete, dotted_reads, whole}
use Rattle.mess.specs.declared.sep.Sep.{Sep}
use Rattle.mess.specs.declared.sep.Sep.TheVariants.{Colon, Hyphen, Plus, Underscore, Tilde}
use Rattle.mess.specs.Parts.{MChunk, Parts}
use Rattle.mess.specs.Grammar.{Sign, colon, hyphen, plus, underscore, tilde, Level, Next, next, Complex, complex}
use Rattle.mess.specs.Reading.{sep_of, signed, behind_sign, levels_by}
use Rattle.mess.proofs.Sorting.{alnum, run_of, run_reads}

-- the byte before which a level ends
abbrev inner : ℕ → Bool
inner = or 46 alnum

abbrev pub runs_of : Reader (List MChunk)
runs_of = dotted_of run_of

runs_reads : Reads runs_of Level inner
runs_reads = dotted_reads run_reads refl

sign_sound : (b : ℕ) → IfSome (sep_of b) (Sign b)
sign_sound b =
    let is : (n : ℕ) (s : Sep) (o : Option Sep) → Sign n s → IfSome o (Sign b) → IfSome (cond (eqb b n) (Some s) o) (Sign b) = λ n s o g h. cond_both (eqb b n) _ _ (λ x. IfSome x (Sign b)) (λ e. subst (λ x. Sign x s) (sym (eqb-true b n e)) g) (λ _. h) in
    is 58 Colon _ colon (is 45 Hyphen _ hyphen (is 43 Plus _ plus (is 95 Underscore _ underscore (is 126 Tilde None tilde tt))))

sign_complete : {b : ℕ} {s : Sep} → Sign b s → sep_of b ≡ Some s
sign_complete colon = refl
sign_complete hyphen = refl
sign_complete plus = refl
sign_complete underscore = refl
sign_complete tilde = refl

sign_outside : {b : ℕ} {s : Sep} → Sign b s → inner b ≡ false
sign_outside colon = refl
sign_outside hyphen = refl
sign_outside plus = refl
sign_outside underscore = refl
sign_outside tilde = refl

next_sound : (bs : List ℕ) → IfSome (behind_sign runs_of bs) (Front Next bs)
next_sound [] = tt
next_sound (b ∷ bs) = go (sep_of b) (sign_sound b)
  where
    go : (o : Option Sep) → IfSome o (Sign b) → IfSome (signed o (runs_of bs)) (Front Next (b ∷ bs))
    go None g = tt
    go (Some s) g = follow_found (runs_of bs) (λ cs rest. Some ((s, cs), rest)) None _ (λ o. IfSome o (Front Next (b ∷ bs))) (runs_reads.sound bs) (λ cs rest h. (b ∷ h.0, next g h.1, ap (λ l. b ∷ l) h.2)) tt

next_complete : {w : List ℕ} {l : Sep × List MChunk} (rest : List ℕ) → Next w l → Stops inner rest → behind_sign runs_of (w ++ rest) ≡ Some (l, rest)
next_complete rest (next g f) s = rw (sign_complete g, runs_reads.complete rest f s)

nexts : Reads (behind_sign runs_of) Next inner
nexts = record { sound = next_sound; complete = next_complete }

starts_next : (w : List ℕ) (l : Sep × List MChunk) → Next w l → Starts inner w
starts_next _ _ (next g f) = sign_outside g

sound : (bs : List ℕ) → IfSome (levels_by runs_of (length bs) bs) (Front Complex bs)
sound bs = follow_found (runs_of bs) (λ cs rest. let m = many_of (behind_sign runs_of) (length bs) rest in Some (record { first = cs; further = m.0 }, m.1)) None _ (λ o. IfSome o (Front Complex bs)) (runs_reads.sound bs)
    (λ cs rest h. let m = many_sound nexts (length bs) rest in (_, complex h.1 m.1, h.2 ∙ ap (λ l. h.0 ++ l) m.2 ∙ simp append_assoc)) tt

complete : (text : List ℕ) (p : Parts) → Complex text p → levels_by runs_of (length text) text ≡ Some (p, [])
complete text p (complex {v = v} {w = w} f m) =
    let s : Stops inner w = rw append-nil at (stops_many inner starts_next [] m tt) in
    let l : length (w ++ []) ≤ length (v ++ w) = omega (arith, length-append v w, ap length (append-nil w)) in
    let e : many_of (behind_sign runs_of) (length (v ++ w)) w ≡ (_, []) = rw append-nil at (many_complete nexts starts_next (length (v ++ w)) [] m tt refl l) in
    rw (runs_reads.complete w f s, e)

pub runs_whole : Whole (λ bs. levels_by runs_of (length bs) bs) Complex
runs_whole = whole sound complete
