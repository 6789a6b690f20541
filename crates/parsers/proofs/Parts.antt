-- Stretches, numbers and metadata.
use Rattle.std.proofs.Common.{◌≡◌, ℕ, ◌≤◌, Bool, true, eqb, leb, List, [], ◌∷◌, ◌++◌, IfSome, Some, None, Option, refl, ap, ◌∙◌, arith}
use mathlib.Core.List.{head-eq_of_cons-eq}
use Rattle.std.specs.Char.{is_ascii_digit}
use Rattle.std.proofs.lemmas.Bool.{cond-true, cond-false, cond_both, eqb-true, eqb-false, ne_eqb, le-leb, leb-true}
use Rattle.std.proofs.lemmas.Bool.Decides.{nat_tests}
use Rattle.parsers.specs.Bytes.{letter_or_hyphen, or_digit, Each}
use Rattle.parsers.specs.Grammar.{limit, worth, Number, nought, digits, Stretch, stretch, Metadata}
use Rattle.parsers.specs.Reading.{follow, push, span, some, stretch_of, counted, number_of, meta_of}
use Rattle.parsers.proofs.Joining.{Stops, or, follow_found, Front, Reads, behind_reads, dotted_reads, spelled_reads}

module _ (p : ℕ → Bool) where
  pub span_sound : (bs : List ℕ) → Each p (span p bs).0 × (bs ≡ (span p bs).0 ++ (span p bs).1)
  span_sound [] = (tt, refl)
  span_sound (b ∷ bs) =
      let P : List ℕ × List ℕ → Type 0 = λ r. Each p r.0 × (b ∷ bs ≡ r.0 ++ r.1) in
      let ih = span_sound bs in
      cond_both (p b) _ _ P (λ is. ((is, ih.0), ap (λ l. b ∷ l) ih.1)) (λ _. (tt, refl))

  pub span_complete : (w rest : List ℕ) → Each p w → Stops p rest → span p (w ++ rest) ≡ (w, rest)
  span_complete [] [] e s = refl
  span_complete [] (b ∷ rest) e s = cond-false _ _ _ s
  span_complete (b ∷ w) rest e s = cond-true _ _ _ e.0 ∙ ap (push b) (span_complete w rest e.1 s)

  some_sound : (bs : List ℕ) (r : List ℕ × List ℕ) → Each p r.0 × (bs ≡ r.0 ++ r.1) → IfSome (some r) (Front (Stretch p) bs)
  some_sound bs ([], rest) h = tt
  some_sound bs (b ∷ w, rest) h = (b ∷ w, stretch h.0, h.1)

  stretch_complete : {w c : List ℕ} (rest : List ℕ) → Stretch p w c → Stops p rest → stretch_of p (w ++ rest) ≡ Some (c, rest)
  stretch_complete rest (stretch {b} {w} e) s = ap some (span_complete (b ∷ w) rest e s)

  pub stretch_reads : Reads (stretch_of p) (Stretch p) p
  stretch_reads = record { sound = λ bs. some_sound bs (span p bs) (span_sound bs); complete = stretch_complete }

-- a number
pub number_each : {w : List ℕ} {n : ℕ} → Number w n → Each is_ascii_digit w
number_each nought = (refl, tt)
number_each (digits _ e _) = e

as_number : {b : ℕ} {bs rest w v : List ℕ} → (b ≡ 48 → ⊥) → worth 0 v ≤ limit → Stretch is_ascii_digit w v → b ∷ bs ≡ w ++ rest → Front Number (b ∷ bs) (worth 0 v, rest)
as_number {b} ne small (stretch {b = x} {w = w} e) f =
    let z : x ≡ 48 → ⊥ = λ z. ne (head-eq_of_cons-eq f ∙ z) in
    let d : is_ascii_digit x ≡ true = e.0 in
    (x ∷ w, digits (grind (arith, nat_tests)) e small, f)

number_sound : (bs : List ℕ) → IfSome (number_of bs) (Front Number bs)
number_sound [] = tt
number_sound (b ∷ bs) =
    let P : Option (ℕ × List ℕ) → Type 0 = λ o. IfSome o (Front Number (b ∷ bs)) in
    cond_both (eqb b 48) _ _ P (λ e. (48 ∷ [], nought, ap (λ x. x ∷ bs) (eqb-true b 48 e)))
    (λ ne. follow_found (stretch_of is_ascii_digit (b ∷ bs)) counted None _ P ((stretch_reads is_ascii_digit).sound (b ∷ bs))
    (λ v rest h. cond_both (leb (worth 0 v) limit) _ _ P
    (λ small. as_number (eqb-false b 48 ne) (leb-true _ _ small) h.1 h.2)
    (λ _. tt))
    tt)

number_complete : {w : List ℕ} {n : ℕ} (rest : List ℕ) → Number w n → Stops is_ascii_digit rest → number_of (w ++ rest) ≡ Some (n, rest)
number_complete rest nought s = refl
number_complete rest (digits {b} {w} f e l) s =
    cond-false _ _ _ (ne_eqb b 48 (λ z. omega arith)) ∙ ap (λ o. follow o counted None) ((stretch_reads is_ascii_digit).complete rest (stretch {b = b} {w = w} e) s) ∙ cond-true _ _ _ (le-leb _ _ l)

pub number_reads : Reads number_of Number is_ascii_digit
number_reads = record { sound = number_sound; complete = number_complete }

pub meta_reads : Reads meta_of Metadata (or 46 (or_digit letter_or_hyphen))
meta_reads = behind_reads (spelled_reads (dotted_reads (stretch_reads (or_digit letter_or_hyphen)) refl)) 43
