-- Where a stretch ends, and what its reader answers. Assumes nothing.
use Rattle.std.proofs.Common.{◌≡◌, ℕ, ◌+◌, ◌-◌, ◌<◌, ◌≤◌, Bool, true, List, [], ◌∷◌, ◌++◌, length, drop, Some, sym, refl, ap, ◌∙◌, subst, ⊎_elim, arith, take-append-drop, drop-drop}
use Rattle.std.specs.List.{between}
use Rattle.std.proofs.lemmas.List.{drop_more, drop_all}
use Rattle.std.proofs.lemmas.List.Edits.{get_or-between, length-between}
use Rattle.std.proofs.ByRecursion.{All-from_get_or}
use Rattle.std.proofs.lemmas.Bool.{cases_lt}
use Rattle.parsers.specs.Bytes.{Each}
use Rattle.parsers.specs.Reading.{span, some, stretch_of}
use Rattle.parsers.specs.Places.{EndOf}
use Rattle.parsers.proofs.Joining.{Stops}
use Rattle.parsers.proofs.Parts.{span_complete}

-- the rest of a text from a place on, cut at another
pub cut : (text : List ℕ) (at r : ℕ) → at ≤ r → drop at text ≡ between at r text ++ drop r text
cut text at r h =
    let n : at + (r - at) ≡ r = omega arith in
    sym (take-append-drop (r - at) (drop at text)) ∙ ap (λ l. between at r text ++ l) (drop-drop (r - at) at text ∙ ap (λ k. drop k text) n)

some_some : (w rest : List ℕ) → 0 < length w → some (w, rest) ≡ Some (w, rest)
some_some [] rest h = absurd (omega arith)
some_some (b ∷ w) rest h = refl

module _ {p : ℕ → Bool} {text : List ℕ} {at r : ℕ} (e : EndOf p text at r) where
  inside : Each p (between at r text)
  inside = All-from_get_or _ (between at r text) 0 (λ i l.
      let n : i < r - at = subst (λ k. i < k) (length-between text at r e.fits) l in
      subst (λ b. p b ≡ true) (sym (get_or-between text at r i 0 (omega arith))) (e.inside (at + i) (omega arith) (omega arith)))

  outside : Stops p (drop r text)
  outside = ⊎_elim (λ l. subst (Stops p) (sym (drop_more text r 0 l)) (e.stops l)) (λ l. subst (Stops p) (sym (drop_all r text l)) tt) (cases_lt r (length text))

  pub spanned : at ≤ length text → span p (drop at text) ≡ (between at r text, drop r text)
  spanned h = ap (span p) (cut text at r (e.past h)) ∙ span_complete p _ _ inside outside

  pub as_stretch : at < r → stretch_of p (drop at text) ≡ Some (between at r text, drop r text)
  as_stretch l = let f = e.fits in ap some (spanned (omega arith)) ∙ some_some _ _ (omega (arith, length-between text at r e.fits))
