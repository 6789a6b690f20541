-- Where the first byte that is not of a class stands. Assumes nothing.
use Rattle.std.proofs.Common.{◌≡◌, ℕ, ◌+◌, ◌-◌, ◌≤◌, Bool, true, false, not, List, length, get_or, drop, position, Some, None, sym, ap, ◌∙◌, subst, arith, length-drop}
use Rattle.std.specs.List.{position_or_len}
use Rattle.std.proofs.lemmas.List.{get_or-drop}
use Rattle.std.proofs.lemmas.List.Quantifiers.{position-Some}
use Rattle.std.proofs.lemmas.List.Sums.{fails_before_first}
use Rattle.std.proofs.lemmas.Bool.{not-false, not-true}
use Rattle.std.proofs.lemmas.Grind.{common_steps}
use Rattle.parsers.specs.Places.{EndOf}

-- the byte at k, in a text and in its rest
byte : (p : ℕ → Bool) (text rest : List ℕ) (at k : ℕ) (t : Bool) → rest ≡ drop at text → at ≤ k → p (get_or rest (k - at) 0) ≡ t → p (get_or text k 0) ≡ t
byte p text rest at k t is l h = subst (λ b. p b ≡ t) (ap (λ r. get_or r (k - at) 0) is ∙ get_or-drop at text (k - at) 0 ∙ ap (λ i. get_or text i 0) (omega arith)) h

module _ {p : ℕ → Bool} {text rest : List ℕ} {at : ℕ} (is : rest ≡ drop at text) where
  pub stops_at : {n : ℕ} → Some n ≡ position (λ b. not (p b)) rest → EndOf p text at (at + n)
  stops_at {n} e =
      let h = position-Some (λ b. not (p b)) rest n 0 (sym e) in
      let long : length rest ≡ length text - at = ap length is ∙ length-drop at text in
      record {
        fits = omega (arith, h.0, long);
        past = λ _. omega arith;
        inside = λ k l m. byte p text rest at k true is l (not-false _ (h.2 (k - at) (omega arith)));
        stops = λ _. byte p text rest at (at + n) false is (omega arith) (not-true _ (subst (λ i. not (p (get_or rest i 0)) ≡ true) (omega arith) h.1));
      }

  pub never_stops : None ≡ position (λ b. not (p b)) rest → EndOf p text at (length text)
  never_stops e =
      let all : length rest ≤ position_or_len (λ b. not (p b)) rest = grind (arith, common_steps) in
      let long : length rest ≡ length text - at = ap length is ∙ length-drop at text in
      record {
        fits = omega arith;
        past = λ l. l;
        inside = λ k l m. byte p text rest at k true is l (not-false _ (fails_before_first (λ b. not (p b)) rest (k - at) 0 (omega (arith, long, all))));
        stops = λ l. absurd (omega arith);
      }
