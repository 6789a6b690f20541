-- A line by the first place that holds a byte.
use Rattle.std.proofs.Common.{◌≡◌, ℕ, ◌+◌, ◌-◌, ◌≤◌, Bool, false, List, [], length, get_or, take, drop, Some, None, sym, refl, ap, ◌∙◌, arith, position, eqb, eqb-true}
use Rattle.std.specs.List.{position_or_len, slice_range}
use Rattle.std.proofs.lemmas.List.{take_all, take_rest, drop_all, get_or-drop, length-drop}
use Rattle.std.proofs.lemmas.List.Quantifiers.{position-Some}
use Rattle.std.proofs.lemmas.List.Sums.{fails_before_first}
use Rattle.std.proofs.lemmas.Grind.{common_steps}
use Rattle.lines.specs.Split.{word_of, rest_of, First}

module _ (p : ℕ → Bool) (xs : List ℕ) where
  found : {i : ℕ} → Some i ≡ position p xs → i ≡ position_or_len p xs
  found e = grind (arith, common_steps)

  missing : None ≡ position p xs → length xs ≤ position_or_len p xs
  missing e = grind (arith, common_steps)

-- a line by its first blank
module _ (line : List ℕ) where
  abbrev blank : ℕ → Bool
  blank b = eqb b 32

  pub before : {i : ℕ} → Some i ≡ position (λ b. eqb b 32) line → take i line ≡ word_of line
  before e = rw (found blank line e) refl

  pub behind : {i : ℕ} → Some i ≡ position (λ b. eqb b 32) line → take (length line - (i + 1)) (drop (i + 1) line) ≡ rest_of line
  behind {i} e = take_rest line (i + 1) ∙ rw (found blank line e) refl

  pub whole : None ≡ position (λ b. eqb b 32) line → line ≡ word_of line
  whole e = sym (take_all _ line (missing blank line e))

  pub nothing : None ≡ position (λ b. eqb b 32) line → [] ≡ rest_of line
  nothing e = sym (drop_all (position_or_len blank line + 1) line (omega (arith, missing blank line e)))

-- the first place of a byte at or behind another place, by what stands there
module _ (b : ℕ) (text : List ℕ) (at : ℕ) {rest : List ℕ} (l : at ≤ length text) (r : rest ≡ slice_range text at (length text)) where
  there : rest ≡ drop at text
  there = r ∙ take_rest text at

  long : length rest ≡ length text - at
  long = ap length there ∙ length-drop at text

  other : (k : ℕ) → at ≤ k → eqb (get_or rest (k - at) 0) b ≡ false → get_or text k 0 ≡ b → ⊥
  other k h d w =
      let e : get_or rest (k - at) 0 ≡ get_or text (at + (k - at)) 0 = rw there (get_or-drop at text (k - at) 0) in
      let s : at + (k - at) ≡ k = omega arith in
      let v : get_or rest (k - at) 0 ≡ b = e ∙ rw s w in
      grind (arith, v, d)

  pub first : {i : ℕ} → Some i ≡ position (λ x. eqb x b) rest → First b text at (Some (at + i))
  first {i} e =
      let s = position-Some (λ x. eqb x b) rest i 0 (sym e) in
      let g : get_or rest i 0 ≡ get_or text (at + i) 0 = rw there (get_or-drop at text i 0) in
      (omega arith, omega (arith, s.0, long), sym g ∙ eqb-true _ _ s.1, λ k h w. other k h (s.2 (k - at) (omega arith)))

  pub none : None ≡ position (λ x. eqb x b) rest → First b text at None
  none e k h w = other k h (fails_before_first (λ x. eqb x b) rest (k - at) 0 (omega (arith, missing (λ x. eqb x b) rest e, long)))
