-- The loop that reads a number.
use Rattle.std.proofs.Common.{◌≡◌, ℕ, ◌+◌, ◌-◌, ◌*◌, ◌<◌, ◌≤◌, ◌&&◌, true, false, cond, List, [], ◌∷◌, length, get_or, drop, Some, None, Option, sym, refl, ap, ◌∙◌, arith, leb}
use Rattle.std.specs.Char.{is_ascii_digit}
use Rattle.std.specs.List.{list_all}
use Rattle.std.proofs.lemmas.List.{at_drop_more, at_drop_all}
use Rattle.std.proofs.lemmas.Bool.{cond-true, cond-false, and_left, and_right, le-leb, lt-leb}
use Rattle.parsers.specs.Grammar.{worth}
use Rattle.lines.specs.Number.{upto}

grows : (n : ℕ) (w : List ℕ) → n ≤ worth n w
grows n [] = omega arith
grows n (b ∷ w) = omega (arith, grows (n * 10 + (b - 48)) w)

-- the number that a value and the digits behind it write, if it is at most `most`
abbrev goes : ℕ → ℕ → List ℕ → Option ℕ
goes most value bs = cond (list_all is_ascii_digit bs && leb (worth value bs) most) (Some (worth value bs)) None

-- the bytes before i are digits worth value
pub record Counting (most : ℕ) (text : List ℕ) (i value : ℕ) : Type 0 where
  pub is : upto most text ≡ goes most value (drop i text)
  pub small : value ≤ most

module _ {most : ℕ} {text : List ℕ} {i value : ℕ} (c : Counting most text i value) where
  pub done : length text ≤ i → Some value ≡ upto most text
  done h = sym (c.is ∙ at_drop_all (goes most value) text i h ∙ cond-true _ _ _ (le-leb _ _ c.small))

  module _ (h : i < length text) where
    more : upto most text ≡ goes most value (get_or text i 0 ∷ drop (i + 1) text)
    more = c.is ∙ at_drop_more (goes most value) text i 0 h

    pub no_digit : false ≡ is_ascii_digit (get_or text i 0) → None ≡ upto most text
    no_digit d = sym (more ∙ cond-false _ _ _ (and_left _ _ (and_left _ _ (sym d))))

    pub over : most < value * 10 + (get_or text i 0 - 48) → None ≡ upto most text
    over big =
        let v = value * 10 + (get_or text i 0 - 48) in
        let rest = drop (i + 1) text in
        let g : most < worth v rest = omega (arith, big, grows v rest) in
        sym (more ∙ cond-false _ _ _ (and_right _ _ (lt-leb (worth v rest) most g)))

    pub further : {sum : ℕ} → true ≡ is_ascii_digit (get_or text i 0) → sum ≡ value * 10 + (get_or text i 0 - 48) → sum ≤ most → Counting most text (i + 1) sum
    further {sum} d e small =
        let v = value * 10 + (get_or text i 0 - 48) in
        let rest = drop (i + 1) text in
        record {
          is = more ∙ ap (λ t. cond ((t && list_all is_ascii_digit rest) && leb (worth v rest) most) (Some (worth v rest)) None) (sym d) ∙ ap (λ n. goes most n rest) (sym e);
          small = small;
        }
