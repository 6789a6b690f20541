-- The loop that reads a number. Assumes nothing.
use Rattle.std.proofs.Common.{◌≡◌, ℕ, ◌+◌, ◌-◌, ◌*◌, ◌<◌, ◌≤◌, List, [], ◌∷◌, ◌++◌, get_or, take, drop, Some, None, sym, refl, ap, ◌∙◌, arith, take_all, take-append-drop}
use Rattle.std.specs.Char.{is_ascii_digit}
use Rattle.std.specs.List.{between}
use Rattle.std.proofs.lemmas.List.{take_more}
use Rattle.std.proofs.lemmas.List.Edits.{length-between}
use Rattle.std.proofs.lemmas.Bool.{cond-true, cond-false, le-leb, lt-leb}
use Rattle.parsers.specs.Grammar.{worth, limit}
use Rattle.parsers.specs.Reading.{digits_of}
use Rattle.parsers.specs.Places.{EndOf, Gives}
use Rattle.parsers.proofs.Stretches.{as_stretch}

grows : (n : ℕ) (w : List ℕ) → n ≤ worth n w
grows n [] = omega arith
grows n (b ∷ w) = omega (arith, grows (n * 10 + (b - 48)) w)

pub worth_append : (n : ℕ) (v w : List ℕ) → worth n (v ++ w) ≡ worth (worth n v) w
worth_append n [] w = refl
worth_append n (b ∷ v) w = worth_append (n * 10 + (b - 48)) v w

-- the first i digits of w are worth value, which is within the limit
pub record Counting (w : List ℕ) (i value : ℕ) : Type 0 where
  pub is : value ≡ worth 0 (take i w)
  pub small : value ≤ limit

module _ {text : List ℕ} {at end : ℕ} (e : EndOf is_ascii_digit text at end) where
  module _ {i value : ℕ} (c : Counting (between at end text) i value) where
    module _ (h : i < end - at) where
      next : worth 0 (take (i + 1) (between at end text)) ≡ value * 10 + (get_or (between at end text) i 0 - 48)
      next = rw (take_more (between at end text) i 0 (omega (arith, length-between text at end e.fits)), worth_append, c.is) refl

      pub further : (sum : ℕ) → sum ≡ value * 10 + (get_or (between at end text) i 0 - 48) → sum ≤ limit → Counting (between at end text) (i + 1) sum
      further sum s small = record { is = s ∙ sym next; small = small }

      pub over : limit < value * 10 + (get_or (between at end text) i 0 - 48) → digits_of (drop at text) ≡ None
      over big =
          let w = between at end text in
          let n : worth 0 w ≡ worth (worth 0 (take (i + 1) w)) (drop (i + 1) w) = ap (worth 0) (sym (take-append-drop (i + 1) w)) ∙ worth_append 0 (take (i + 1) w) (drop (i + 1) w) in
          let g : limit < worth 0 w = omega (arith, n, next, grows (worth 0 (take (i + 1) w)) (drop (i + 1) w)) in
          rw (as_stretch e (omega arith)) (cond-false _ _ _ (lt-leb _ _ g))

    pub done : at < end → end - at ≤ i → Gives (λ n. n) digits_of text at (Some (value, end))
    done l h =
        let all : value ≡ worth 0 (between at end text) = c.is ∙ ap (worth 0) (take_all i (between at end text) (omega (arith, length-between text at end e.fits))) in
        (rw (as_stretch e l, ← all) (cond-true _ _ _ (le-leb _ _ c.small)), l, e.fits)
