-- What the tables hand out: levels, MChunks, numbers. Assumes nothing.
use Rattle.std.proofs.Common.{◌≡◌, ℕ, zero, suc, ◌+◌, ◌-◌, ◌≤◌, List, [], ◌∷◌, map, length, take, drop, Some, None, Option, MatchOption, sym, refl, ap, ◌∙◌, le_of_suc-le-suc, not-suc-le-zero, arith}
use lib.ListN.{length-map}
use Rattle.std.specs.List.{between, slice_get}
use Rattle.std.specs.Option.{option_map}
use Rattle.std.proofs.lemmas.List.{drop_more, take-map, drop-map}
use Rattle.std.proofs.lemmas.Option.{slice_get-map, slice_get-get_or, slice_get_past}
use Rattle.std.proofs.lemmas.Slice.{between_to_end}
use Rattle.texts.specs.declared.table.Span.{Span}
use Rattle.texts.specs.Tables.{Taken, rows_of}
use Rattle.mess.specs.declared.sep.Sep.{Sep}
use Rattle.mess.specs.declared.sep.Sep.TheVariants.{Colon, Hyphen, Plus, Underscore, Tilde}
use Rattle.texts.specs.declared.table.Rows.{Rows}
use Rattle.mess.specs.declared.mchunk.MChunk.TheVariants.{Digits, Rev, Plain}
use Rattle.mess.specs.declared.mess.Level.{Level}
use Rattle.mess.specs.declared.mess.Mess.{Mess}
use Rattle.mess.specs.Parts.{MChunk, Parts}
use Rattle.mess.specs.Reading.{number_in, number_at, by_colon, nth_of, nth_from, mchunk_from, mchunk_at, nth_level_from, nth_level}
use Rattle.mess.specs.Tables.{MEntry, mchunk_in}
use Rattle.mess.specs.Labels.{mchunks_in, levels_from, parts_in, begin_in}

pub between_map : {X Y : Type 0} (f : X → Y) (begin end : ℕ) (xs : List X) → between begin end (map f xs) ≡ map f (between begin end xs)
between_map f begin end xs = ap (take (end - begin)) (drop-map f begin xs) ∙ take-map f (end - begin) (drop begin xs)

-- where a further level begins
pub begins : (n : ℕ) (ls : List Level) (i : ℕ) (l : Level) → Taken ls i (Some l) → begin_in n ls i ≡ l.begin
begins n [] i l t = absurd (not-suc-le-zero t.0)
begins n (x ∷ ls) zero l t = ap (λ y. y.begin) (t.1 l)
begins n (x ∷ ls) (suc i) l t = begins n ls i l (le_of_suc-le-suc t.0, t.1)

pub begins_none : (n : ℕ) (ls : List Level) (i : ℕ) → Taken ls i None → begin_in n ls i ≡ n
begins_none n [] i t = refl
begins_none n (x ∷ ls) zero t = absurd (not-suc-le-zero t)
begins_none n (x ∷ ls) (suc i) t = begins_none n ls i (le_of_suc-le-suc t)

-- the level at an index, and those behind it
pub at_level : (ls : List Level) (i : ℕ) (l : Level) → Taken ls i (Some l) → drop i ls ≡ l ∷ drop (i + 1) ls
at_level ls i l t = drop_more ls i l t.0 ∙ ap (λ x. x ∷ drop (i + 1) ls) (t.1 l)

pub colon : {A : Type 0} (s : Sep) (x y : A) → s ≡ Colon → by_colon s x y ≡ x
colon s x y e = ap (λ s. by_colon s x y) e

pub not_colon : {A : Type 0} (s : Sep) (x y : A) → (s ≡ Colon → ⊥) → by_colon s x y ≡ y
not_colon Colon x y n = absurd (n refl)
not_colon Hyphen x y n = refl
not_colon Plus x y n = refl
not_colon Underscore x y n = refl
not_colon Tilde x y n = refl

by_colon_both : {A B : Type 0} (f : A → B) (s : Sep) (x y : A) → f (by_colon s x y) ≡ by_colon s (f x) (f y)
by_colon_both f Colon x y = refl
by_colon_both f Hyphen x y = refl
by_colon_both f Plus x y = refl
by_colon_both f Underscore x y = refl
by_colon_both f Tilde x y = refl

pub mchunks_few : (text : List ℕ) (t : Rows MEntry) → length (mchunks_in text t) ≤ length (rows_of t)
mchunks_few text t = omega (arith, length-map (rows_of t) (mchunk_in text))

-- where a further level begins, or all of them end
pub begun : (n k : ℕ) (ls : List Level) (i : ℕ) (o : Option Level) (P : Level → Type 0) → Taken ls i o → (r : ℕ) → k ≡ n → ((l : Level) → P l → r ≡ l.begin) → MatchOption o (r ≡ k) P → r ≡ begin_in n ls i
begun n k ls i None P t r h f e = e ∙ h ∙ sym (begins_none n ls i t)
begun n k ls i (Some l) P t r h f e = f l e ∙ sym (begins n ls i l t)

-- the level that no colon follows: what is left to look at, of levels the first of which begins at a place
module _ (cs : List MChunk) where
  pub past_colon : (begin : ℕ) (l : Level) (ls : List Level) → l.sep ≡ Colon → nth_level (levels_from cs begin (l ∷ ls)) ≡ nth_level (levels_from cs l.begin ls)
  past_colon begin l ls e = colon l.sep _ _ e

  pub at_other : (begin : ℕ) (l : Level) (ls : List Level) → (l.sep ≡ Colon → ⊥) → nth_level (levels_from cs begin (l ∷ ls)) ≡ between begin l.begin cs
  at_other begin l ls e = not_colon l.sep _ _ e

  pub at_last : (begin total : ℕ) → length cs ≤ total → nth_level (levels_from cs begin []) ≡ between begin total cs
  at_last begin total few = sym (between_to_end cs begin total few)

-- the nth MChunk is that of the level
mchunk_from_level : (n : ℕ) (cs : List MChunk) (ls : List (Sep × List MChunk)) → mchunk_from n cs ls ≡ slice_get (nth_level_from cs ls) n
mchunk_from_level n cs [] = refl
mchunk_from_level n cs (l ∷ ls) = ap (λ x. by_colon l.0 x (slice_get cs n)) (mchunk_from_level n l.1 ls) ∙ sym (by_colon_both (λ l. slice_get l n) l.0 (nth_level_from l.1 ls) cs)

got : {X : Type 0} (xs : List X) (n : ℕ) (o : Option X) → Taken xs n o → o ≡ slice_get xs n
got xs n None t = sym (slice_get_past xs n t)
got xs n (Some x) t = sym (slice_get-get_or xs n x t.0 ∙ ap Some (t.1 x))

pub nth_got : (f : MEntry → MChunk) (es : List MEntry) (n : ℕ) (p : Parts) → map f es ≡ nth_level p → (o : Option MEntry) → Taken es n o → option_map f o ≡ mchunk_at n p
nth_got f es n p e o t = ap (option_map f) (got es n o t) ∙ sym (slice_get-map f es n) ∙ ap (λ l. slice_get l n) e ∙ sym (mchunk_from_level n p.first p.further)

-- the number of the nth MChunk is that of the nth MChunk
abbrev pub number_of : (o : Option MChunk) → Option ℕ
number_of None = None
number_of (Some c) = number_in c

number_got : (n : ℕ) (cs : List MChunk) → number_at n cs ≡ number_of (slice_get cs n)
number_got n [] = refl
number_got zero (c ∷ cs) = refl
number_got (suc n) (c ∷ cs) = number_got n cs

nth_number : (n : ℕ) (cs : List MChunk) (ls : List (Sep × List MChunk)) → nth_from n cs ls ≡ number_of (mchunk_from n cs ls)
nth_number n cs [] = number_got n cs
nth_number n cs (l ∷ ls) = ap (λ x. by_colon l.0 x (number_at n cs)) (nth_number n l.1 ls) ∙ ap (by_colon l.0 _) (number_got n cs) ∙ sym (by_colon_both number_of l.0 (mchunk_from n l.1 ls) (slice_get cs n))

other_number : (text : List ℕ) (e : MEntry) → ((n : ℕ) (s : Span) → e ≡ Digits n s → ⊥) → None ≡ number_in (mchunk_in text e)
other_number text (Digits n s) h = absurd (h n s refl)
other_number text (Rev n s) h = refl
other_number text (Plain s) h = refl

-- the number of the nth MChunk, by the row that the table hands out
module _ (text : List ℕ) (m : Mess) (n : ℕ) (o : Option MEntry) (e : option_map (mchunk_in text) o ≡ mchunk_at n (parts_in text m)) where
  is_number : (r : Option ℕ) → r ≡ number_of (option_map (mchunk_in text) o) → r ≡ nth_of n (parts_in text m)
  is_number r h = h ∙ ap number_of e ∙ sym (nth_number n (parts_in text m).first (parts_in text m).further)

  pub no_number : o ≡ None → None ≡ nth_of n (parts_in text m)
  no_number h = is_number None (ap (λ o. number_of (option_map (mchunk_in text) o)) (sym h))

  pub a_number : (x : MEntry) (k : ℕ) (s : Span) → o ≡ Some x → x ≡ Digits k s → Some k ≡ nth_of n (parts_in text m)
  a_number x k s h d = is_number (Some k) (ap (λ y. number_in (mchunk_in text y)) (sym d) ∙ ap (λ o. number_of (option_map (mchunk_in text) o)) (sym h))

  pub not_number : (x : MEntry) → o ≡ Some x → ((k : ℕ) (s : Span) → x ≡ Digits k s → ⊥) → None ≡ nth_of n (parts_in text m)
  not_number x h d = is_number None (other_number text x d ∙ ap (λ o. number_of (option_map (mchunk_in text) o)) (sym h))
