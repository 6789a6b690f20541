-- Words read in the front of a text. Assumes nothing.
use Rattle.std.proofs.Common.{◌≡◌, ℕ, ◌<◌, ◌≤◌, List, length, take, drop, Some, None, sym, refl, ap, ◌∙◌}
use Rattle.std.specs.List.{between}
use Rattle.std.proofs.lemmas.List.{take-take, drop_more, drop_all}
use Rattle.std.proofs.lemmas.Slice.{between_is}
use Rattle.texts.specs.declared.table.Span.{Span}
use Rattle.texts.specs.Tables.{bytes_in}
use Rattle.version.specs.Reading.{ended}

module _ (text : List ℕ) where
  -- what lies in the front lies in the text
  pub between_front : (from to n : ℕ) → to ≤ n → between from to (take n text) ≡ between from to text
  between_front from to n h = between_is (take n text) from to ∙ ap (drop from) (take-take to n text h) ∙ sym (between_is text from to)

  -- a word is the end of the front up to it
  pub word_is : (word : Span) (t : List ℕ) → t ≡ take word.to text → bytes_in text word ≡ drop word.from t
  word_is word t e = between_is text word.from word.to ∙ ap (drop word.from) (sym e)

module _ {C : Type 0} (c : C) (t : List ℕ) (at : ℕ) where
  pub at_end : length t ≤ at → ended c (drop at t) ≡ Some c
  at_end h = rw (drop_all at t h) refl

  pub before_end : at < length t → ended c (drop at t) ≡ None
  before_end h = rw (drop_more t at 0 h) refl
