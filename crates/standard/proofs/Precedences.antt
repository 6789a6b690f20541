-- The order of Ideals is the standard's precedence. Assumes nothing.
use Rattle.std.proofs.Common.{◌≡◌, ℕ, ◌<◌, ◌⊎◌, List, Some, None, Option, Ordering, Less, Equal, sym, refl, ap, ◌∙◌, inl, inr, ⊎_elim, arith}
use Rattle.std.specs.Cmp.{ranks, nat_cmp_is, means, below_irrefl, below_chain}
use Rattle.std.specs.Ordering.{ordering_index, ordering_reverse, ordering_then, MatchOrdering, nat_cmp}
use Rattle.order.specs.Lists.{lex}
use Rattle.order.specs.Numbers.{number_strict}
use Rattle.chunk.specs.Piece.{Piece, numeric, alphanum}
use Rattle.chunk.specs.Semver.{semver_order, semver_strict}
use Rattle.standard.specs.Parts.{Parts}
use Rattle.standard.specs.Precedence.{TextLower, byte, shorter, IdentifierLower, numerically, lexically, below_others, ReleaseLower, difference, larger_set, SameCore, Lower, by_major, by_minor, by_patch, pre_release, by_identifiers, Level}
use Rattle.standard.specs.Order.{release_order, ideal_order}
use Rattle.standard.specs.Theorems.{PrecedenceStands}
use Rattle.standard.proofs.Listing.{then_says, then_equal, less_then, equal_then, lex_equal, lex_less, less_first, less_front}
use Rattle.standard.proofs.Stricts.{release_strict, strict_stands}

-- numbers
ranked : (m n : ℕ) (o : Ordering) → nat_cmp m n ≡ o → MatchOrdering o (m < n) (m ≡ n) (n < m)
ranked = means (λ (x y : ℕ). x < y) below_irrefl below_chain nat_cmp ranks

number_equal : (m n : ℕ) → nat_cmp m n ≡ Equal → m ≡ n
number_equal m n = ranked m n Equal

less_number : (m n : ℕ) → m < n → nat_cmp m n ≡ Less
less_number m n h = sym (nat_cmp_is m n Less h)

equal_number : (m n : ℕ) → m ≡ n → nat_cmp m n ≡ Equal
equal_number m n h = sym (nat_cmp_is m n Equal h)

-- texts
text_less : (s t : List ℕ) → lex nat_cmp s t ≡ Less → TextLower s t
text_less = lex_less number_equal (λ m n. ranked m n Less) TextLower (λ _ _. byte) shorter

less_text : {s t : List ℕ} → TextLower s t → lex nat_cmp s t ≡ Less
less_text (byte same s t h) = less_first number_strict _ _ same s t (less_number _ _ h)
less_text (shorter b same t) = less_front number_strict b same t

-- identifiers
piece_less : (x y : Piece) → semver_order x y ≡ Less → IdentifierLower x y
piece_less (numeric m) (numeric n) e = numerically (ranked m n Less e)
piece_less (numeric m) (alphanum t) e = below_others
piece_less (alphanum s) (numeric n) e = absurd (omega (arith, ap ordering_index e))
piece_less (alphanum s) (alphanum t) e = lexically (text_less s t e)

less_piece : {x y : Piece} → IdentifierLower x y → semver_order x y ≡ Less
less_piece (numerically h) = less_number _ _ h
less_piece (lexically h) = less_text h
less_piece below_others = refl

piece_equal : (x y : Piece) → semver_order x y ≡ Equal → x ≡ y
piece_equal (numeric m) (numeric n) e = ap numeric (number_equal m n e)
piece_equal (numeric m) (alphanum t) e = absurd (omega (arith, ap ordering_index e))
piece_equal (alphanum s) (numeric n) e = absurd (omega (arith, ap ordering_index e))
piece_equal (alphanum s) (alphanum t) e = ap alphanum (lex_equal number_equal s t e)

-- Releases
release_less : (xs ys : List Piece) → lex semver_order xs ys ≡ Less → ReleaseLower xs ys
release_less = lex_less piece_equal piece_less ReleaseLower (λ _ _. difference) larger_set

less_release : {xs ys : List Piece} → ReleaseLower xs ys → lex semver_order xs ys ≡ Less
less_release (difference same xs ys h) = less_first semver_strict _ _ same xs ys (less_piece h)
less_release (larger_set y same ys) = less_front semver_strict y same ys

release_equal : (o p : Option (List Piece)) → release_order o p ≡ Equal → o ≡ p
release_equal None None e = refl
release_equal None (Some ys) e = absurd (omega (arith, ap ordering_index e))
release_equal (Some xs) None e = absurd (omega (arith, ap ordering_index e))
release_equal (Some xs) (Some ys) e = ap Some (lex_equal piece_equal xs ys e)

-- Ideals
module _ {p q : Parts} where
  last_less : SameCore p q → (o r : Option (List Piece)) → p.release ≡ o → q.release ≡ r → release_order o r ≡ Less → Lower p q
  last_less c None None e f h = absurd (omega (arith, ap ordering_index h))
  last_less c None (Some ys) e f h = absurd (omega (arith, ap ordering_index h))
  last_less c (Some xs) None e f h = pre_release c e f
  last_less c (Some xs) (Some ys) e f h = by_identifiers c e f (release_less xs ys h)

  level_ideal : SameCore p q → {o : Ordering} → release_order p.release q.release ≡ o → ideal_order p q ≡ o
  level_ideal c e = equal_then _ _ (equal_number _ _ c.major) (equal_then _ _ (equal_number _ _ c.minor) (equal_then _ _ (equal_number _ _ c.patch) e))

  less_ideal : Lower p q → ideal_order p q ≡ Less
  less_ideal (by_major h) = less_then _ _ (less_number _ _ h)
  less_ideal (by_minor e h) = equal_then _ _ (equal_number _ _ e) (less_then _ _ (less_number _ _ h))
  less_ideal (by_patch e f h) = equal_then _ _ (equal_number _ _ e) (equal_then _ _ (equal_number _ _ f) (less_then _ _ (less_number _ _ h)))
  less_ideal (pre_release c e f) = level_ideal c (λ i. release_order (e i) (f i))
  less_ideal (by_identifiers c e f h) = level_ideal c ((λ i. release_order (e i) (f i)) ∙ less_release h)

number_less : (m n : ℕ) (o : Ordering) → ordering_then (nat_cmp m n) o ≡ Less → (m < n) ⊎ ((m ≡ n) × (o ≡ Less))
number_less m n o e = ⊎_elim (λ h. inl (ranked m n Less h)) (λ h. inr (number_equal m n h.0, h.1)) (then_says (nat_cmp m n) o Less e)

ideal_less : (p q : Parts) → ideal_order p q ≡ Less → Lower p q
ideal_less p q e =
    ⊎_elim by_major (λ a.
    ⊎_elim (by_minor a.0) (λ b.
    ⊎_elim (by_patch a.0 b.0) (λ c. last_less (record { major = a.0; minor = b.0; patch = c.0 }) p.release q.release refl refl c.1)
    (number_less _ _ _ b.1))
    (number_less _ _ _ a.1))
    (number_less _ _ _ e)

ideal_equal : (p q : Parts) → ideal_order p q ≡ Equal → Level p q
ideal_equal p q e =
    let a = then_equal _ _ e in
    let b = then_equal _ _ a.1 in
    let c = then_equal _ _ b.1 in
    record {
      core = record { major = number_equal _ _ a.0; minor = number_equal _ _ b.0; patch = number_equal _ _ c.0 };
      release = release_equal p.release q.release c.1;
    }

pub precedence_stands : PrecedenceStands
precedence_stands p q = record {
  less = (ideal_less p q, less_ideal);
  equal = (ideal_equal p q, λ l. level_ideal l.core ((λ i. release_order (l.release i) q.release) ∙ release_strict.itself q.release));
  greater = (λ e. ideal_less q p (strict_stands.swapped p q ∙ ap ordering_reverse e), λ l. strict_stands.swapped q p ∙ ap ordering_reverse (less_ideal l));
}
