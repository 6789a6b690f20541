-- The loop over the digits of a hex text.
use Rattle.std.proofs.Common.{◌≡◌, ℕ, zero, suc, ◌+◌, ◌*◌, ◌/◌, ◌%◌, ◌<◌, ◌≤◌, true, false, List, [], ◌∷◌, ◌++◌, ◌&&◌, eqb, length, get_or, take, drop, set, Bool, MatchOption, Some, None, Option, subst, sym, refl, ap, ◌∙◌, ⊎_elim, append_assoc, append-nil, arith, length-append}
use Rattle.std.proofs.lemmas.List.{get_or-take, get_or-drop, drop_more, take_more_set, drop-set-lt, drop-drop, length-take-le, nil_from_length}
use Rattle.std.proofs.lemmas.Bool.{cases_Bool, and_left, cond-true, cond-false}
use Rattle.std.specs.Bool.{then_some}
use Rattle.std.specs.Simd.{first_chunks}
use Rattle.std.specs.List.{list_all}
use Rattle.lines.specs.Hex.{hex_digit, digit_worth, paired, hyphen, unhexed, Long}
use Rattle.std.proofs.lemmas.List.Elements.{All-get_or}
use Rattle.std.proofs.lemmas.List.Sums.{AllPass-from_list_all}

length_paired : (hex : List ℕ) → length (paired hex) ≡ length hex / 2
length_paired [] = refl
length_paired (h ∷ []) = refl
length_paired (h ∷ l ∷ bs) = omega (arith, length_paired bs)

-- a text other than a hyphen writes pairs of digits, or nothing
pub decided : (hex : List ℕ) (t : Bool) {r : Option ℕ} → false ≡ hyphen hex → t ≡ (list_all hex_digit hex && eqb (length hex % 2) 0) → r ≡ then_some t (length hex / 2) → MatchOption r (unhexed hex ≡ None) (Long hex)
decided hex true ne t e = subst (λ r. MatchOption r (unhexed hex ≡ None) (Long hex)) (sym e) (cond-false _ _ _ (sym ne) ∙ cond-true _ _ _ (sym t), length_paired hex)
decided hex false ne t e = subst (λ r. MatchOption r (unhexed hex ≡ None) (Long hex)) (sym e) (cond-false _ _ _ (sym ne) ∙ cond-false _ _ _ (sym t))

-- where a byte is written, its digits are digits
digits : (hex : List ℕ) → unhexed hex ≡ Some (paired hex) → 0 < length (paired hex) → list_all hex_digit hex ≡ true
digits [] e h = absurd (omega arith)
digits (b ∷ []) e h = absurd (omega arith)
digits (b ∷ c ∷ bs) e h = ⊎_elim (λ y. y) (λ n. absurd (never _ (cond-false _ _ _ (and_left _ _ n)) e)) (cases_Bool (list_all hex_digit (b ∷ c ∷ bs)))
  where
    never : (o : Option (List ℕ)) {bs : List ℕ} → o ≡ None → o ≡ Some bs → ⊥
    never o p q = let z : ◌≡◌ {A = ℕ} 0 1 = cc in omega arith

pub digit : (hex : List ℕ) {n : ℕ} → Long hex n → (k : ℕ) → k < 2 * n → (k < length hex) × (hex_digit (get_or hex k 0) ≡ true)
digit hex (e, l) k h =
    let w : k < length hex = omega (arith, length_paired hex) in
    (w, All-get_or (λ b. hex_digit b ≡ true) hex k 0 w (AllPass-from_list_all hex_digit hex (digits hex e (omega arith))))

-- a digit by its pair
row : (k : ℕ) (hex : List ℕ) (i j : ℕ) (d : List ℕ) → i < k → j < 2 → get_or (get_or (first_chunks 2 k hex) i d) j 0 ≡ get_or hex (2 * i + j) 0
row zero hex i j d h l = absurd (omega arith)
row (suc k) hex zero j d h l = get_or-take 2 hex j 0 l ∙ ap (λ m. get_or hex m 0) (omega arith)
row (suc k) hex (suc i) j d h l =
    let n : 2 + (2 * i + j) ≡ 2 * (suc i) + j = omega arith in
    row k (drop 2 hex) i j d (omega arith) l ∙ get_or-drop 2 hex (2 * i + j) 0 ∙ ap (λ m. get_or hex m 0) n

module _ (hex : List ℕ) (n : ℕ) {rows : List (List ℕ)} (e : Long hex n) (r : rows ≡ first_chunks 2 (length hex / 2) hex) (l : length rows ≡ length hex / 2) where
  pub all_rows : length rows ≡ n
  all_rows = omega (arith, l, length_paired hex, e.1)

  pub in_row : (i j : ℕ) (d : List ℕ) → i < length rows → j < 2 → get_or (get_or rows i d) j 0 ≡ get_or hex (2 * i + j) 0
  in_row i j d h k = rw r (row (length hex / 2) hex i j d (omega (arith, l)) k)

  pub high_in_row : (i : ℕ) (d : List ℕ) → i < length rows → get_or (get_or rows i d) 0 0 ≡ get_or hex (2 * i) 0
  high_in_row i d h = in_row i 0 d h (omega arith) ∙ ap (λ k. get_or hex k 0) (omega arith)

  pub digit_in_row : (i j : ℕ) (d : List ℕ) → i < length rows → j < 2 → hex_digit (get_or (get_or rows i d) j 0) ≡ true
  digit_in_row i j d h k = rw (in_row i j d h k) (digit hex e (2 * i + j) (omega (arith, all_rows))).1

-- the bytes before i are written
pub record Writing (hex was now : List ℕ) (i : ℕ) : Type 0 where
  pub front : paired hex ≡ take i now ++ paired (drop (2 * i) hex)
  pub rest : drop i now ≡ drop i was

module _ {hex was now : List ℕ} {n i : ℕ} (w : Writing hex was now i) (e : Long hex n) where
  pub write : {a b : ℕ} → i < n → i < length now → a ≡ digit_worth (get_or hex (2 * i) 0) → b ≡ digit_worth (get_or hex (2 * i + 1) 0) → Writing hex was (set now i (a * 16 + b)) (i + 1)
  write h l p q = rw (p, q) record {
    front = w.front ∙ ap (λ t. take i now ++ paired t) two ∙ sym (append_assoc (take i now) _ _) ∙ ap (λ t. t ++ paired (drop (2 * (i + 1)) hex)) (sym (take_more_set now i _ l));
    rest = drop-set-lt (i + 1) now i _ (omega arith) ∙ sym (drop-drop 1 i now) ∙ ap (drop 1) w.rest ∙ drop-drop 1 i was;
  }
    where
      two : drop (2 * i) hex ≡ get_or hex (2 * i) 0 ∷ get_or hex (2 * i + 1) 0 ∷ drop (2 * (i + 1)) hex
      two =
          let s : 2 * i + 1 + 1 ≡ 2 * (i + 1) = omega arith in
          drop_more hex (2 * i) 0 (digit hex e _ (omega arith)).0
          ∙ ap (λ t. get_or hex (2 * i) 0 ∷ t) (drop_more hex (2 * i + 1) 0 (digit hex e _ (omega arith)).0 ∙ rw s refl)

  pub all_written : i ≡ n → n ≤ length now → (take n now ≡ paired hex) × (drop n now ≡ drop n was)
  all_written h l = (front, rw (← h) w.rest)
    where
      front : take n now ≡ paired hex
      front =
          let f : paired hex ≡ take n now ++ paired (drop (2 * n) hex) = rw (← h) w.front in
          let z : length (paired (drop (2 * n) hex)) ≡ 0 = omega (arith, simp length-append at (ap length f), length-take-le n now l, e.1) in
          sym (f ∙ rw (nil_from_length _ z, append-nil) refl)
