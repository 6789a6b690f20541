-- The parts of a list are written one by one, each but the first behind a comma.
use Rattle.std.proofs.Common.{◌≡◌, ℕ, zero, suc, ◌+◌, ◌<◌, ◌≤◌, List, [], ◌∷◌, ◌++◌, length, get_or, take, codes, sym, ap, ◌∙◌, append_assoc, add-one, arith}
use Rattle.std.proofs.lemmas.List.{append-nil, flat_map_more, take_more, take_all}
use Rattle.std.proofs.lemmas.Bool.{cond-false, ne_eqb}
use Rattle.written.specs.Written.{comma_before, list_text}

module _ {A : Type 0} (text : A → List ℕ) where
  next : (xs : List A) (i : ℕ) (d : A) → i < length xs → list_text text (take (i + 1) xs) ≡ list_text text (take i xs) ++ (comma_before i ++ text (get_or xs i d))
  next [] i d h = absurd (omega arith)
  next (x ∷ xs) zero d h = append-nil (text x)
  next (x ∷ xs) (suc k) d h =
      let comma : comma_before (suc k) ≡ codes "," = cond-false _ _ _ (ne_eqb (suc k) 0 (λ e. omega arith)) in
      let front : take (suc k + 1) (x ∷ xs) ≡ x ∷ (take k xs ++ get_or xs k d ∷ []) = ap (λ n. take n (x ∷ xs)) (add-one (suc k)) ∙ ap (λ n. x ∷ take n xs) (sym (add-one k)) ∙ ap (λ ys. x ∷ ys) (take_more xs k d (omega arith)) in
      ap (list_text text) front ∙ sym (flat_map_more (λ y. codes "," ++ text y) (text x) (take k xs) (get_or xs k d)) ∙ ap (λ t. list_text text (take (suc k) (x ∷ xs)) ++ (t ++ text (get_or xs k d))) (sym comma)

  module _ (xs : List A) (s now : List ℕ) (i : ℕ) (sofar : now ≡ s ++ list_text text (take i xs)) where
    pub more : {mid last : List ℕ} {x : A} → mid ≡ now ++ comma_before i → i < length xs → x ≡ get_or xs i x → last ≡ mid ++ text x → last ≡ s ++ list_text text (take (i + 1) xs)
    more {x = x} p h e q = rw (q, p, sofar, next xs i x h, ← e) (simp append_assoc)

    pub all : length xs ≤ i → now ≡ s ++ list_text text xs
    all h = sofar ∙ ap (λ t. s ++ list_text text t) (take_all i xs h)
