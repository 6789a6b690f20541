-- The parts of a list are written one by one.
use Rattle.std.proofs.Common.{◌≡◌, ℕ, ◌+◌, List, [], ◌∷◌, ◌++◌, take, Some, None, Option, sym, ap, ◌∙◌}
use Rattle.std.specs.List.{flat_map}
use Rattle.std.specs.Option.{MatchOption}
use Rattle.std.proofs.lemmas.List.{flat_map_more, take_more}
use Rattle.texts.specs.Tables.{Taken}

module _ {A : Type 0} (text : A → List ℕ) (xs : List A) (s now : List ℕ) (i : ℕ) (sofar : now ≡ s ++ flat_map text (take i xs)) where
  pub more_taken : {last : List ℕ} {x : A} → Taken xs i (Some x) → last ≡ now ++ text x → last ≡ s ++ flat_map text (take (i + 1) xs)
  more_taken {x = x} t e =
      let front : take (i + 1) xs ≡ take i xs ++ x ∷ [] = take_more xs i x t.0 ∙ ap (λ y. take i xs ++ y ∷ []) (t.1 x) in
      e ∙ ap (λ l. l ++ text x) sofar ∙ flat_map_more text s (take i xs) x ∙ ap (λ l. s ++ flat_map text l) (sym front)

-- a turn that yields, of a range's numbers that are mapped while they give something: the next number was mapped
pub stepped : {E : Type 0} {a b : ℕ} {Q : ℕ → Type 0} (B : Type 0) (D : ℕ → Type 0) (x : Option ℕ) → ((j : ℕ) → E → (j ≡ a) × (b ≡ a + 1) × Q j)
    → MatchOption x B (λ j. D j × (j ≡ a) × (b ≡ a + 1)) → MatchOption x E Q → (j : ℕ) × (j ≡ a) × (b ≡ a + 1) × Q j
stepped B D None f m w = let p = f 0 w in (0, p.0, p.1, p.2)
stepped B D (Some j) f m w = (j, m.1, m.2, w)
