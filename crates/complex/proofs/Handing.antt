-- Handing out the levels of a Complex from one of them on, and the MChunks of a level. Assumes nothing.
use Rattle.std.proofs.Common.{◌≡◌, ℕ, zero, suc, ◌+◌, ◌-◌, ◌<◌, ◌≤◌, List, [], ◌∷◌, length, get_or, drop, Some, None, sym, refl, ap, ◌∙◌, subst, le_of_suc-le-suc, not-suc-le-zero, arith}
use lib.ListN.{length-map}
use Rattle.std.specs.List.{between}
use Rattle.std.proofs.lemmas.List.{get_or-map}
use Rattle.std.proofs.lemmas.Slice.{between_to_end}
use Rattle.texts.specs.Tables.{Taken}
use Rattle.mess.specs.declared.sep.Sep.{Sep}
use Rattle.mess.specs.declared.mess.Level.{Level}
use Rattle.mess.specs.Parts.{MChunk, Parts}
use Rattle.mess.specs.Labels.{levels_from, begin_in}
use Rattle.complex.specs.Order.{levels_of}

-- where a level begins, counted from another
pub begin_behind : (n : ℕ) (ls : List Level) (from i : ℕ) → begin_in n (drop from ls) i ≡ begin_in n ls (from + i)
begin_behind n ls zero i = ap (begin_in n ls) (omega arith)
begin_behind n [] (suc from) i = refl
begin_behind n (l ∷ ls) (suc from) i = let e : suc (from + i) ≡ suc from + i = omega arith in begin_behind n ls from i ∙ ap (begin_in n (l ∷ ls)) e

-- the levels
module _ (cs : List MChunk) (total : ℕ) (few : length cs ≤ total) where
  first_level : (at : ℕ) (ls : List Level) → between at (begin_in total ls 0) cs ≡ (levels_from cs at ls).first
  first_level at [] = between_to_end cs at total few
  first_level at (l ∷ ls) = refl

  pub first_from : (at : ℕ) (ls : List Level) (next end : ℕ) → end ≡ begin_in total ls next → between at end cs ≡ (levels_from cs at (drop next ls)).first
  first_from at ls next end e =
      let n : next ≡ next + 0 = omega arith in
      ap (λ k. between at k cs) (e ∙ ap (begin_in total ls) n ∙ sym (begin_behind total ls next 0)) ∙ first_level at (drop next ls)

  further_level : (at : ℕ) (ls : List Level) (i : ℕ) (l : Level) → Taken ls i (Some l) → Taken (levels_from cs at ls).further i (Some (l.sep, between l.begin (begin_in total ls (suc i)) cs))
  further_level at [] i l t = absurd (not-suc-le-zero t.0)
  further_level at (x ∷ ls) zero l t = (omega arith, λ _. subst (λ y. ◌≡◌ {A = Sep × List MChunk} (x.sep, (levels_from cs x.begin ls).first) (y.sep, between y.begin (begin_in total ls 0) cs)) (t.1 l) (ap (λ f. (x.sep, f)) (sym (first_level x.begin ls))))
  further_level at (x ∷ ls) (suc i) l t = let r = further_level x.begin ls i l (le_of_suc-le-suc t.0, t.1) in (omega (arith, r.0), r.1)

pub further_count : (cs : List MChunk) (at : ℕ) (ls : List Level) → length (levels_from cs at ls).further ≡ length ls
further_count cs at [] = refl
further_count cs at (l ∷ ls) = ap suc (further_count cs l.begin ls)

-- the level at an index behind the one with which a view begins
module _ (cs : List MChunk) (total : ℕ) (few : length cs ≤ total) (at : ℕ) (ls : List Level) (from count i : ℕ) (all : count ≡ length ls) where
  rest : between from count ls ≡ drop from ls
  rest = between_to_end ls from count (omega arith)

  pub a_level : (l : Level) (end : ℕ) → Taken (between from count ls) i (Some l) → end ≡ begin_in total ls (from + i + 1) → Taken (levels_from cs at (drop from ls)).further i (Some (l.sep, between l.begin end cs))
  a_level l end t e =
      let n : from + i + 1 ≡ from + suc i = omega arith in
      subst (λ k. Taken (levels_from cs at (drop from ls)).further i (Some (l.sep, between l.begin k cs))) (sym (e ∙ ap (begin_in total ls) n ∙ sym (begin_behind total ls from (suc i))))
      (further_level cs total few at (drop from ls) i l (subst (λ xs. Taken xs i (Some l)) rest t))

  pub no_level : Taken (between from count ls) i None → Taken (levels_from cs at (drop from ls)).further i None
  no_level t = subst (λ n. n ≤ i) (sym (further_count cs at (drop from ls))) (subst (λ xs. length xs ≤ i) rest t)

-- all levels, without their signs
module _ (p : Parts) where
  pub levels_counted : length (levels_of p) ≡ length p.further + 1
  levels_counted = omega (arith, length-map p.further (λ l. l.1))

  pub level_part : (i : ℕ) (l : Sep × List MChunk) → 0 < i → Taken p.further (i - 1) (Some l) → l.1 ≡ get_or (levels_of p) i l.1
  level_part zero l h t = absurd (omega arith)
  level_part (suc i) l h t =
      let n : suc i - 1 ≡ i = omega arith in
      let t' : Taken p.further i (Some l) = subst (λ k. Taken p.further k (Some l)) n t in
      sym (get_or-map (λ (l : Sep × List MChunk). l.1) p.further i l l.1 t'.0 ∙ ap (λ x. x.1) (t'.1 l))
