-- Before a dot, a level sign or the end, a run is what it is alone. Assumes nothing.
use Rattle.std.proofs.Common.{◌≡◌, ℕ, zero, suc, Bool, true, false, cond, ◌||◌, eqb, List, [], ◌∷◌, length, is_some, Some, None, Option, sym, refl, ap, ◌∙◌, subst, arith}
use Rattle.std.proofs.lemmas.Bool.{cond-true, or_right}
use Rattle.parsers.specs.Reading.{Reader, follow, push, behind_of, stretch_of, dotted_of, many_of}
use Rattle.parsers.specs.Whole.{Whole}
use Rattle.parsers.proofs.Joining.{some_same}
use Rattle.mess.specs.declared.sep.Sep.{Sep}
use Rattle.mess.specs.Parts.{MChunk, plain, Parts}
use Rattle.mess.specs.Grammar.{Complex}
use Rattle.mess.specs.Reading.{sorted, sep_of, ended, mchunk_of, level_of, signed, behind_sign, levels_by, complex_of}
use Rattle.mess.proofs.Sorting.{alnum, run_of}
use Rattle.mess.proofs.Complexes.{runs_of, runs_whole}

-- the same rest, and the same part if the rest begins with a dot or a level sign or is empty
abbrev Same : {C : Type 0} → C × List ℕ → C × List ℕ → Type 0
Same r s = (r.1 ≡ s.1) × (ended r.1 ≡ true → r.0 ≡ s.0)

abbrev Agrees : {C : Type 0} → Option (C × List ℕ) → Option (C × List ℕ) → Type 0
Agrees None None = Unit {0}
Agrees None (Some s) = ⊥
Agrees (Some r) None = ⊥
Agrees (Some r) (Some s) = Same r s

-- two readers agree
abbrev Alike : {C : Type 0} → Reader C → Reader C → Type 0
Alike R S = (bs : List ℕ) → Agrees (R bs) (S bs)

-- a reader reads only from a dot, a level sign or the end on
abbrev Joins : {C : Type 0} → Reader C → Type 0
Joins {C} R = (bs : List ℕ) (r : C × List ℕ) → R bs ≡ Some r → ended bs ≡ true

module _ {C : Type 0} (R S : Reader C) (alike : Alike R S) (joins : Joins R) where
  before : (k : ℕ) (bs : List ℕ) → ended (many_of R k bs).1 ≡ true → ended bs ≡ true
  before zero bs h = h
  before (suc k) bs h = go (R bs) refl h
    where
      go : (o : Option (C × List ℕ)) → R bs ≡ o → ended (follow o (λ c rest. push c (many_of R k rest)) ([], bs)).1 ≡ true → ended bs ≡ true
      go None e h = h
      go (Some r) e h = joins bs r e

  many_same : (k : ℕ) (bs : List ℕ) → Same (many_of R k bs) (many_of S k bs)
  many_same zero bs = (refl, λ _. refl)
  many_same (suc k) bs = go (R bs) (S bs) (alike bs) (λ l. many_same k l)
    where
      go : (o p : Option (C × List ℕ)) → Agrees o p → ((l : List ℕ) → Same (many_of R k l) (many_of S k l)) → Same (follow o (λ c rest. push c (many_of R k rest)) ([], bs)) (follow p (λ c rest. push c (many_of S k rest)) ([], bs))
      go None None a m = (refl, λ _. refl)
      go None (Some s) a m = absurd a
      go (Some r) None a m = absurd a
      go (Some r) (Some s) a m =
          let ih : Same (many_of R k r.1) (many_of S k s.1) = subst (λ l. Same (many_of R k r.1) (many_of S k l)) a.0 (m r.1) in
          (ih.0, λ h. let c = a.1 (before k r.1 h) in let cs = ih.1 h in cc)

  -- a part of one reader, and then many of another, at most k l of the rest l
  then_many : (k : List ℕ → ℕ) {A B : Type 0} (f : A → List C → B) (r s : A × List ℕ) → Same r s → Same (f r.0 (many_of R (k r.1) r.1).0, (many_of R (k r.1) r.1).1) (f s.0 (many_of S (k s.1) s.1).0, (many_of S (k s.1) s.1).1)
  then_many k f r s a =
      let m : Same (many_of R (k r.1) r.1) (many_of S (k s.1) s.1) = subst (λ l. Same (many_of R (k r.1) r.1) (many_of S (k l) l)) a.0 (many_same (k r.1) r.1) in
      (m.0, λ h. let c = a.1 (before (k r.1) r.1 h) in let cs = m.1 h in cc)

cond_agrees : {C : Type 0} (t : Bool) (o p : Option (C × List ℕ)) → Agrees o p → Agrees (cond t o None) (cond t p None)
cond_agrees true o p a = a
cond_agrees false o p a = tt

module _ {C : Type 0} (R S : Reader C) (alike : Alike R S) where
  behind_alike : Alike (behind_of 46 R) (behind_of 46 S)
  behind_alike [] = tt
  behind_alike (b ∷ bs) = cond_agrees (eqb b 46) (R bs) (S bs) (alike bs)

  behind_joins : Joins (behind_of 46 R)
  behind_joins [] r e = refl
  behind_joins (b ∷ bs) r e = go (eqb b 46) e
    where
      go : (t : Bool) → cond t (R bs) None ≡ Some r → t || is_some (sep_of b) ≡ true
      go true e = refl
      go false e = let z : ◌≡◌ {A = ℕ} 0 1 = cc in absurd (omega arith)

  sign_alike : Alike (behind_sign R) (behind_sign S)
  sign_alike [] = tt
  sign_alike (b ∷ bs) = go (sep_of b) (R bs) (S bs) (alike bs)
    where
      go : (o : Option Sep) (x y : Option (C × List ℕ)) → Agrees x y → Agrees (signed o x) (signed o y)
      go None x y a = tt
      go (Some s) None None a = tt
      go (Some s) None (Some y) a = absurd a
      go (Some s) (Some x) None a = absurd a
      go (Some s) (Some x) (Some y) a = (a.0, λ h. ap (λ c. (s, c)) (a.1 h))

  sign_joins : Joins (behind_sign R)
  sign_joins [] r e = refl
  sign_joins (b ∷ bs) r e = or_right _ _ (go (sep_of b) e)
    where
      go : (o : Option Sep) → signed o (R bs) ≡ Some r → is_some o ≡ true
      go None e = let z : ◌≡◌ {A = ℕ} 0 1 = cc in absurd (omega arith)
      go (Some s) e = refl

  dotted_alike : Alike (dotted_of R) (dotted_of S)
  dotted_alike bs = go (R bs) (S bs) (alike bs)
    where
      go : (x y : Option (C × List ℕ)) → Agrees x y → Agrees (follow x (λ c rest. Some (push c (many_of (behind_of 46 R) (length rest) rest))) None) (follow y (λ c rest. Some (push c (many_of (behind_of 46 S) (length rest) rest))) None)
      go None None a = tt
      go None (Some y) a = absurd a
      go (Some x) None a = absurd a
      go (Some x) (Some y) a = then_many (behind_of 46 R) (behind_of 46 S) behind_alike behind_joins length (λ c cs. c ∷ cs) x y a

levels_alike : (R S : Reader (List MChunk)) → Alike R S → (k : ℕ) → Alike (levels_by R k) (levels_by S k)
levels_alike R S alike k bs = go (R bs) (S bs) (alike bs)
  where
    go : (x y : Option (List MChunk × List ℕ)) → Agrees x y
        → Agrees {C = Parts} (follow x (λ cs rest. let m = many_of (behind_sign R) k rest in Some (record { first = cs; further = m.0 }, m.1)) None) (follow y (λ cs rest. let m = many_of (behind_sign S) k rest in Some (record { first = cs; further = m.0 }, m.1)) None)
    go None None a = tt
    go None (Some y) a = absurd a
    go (Some x) None a = absurd a
    go (Some x) (Some y) a = then_many (behind_sign R) (behind_sign S) (sign_alike R S alike) (sign_joins R S alike) (λ _. k) (λ cs ls. record { first = cs; further = ls }) x y a

run_alike : Alike mchunk_of run_of
run_alike bs = go (stretch_of alnum bs)
  where
    go : (o : Option (List ℕ × List ℕ)) → Agrees (follow o (λ w rest. Some (cond (ended rest) (sorted w) (plain w), rest)) None) (follow o (λ w rest. Some (sorted w, rest)) None)
    go None = tt
    go (Some r) = (refl, λ h. cond-true _ _ _ h)

alike : Alike complex_of (λ bs. levels_by runs_of (length bs) bs)
alike bs = levels_alike level_of runs_of (dotted_alike mchunk_of run_of run_alike) (length bs) bs

-- where nothing is left, the two read the same
module _ {C : Type 0} (c : C) where
  joined : (s : C × List ℕ) → s.0 ≡ c → s.1 ≡ [] → ◌≡◌ {A = Option (C × List ℕ)} (Some s) (Some (c, []))
  joined s d e = ap (λ x. Some (x, s.1)) d ∙ ap (λ l. Some (c, l)) e

  one_way : (o p : Option (C × List ℕ)) → Agrees o p → o ≡ Some (c, []) → p ≡ Some (c, [])
  one_way None p a e = let z : ◌≡◌ {A = ℕ} 0 1 = cc in absurd (omega arith)
  one_way (Some r) None a e = absurd a
  one_way (Some r) (Some s) a e =
      let n : r.1 ≡ [] = ap (λ x. x.1) (some_same e) in
      joined s (sym (a.1 (subst (λ l. ended l ≡ true) (sym n) refl)) ∙ ap (λ x. x.0) (some_same e)) (sym a.0 ∙ n)

  other_way : (o p : Option (C × List ℕ)) → Agrees o p → p ≡ Some (c, []) → o ≡ Some (c, [])
  other_way None None a e = e
  other_way None (Some s) a e = absurd a
  other_way (Some r) None a e = let z : ◌≡◌ {A = ℕ} 0 1 = cc in absurd (omega arith)
  other_way (Some r) (Some s) a e =
      let n : r.1 ≡ [] = a.0 ∙ ap (λ x. x.1) (some_same e) in
      joined r (a.1 (subst (λ l. ended l ≡ true) (sym n) refl) ∙ ap (λ x. x.0) (some_same e)) n

pub complex_whole : Whole complex_of Complex
complex_whole = record {
  sound = λ text c e. runs_whole.sound text c (one_way c _ _ (alike text) e);
  complete = λ text c g. other_way c _ _ (alike text) (runs_whole.complete text c g);
  unique = runs_whole.unique;
}
