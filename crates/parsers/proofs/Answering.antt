-- What `parse` and `new` of a form answer, from its reader. Assumes nothing.
use Rattle.std.proofs.Common.{◌≡◌, ℕ, ◌-◌, ◌≤◌, Bool, true, false, cond, eqb, leb, List, [], length, take, drop, Some, None, Ok, Err, Option, Result, sym, refl, ap, ◌∙◌, subst, le_refl, arith, length-drop, take_all}
use Rattle.std.proofs.lemmas.List.{nil_from_length, drop_all}
use Rattle.std.proofs.lemmas.Bool.{cond-true, cond-false, cond_both, eq-eqb, ne_eqb, eqb-true, eqb-false, le-leb, leb-true}
use Rattle.fault.specs.declared.LabelFault.{LabelFault}
use Rattle.fault.specs.declared.LabelFault.TheVariants.{NoForm}
use Rattle.parsers.specs.Grammar.{Grammar}
use Rattle.parsers.specs.Reading.{Reader, follow}
use Rattle.parsers.specs.Whole.{Whole}
use Rattle.std.specs.Option.{ok_or}
use Rattle.parsers.specs.Places.{Gives}
use Rattle.texts.specs.Answers.{told, onward, longest, entering}
use Rattle.parsers.specs.Answers.{parsed_by, whole_read, new_by, NewReads}

-- a text that enters has 1 to 128 bytes, and is not clipped
pub entered : (text : List ℕ) → ◌≡◌ {A = Result (List ℕ) LabelFault} (Ok text) (entering text) → (1 ≤ length text) × (length text ≤ longest)
entered text = cond_both (eqb (length text) 0) _ _ (λ r. Ok text ≡ r → (1 ≤ length text) × (length text ≤ longest))
    (λ _ e. let z : ◌≡◌ {A = ℕ} 0 1 = cc in absurd (omega arith))
    (λ n. cond_both (leb (length text) longest) _ _ (λ r. Ok text ≡ r → (1 ≤ length text) × (length text ≤ longest))
    (λ l _. (let m = eqb-false (length text) 0 n in omega (arith, m), leb-true (length text) longest l))
    (λ _ e. let z : ◌≡◌ {A = ℕ} 0 1 = cc in absurd (omega arith)))

pub clipped_whole : (text t : List ℕ) → ◌≡◌ {A = Result (List ℕ) LabelFault} (Ok text) (entering text) → t ≡ take 128 text → t ≡ text
clipped_whole text t e c = c ∙ take_all 128 text (entered text e).1

pub enters : (text : List ℕ) → 1 ≤ length text → length text ≤ longest → entering text ≡ Ok text
enters text l h = cond-false _ _ _ (ne_eqb (length text) 0 (λ e. omega arith)) ∙ cond-true _ _ _ (le-leb (length text) longest h)

told_cond : {U C : Type 0} (den : U → C) (b : Bool) (x : U) (f : LabelFault) → told den (cond b (Ok x) (Err f)) ≡ cond b (Ok (den x)) (Err f)
told_cond den true x f = refl
told_cond den false x f = refl

module _ {C : Type 0} (R : Reader C) (text : List ℕ) where
  abbrev Answer : Type 0
  Answer = Result (C × ℕ) LabelFault

  -- from the reader to `parse`
  module _ (e : ◌≡◌ {A = Result (List ℕ) LabelFault} (Ok text) (entering text)) where
    pub read_front : (c : C) (n : ℕ) → R text ≡ Some (c, drop n text) → n ≤ length text → ◌≡◌ {A = Answer} (Ok (c, n)) (parsed_by R text)
    read_front c n r h =
        let k : n ≡ length text - length (drop n text) = omega (arith, length-drop n text) in
        ap (λ m. Ok (c, m)) k ∙ sym (ap (λ a. onward a (λ t. follow (R t) (λ c rest. Ok (c, length t - length rest)) (Err (NoForm 0)))) (sym e) ∙ rw r)

    pub read_none : R text ≡ None → ◌≡◌ {A = Answer} (Err (NoForm 0)) (parsed_by R text)
    read_none r = sym (ap (λ a. onward a (λ t. follow (R t) (λ c rest. Ok (c, length t - length rest)) (Err (NoForm 0)))) (sym e) ∙ rw r)

    -- what is read in front of a text is what `parse` answers
    pub read_parsed : {U : Type 0} (den : List ℕ → U → C) (t : List ℕ) → t ≡ take 128 text → (r : Option (U × ℕ)) → Gives (den t) R t 0 r → told (λ x. (den text x.0, x.1)) (ok_or r (NoForm 0)) ≡ parsed_by R text
    read_parsed den t c None g = read_none (subst (λ t. R t ≡ None) (clipped_whole text t e c) g)
    read_parsed den t c (Some r) g =
        let h = subst (λ t. Gives (den t) R t 0 (Some r)) (clipped_whole text t e c) g in
        read_front (den text r.0) r.1 h.0 h.2

  -- from `parse` to `new`
  pub left_none : (c : C) (n : ℕ) → ◌≡◌ {A = Answer} (Ok (c, n)) (parsed_by R text) → n ≡ length text → ◌≡◌ {A = Result C LabelFault} (Ok c) (new_by R text)
  left_none c n e h = sym (ap (λ a. onward a (whole_read (length text))) (sym e) ∙ cond-true _ _ _ (eq-eqb _ _ h))

  pub read_new : {U : Type 0} (den : U → C) (r : U × ℕ) → ◌≡◌ {A = Answer} (Ok (den r.0, r.1)) (parsed_by R text) → told den (whole_read (length text) r) ≡ new_by R text
  read_new den r e = told_cond den (eqb r.1 (length text)) r.0 (NoForm r.1) ∙ ap (λ a. onward a (whole_read (length text))) e

-- `new` takes what the grammar yields
module _ {C : Type 0} {R : Reader C} {P : Grammar C} (w : Whole R P) (text : List ℕ) where
  takes : (c : C) → 1 ≤ length text → length text ≤ longest → P text c → new_by R text ≡ Ok c
  takes c l h g =
      let e = sym (enters text l h) in
      let n : [] ≡ drop (length text) text = sym (drop_all (length text) text (le_refl _)) in
      let r : R text ≡ Some (c, drop (length text) text) = w.complete text c g ∙ ap (λ rest. Some (c, rest)) n in
      sym (left_none R text c (length text) (read_front R text e c (length text) r (le_refl _)) refl)

  abbrev newly : Result (C × ℕ) LabelFault → Result C LabelFault
  newly a = onward a (whole_read (length text))

  abbrev parsed : Option (C × List ℕ) → Result (C × ℕ) LabelFault
  parsed o = follow o (λ c rest. Ok (c, length text - length rest)) (Err (NoForm 0))

  module _ (c : C) where
    whole : (d : C) (rest : List ℕ) → 1 ≤ length text → R text ≡ Some (d, rest) → newly (parsed (Some (d, rest))) ≡ Ok c → P text c
    whole d rest l r = cond_both (eqb (length text - length rest) (length text)) _ _ (λ a. a ≡ Ok c → P text c)
        (λ n e.
        let k = eqb-true _ _ n in
        let z : rest ≡ [] = nil_from_length rest (omega arith) in
        let same : d ≡ c = cc in
        subst (P text) same (w.sound text d (r ∙ ap (λ l. Some (d, l)) z)))
        (λ _ e. let z : ◌≡◌ {A = ℕ} 0 1 = cc in absurd (omega arith))

    by_reader : (o : Option (C × List ℕ)) → 1 ≤ length text → R text ≡ o → newly (parsed o) ≡ Ok c → P text c
    by_reader None l r e = let z : ◌≡◌ {A = ℕ} 0 1 = cc in absurd (omega arith)
    by_reader (Some x) l r e = whole x.0 x.1 l r e

    taken : new_by R text ≡ Ok c → P text c
    taken = cond_both (eqb (length text) 0) _ _ (λ a. newly (onward a (λ t. follow (R t) (λ c rest. Ok (c, length t - length rest)) (Err (NoForm 0)))) ≡ Ok c → P text c)
        (λ _ e. let z : ◌≡◌ {A = ℕ} 0 1 = cc in absurd (omega arith))
        (λ n. cond_both (leb (length text) longest) _ _ (λ a. newly (onward a (λ t. follow (R t) (λ c rest. Ok (c, length t - length rest)) (Err (NoForm 0)))) ≡ Ok c → P text c)
        (λ _ e. let m = eqb-false (length text) 0 n in by_reader (R text) (omega (arith, m)) refl e)
        (λ _ e. let z : ◌≡◌ {A = ℕ} 0 1 = cc in absurd (omega arith)))

  pub new_reads : NewReads P text (new_by R text)
  new_reads = record { taken = taken; takes = takes; one_reading = w.unique text }
