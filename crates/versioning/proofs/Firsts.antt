-- The first form that takes a text. Assumes nothing.
use Rattle.std.proofs.Common.{◌≡◌, ℕ, ◌-◌, ◌≤◌, max, cond, eqb, ◌⊎◌, List, length, Some, None, Ok, Err, Option, Result, sym, refl, ap, ◌∙◌, subst, inl, inr, ⊎_elim, arith}
use Rattle.std.proofs.lemmas.Bool.{cond-true, cond-false, cond_both, eq-eqb, ne_eqb, lt-leb, cases_lt, cases_eq}
use Rattle.fault.specs.declared.LabelFault.{LabelFault}
use Rattle.fault.specs.declared.LabelFault.TheVariants.{Empty, TooLong, NoForm}
use Rattle.parsers.specs.Grammar.{Grammar}
use Rattle.parsers.specs.Reading.{Reader, follow}
use Rattle.parsers.specs.Whole.{Whole}
use Rattle.texts.specs.Answers.{onward, longest, entering}
use Rattle.parsers.specs.Answers.{parsed_by, new_by, NewReads}
use Rattle.parsers.proofs.Answering.{enters, new_reads}
use Rattle.versioning.specs.First.{OneOf, ideal, general, complex, FirstForm, as_ideal, as_general, as_complex, NoneOf, RefusedNoForm, bytes_read, further, first_answer, Furthest, first_of, first_parsed}

-- a text has a length that is read, or each form refuses it for its length
abbrev Short : List ℕ → Type 0
Short text = (1 ≤ length text) × (length text ≤ longest)

-- the fault of a text's length, which is not for its form
abbrev ForLength : LabelFault → Type 0
ForLength Empty = Unit {0}
ForLength (TooLong n) = Unit {0}
ForLength (NoForm n) = ⊥

lengths : (text : List ℕ) → Short text ⊎ ((f : LabelFault) × ForLength f × (entering text ≡ Err f))
lengths text = ⊎_elim
    (λ z. inr (Empty, tt, cond-true _ _ _ (eq-eqb (length text) 0 z)))
    (λ nz. ⊎_elim
    (λ l. inr (TooLong longest, tt, cond-false _ _ _ (ne_eqb (length text) 0 nz) ∙ cond-false _ _ _ (lt-leb (length text) longest l)))
    (λ l. inl (omega (arith, nz), l))
    (cases_lt longest (length text)))
    (cases_eq (length text) 0)

module _ {C : Type 0} (R : Reader C) (text : List ℕ) where
  -- `parse` and `new` after the length check
  abbrev front : Option (C × List ℕ) → Result (C × ℕ) LabelFault
  front o = follow o (λ c rest. Ok (c, length text - length rest)) (Err (NoForm 0))

  abbrev newly : Result (C × ℕ) LabelFault → Result C LabelFault
  newly a = onward a (λ r. cond (eqb r.1 (length text)) (Ok r.0) (Err (NoForm r.1)))

  for_length : (f : LabelFault) → entering text ≡ Err f → new_by R text ≡ Err f
  for_length f e =
      let p : parsed_by R text ≡ Err f = rw e refl in
      ap newly p

  -- a text of 1 to 128 bytes is refused at the bytes read
  for_form : Short text → (f : LabelFault) → new_by R text ≡ Err f → f ≡ NoForm (bytes_read R text)
  for_form s f e =
      let p : parsed_by R text ≡ front (R text) = rw (enters text s.0 s.1) refl in
      go (R text) (sym (ap newly p) ∙ e)
    where
      go : (o : Option (C × List ℕ)) → newly (front o) ≡ Err f → f ≡ NoForm (follow o (λ _ rest. length text - length rest) 0)
      go None h = cc
      go (Some x) h = cond_both (eqb (length text - length x.1) (length text)) (Ok x.0) (Err (NoForm (length text - length x.1))) (λ r. r ≡ Err f → f ≡ NoForm (length text - length x.1))
          (λ _ k. let z : ◌≡◌ {A = ℕ} 0 1 = cc in absurd (omega arith))
          (λ _ k. cc) h

ok_not_err : {A : Type 0} {a : A} {f : LabelFault} {r : Result A LabelFault} → r ≡ Ok a → r ≡ Err f → ⊥
ok_not_err p q = let z : ◌≡◌ {A = ℕ} 0 1 = cc in omega arith

-- what is known of a form's `new`
record Asked {D : Type 0} (S : Grammar D) (text : List ℕ) (n : ℕ) (r : Result D LabelFault) : Type 0 where
  reads : NewReads S text r
  long : (f : LabelFault) → entering text ≡ Err f → r ≡ Err f
  place : Short text → (f : LabelFault) → r ≡ Err f → f ≡ NoForm n

asked : {D : Type 0} {R : Reader D} {S : Grammar D} → Whole R S → (text : List ℕ) → Asked S text (bytes_read R text) (new_by R text)
asked {R = R} w text = record { reads = new_reads w text; long = for_length R text; place = for_form R text }

module _ {D : Type 0} {S : Grammar D} {text : List ℕ} {n : ℕ} {r : Result D LabelFault} (a : Asked S text n r) where
  -- a reading has a length that is read
  short_from : {d : D} → r ≡ Ok d → Short text
  short_from e = ⊎_elim (λ s. s) (λ l. absurd (ok_not_err e (a.long l.0 l.2))) (lengths text)

  -- what was refused, the grammar does not yield
  none : {f : LabelFault} → Short text → r ≡ Err f → (d : D) → S text d → ⊥
  none s e d h = ok_not_err (a.reads.takes d s.0 s.1 h) e

module _ {A B C : Type 0} {P : Grammar A} {Q : Grammar B} {R : Grammar C} {text : List ℕ} {l m n : ℕ} where
  first_taken : (i : Result A LabelFault) (g : Result B LabelFault) (k : Result C LabelFault) → Asked P text l i → Asked Q text m g → Asked R text n k
      → (x : OneOf A B C) → first_answer i g k ≡ Ok x → FirstForm P Q R text x
  first_taken (Ok a) g k ai ag ak x e = let same : ideal a ≡ x = cc in subst (FirstForm P Q R text) same (as_ideal (ai.reads.taken a refl))
  first_taken (Err f) (Ok b) k ai ag ak x e =
      let same : general b ≡ x = cc in
      let s = short_from ag refl in
      subst (FirstForm P Q R text) same (as_general (none ai s refl) (ag.reads.taken b refl))
  first_taken (Err f) (Err h) (Ok c) ai ag ak x e =
      let same : complex c ≡ x = cc in
      let s = short_from ak refl in
      subst (FirstForm P Q R text) same (as_complex (none ai s refl) (none ag s refl) (ak.reads.taken c refl))
  first_taken (Err f) (Err h) (Err j) ai ag ak x e = let z : ◌≡◌ {A = ℕ} 0 1 = cc in absurd (omega arith)

  first_takes : (i : Result A LabelFault) (g : Result B LabelFault) (k : Result C LabelFault) → Asked P text l i → Asked Q text m g → Asked R text n k
      → (x : OneOf A B C) → 1 ≤ length text → length text ≤ longest → FirstForm P Q R text x → first_answer i g k ≡ Ok x
  first_takes i g k ai ag ak x low high (as_ideal h) = ap (λ r. first_answer r g k) (ai.reads.takes _ low high h)
  first_takes (Ok a) g k ai ag ak x low high (as_general ni h) = absurd (ni a (ai.reads.taken a refl))
  first_takes (Err f) g k ai ag ak x low high (as_general ni h) = ap (λ r. first_answer (Err f) r k) (ag.reads.takes _ low high h)
  first_takes (Ok a) g k ai ag ak x low high (as_complex ni ng h) = absurd (ni a (ai.reads.taken a refl))
  first_takes (Err f) (Ok b) k ai ag ak x low high (as_complex ni ng h) = absurd (ng b (ag.reads.taken b refl))
  first_takes (Err f) (Err j) k ai ag ak x low high (as_complex ni ng h) = ap (λ r. first_answer (Err f) (Err j) r) (ak.reads.takes _ low high h)

  first_once : {i : Result A LabelFault} {g : Result B LabelFault} {k : Result C LabelFault} → Asked P text l i → Asked Q text m g → Asked R text n k
      → (x y : OneOf A B C) → FirstForm P Q R text x → FirstForm P Q R text y → x ≡ y
  first_once ai ag ak x y (as_ideal h) (as_ideal j) = ap ideal (ai.reads.one_reading _ _ h j)
  first_once ai ag ak x y (as_ideal h) (as_general ni j) = absurd (ni _ h)
  first_once ai ag ak x y (as_ideal h) (as_complex ni ng j) = absurd (ni _ h)
  first_once ai ag ak x y (as_general ni h) (as_ideal j) = absurd (ni _ j)
  first_once ai ag ak x y (as_general ni h) (as_general nj j) = ap general (ag.reads.one_reading _ _ h j)
  first_once ai ag ak x y (as_general ni h) (as_complex nj ng j) = absurd (ng _ h)
  first_once ai ag ak x y (as_complex ni ng h) (as_ideal j) = absurd (ni _ j)
  first_once ai ag ak x y (as_complex ni ng h) (as_general nj j) = absurd (ng _ j)
  first_once ai ag ak x y (as_complex ni ng h) (as_complex nj nh j) = ap complex (ak.reads.one_reading _ _ h j)

  -- three refusals of a text whose length is read
  all_refused : (f h j : LabelFault) → Short text → Asked P text l (Err f) → Asked Q text m (Err h) → Asked R text n (Err j) → further f (further h j) ≡ NoForm (max l (max m n))
  all_refused f h j s ai ag ak = rw (ai.place s f refl, ag.place s h refl, ak.place s j refl) refl

  -- a refusal for no form is of a text whose length is read
  by_form : (f h j : LabelFault) (o : ℕ) → Asked P text l (Err f) → Asked Q text m (Err h) → Asked R text n (Err j) → further f (further h j) ≡ NoForm o → Short text
  by_form f h j o ai ag ak e = ⊎_elim (λ s. s) (λ x. absurd (go x.0 x.1 (ai.long x.0 x.2) (ag.long x.0 x.2) (ak.long x.0 x.2))) (lengths text)
    where
      same : {D : Type 0} {u v : LabelFault} → ◌≡◌ {A = Result D LabelFault} (Err u) (Err v) → u ≡ v
      same p = cc

      clash : (u : LabelFault) → ForLength u → further u (further u u) ≡ NoForm o → ⊥
      clash Empty t q = let z : ◌≡◌ {A = ℕ} 0 1 = cc in omega arith
      clash (TooLong y) t q = let z : ◌≡◌ {A = ℕ} 0 1 = cc in omega arith
      clash (NoForm y) t q = t

      go : (u : LabelFault) → ForLength u → ◌≡◌ {A = Result A LabelFault} (Err f) (Err u) → ◌≡◌ {A = Result B LabelFault} (Err h) (Err u) → ◌≡◌ {A = Result C LabelFault} (Err j) (Err u) → ⊥
      go u t p q r = clash u t (subst (λ v. further v (further u u) ≡ NoForm o) (same p) (subst (λ v. further f (further v u) ≡ NoForm o) (same q) (subst (λ v. further f (further h v) ≡ NoForm o) (same r) e)))

  first_refused : (i : Result A LabelFault) (g : Result B LabelFault) (k : Result C LabelFault) → Asked P text l i → Asked Q text m g → Asked R text n k
      → (o : ℕ) → first_answer i g k ≡ Err (NoForm o) → (1 ≤ length text) × (length text ≤ longest) × NoneOf P Q R text × (o ≡ max l (max m n))
  first_refused (Ok a) g k ai ag ak o e = let z : ◌≡◌ {A = ℕ} 0 1 = cc in absurd (omega arith)
  first_refused (Err f) (Ok b) k ai ag ak o e = let z : ◌≡◌ {A = ℕ} 0 1 = cc in absurd (omega arith)
  first_refused (Err f) (Err h) (Ok c) ai ag ak o e = let z : ◌≡◌ {A = ℕ} 0 1 = cc in absurd (omega arith)
  first_refused (Err f) (Err h) (Err j) ai ag ak o e =
      let p : further f (further h j) ≡ NoForm o = cc in
      let s = by_form f h j o ai ag ak p in
      let q = all_refused f h j s ai ag ak in
      let w : o ≡ max l (max m n) = cc in
      (s.0, s.1, record { no_ideal = none ai s refl; no_general = none ag s refl; no_complex = none ak s refl }, w)

  first_refuses : (i : Result A LabelFault) (g : Result B LabelFault) (k : Result C LabelFault) → Asked P text l i → Asked Q text m g → Asked R text n k
      → 1 ≤ length text → length text ≤ longest → NoneOf P Q R text → (o : ℕ) × (first_answer i g k ≡ Err (NoForm o))
  first_refuses (Ok a) g k ai ag ak low high ns = absurd (ns.no_ideal a (ai.reads.taken a refl))
  first_refuses (Err f) (Ok b) k ai ag ak low high ns = absurd (ns.no_general b (ag.reads.taken b refl))
  first_refuses (Err f) (Err h) (Ok c) ai ag ak low high ns = absurd (ns.no_complex c (ak.reads.taken c refl))
  first_refuses (Err f) (Err h) (Err j) ai ag ak low high ns = (_, ap Err (all_refused f h j (low, high) ai ag ak))

module _ {A B C : Type 0} {I : Reader A} {G : Reader B} {K : Reader C} {P : Grammar A} {Q : Grammar B} {R : Grammar C} (wi : Whole I P) (wg : Whole G Q) (wk : Whole K R) (text : List ℕ) where
  abbrev answer : Result (OneOf A B C) LabelFault
  answer = first_answer (new_by I text) (new_by G text) (new_by K text)

  pub first_reads : NewReads (FirstForm P Q R) text answer
  first_reads = record {
    taken = first_taken _ _ _ (asked wi text) (asked wg text) (asked wk text);
    takes = first_takes _ _ _ (asked wi text) (asked wg text) (asked wk text);
    one_reading = first_once (asked wi text) (asked wg text) (asked wk text);
  }

  pub none_reads : RefusedNoForm P Q R text answer
  none_reads = record {
    refused = λ n e. let h = first_refused _ _ _ (asked wi text) (asked wg text) (asked wk text) n e in (h.0, h.1, h.2);
    refuses = first_refuses _ _ _ (asked wi text) (asked wg text) (asked wk text);
  }

  pub stopped : Furthest I G K text answer
  stopped n e = (first_refused _ _ _ (asked wi text) (asked wg text) (asked wk text) n e).3

-- `parse` of the first form, from those of the three
module _ {A B C : Type 0} (I : Reader A) (G : Reader B) (K : Reader C) (text : List ℕ) where
  by_readers : (i : Option (A × List ℕ)) (g : Option (B × List ℕ)) (k : Option (C × List ℕ))
      → front (first_of I G K) text (follow i (λ a rest. Some (ideal a, rest)) (follow g (λ b rest. Some (general b, rest)) (follow k (λ c rest. Some (complex c, rest)) None))) ≡ first_parsed (front I text i) (front G text g) (front K text k)
  by_readers (Some a) g k = refl
  by_readers None (Some b) k = refl
  by_readers None None (Some c) = refl
  by_readers None None None = refl

  pub parsed_first : parsed_by (first_of I G K) text ≡ first_parsed (parsed_by I text) (parsed_by G text) (parsed_by K text)
  parsed_first = ⊎_elim (λ s. rw (enters text s.0 s.1) (by_readers (I text) (G text) (K text))) (λ l. let e = l.2 in rw e refl) (lengths text)

  module _ (f : LabelFault) (d : ◌≡◌ {A = Result (A × ℕ) LabelFault} (Err f) (parsed_by I text)) where
    pub parsed_general : (b : B) (n : ℕ) → ◌≡◌ {A = Result (B × ℕ) LabelFault} (Ok (b, n)) (parsed_by G text) → ◌≡◌ {A = Result (OneOf A B C × ℕ) LabelFault} (Ok (general b, n)) (parsed_by (first_of I G K) text)
    parsed_general b n e = ap (λ g. first_parsed (Err f) g (parsed_by K text)) e ∙ ap (λ i. first_parsed i (parsed_by G text) (parsed_by K text)) d ∙ sym parsed_first

    module _ (h : LabelFault) (e : ◌≡◌ {A = Result (B × ℕ) LabelFault} (Err h) (parsed_by G text)) where
      pub parsed_third : (k : Result (C × ℕ) LabelFault) → k ≡ parsed_by K text → first_parsed (Err f) (Err h) k ≡ parsed_by (first_of I G K) text
      parsed_third k j = ap (λ x. first_parsed (Err f) (Err h) x) j ∙ ap (λ g. first_parsed (Err f) g (parsed_by K text)) e ∙ ap (λ i. first_parsed i (parsed_by G text) (parsed_by K text)) d ∙ sym parsed_first
