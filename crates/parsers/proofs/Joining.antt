-- Readers that are made of readers.
use Rattle.std.proofs.Common.{◌≡◌, ℕ, zero, suc, ◌-◌, ◌≤◌, Bool, false, ◌||◌, eqb, List, [], ◌∷◌, ◌++◌, length, take, IfSome, Some, None, Option, sym, refl, ap, ◌∙◌, subst, append_assoc, append-nil, le_refl, arith, length-append}
use lib.Seq.{take-append_seam}
use Rattle.std.proofs.lemmas.Bool.{cond-true, cond-false, cond_both, eqb-true, eq-eqb, or_parts}
use Rattle.parsers.specs.Grammar.{Grammar, Perhaps, absent, present, Behind, behind, Many, none, more, Dotted, dotted, Spelled, spelled}
use Rattle.parsers.specs.Whole.{Whole}
use Rattle.parsers.specs.Reading.{Reader, follow, push, perhaps_of, behind_of, many_of, dotted_of, spelled_of}

-- no byte of p stands in front; a byte that is not of p stands in front
abbrev pub Stops : (ℕ → Bool) → List ℕ → Type 0
Stops p [] = Unit {0}
Stops p (b ∷ bs) = p b ≡ false

abbrev pub Starts : (ℕ → Bool) → List ℕ → Type 0
Starts p [] = ⊥
Starts p (b ∷ bs) = p b ≡ false

abbrev pub or : ℕ → (ℕ → Bool) → ℕ → Bool
or mark p b = p b || eqb b mark

pub stops_weaker : (p q : ℕ → Bool) → ((b : ℕ) → p b ≡ false → q b ≡ false) → (rest : List ℕ) → Stops p rest → Stops q rest
stops_weaker p q f [] s = tt
stops_weaker p q f (b ∷ bs) s = f b s

pub follow_found : {C A : Type 0} (o : Option (C × List ℕ)) (f : C → List ℕ → A) (a : A) (Q : C × List ℕ → Type 0) (P : A → Type 0) → IfSome o Q → ((c : C) (rest : List ℕ) → Q (c, rest) → P (f c rest)) → P a → P (follow o f a)
follow_found None f a Q P q x y = y
follow_found (Some r) f a Q P q x y = x r.0 r.1 q

-- a text has a part in front, and a rest
abbrev pub Front : {C : Type 0} → Grammar C → List ℕ → C × List ℕ → Type 0
Front P bs r = (w : List ℕ) × P w r.0 × (bs ≡ w ++ r.1)

-- what a reader reads is in front, and it reads what stands before no byte of p
pub record Reads {C : Type 0} (R : Reader C) (P : Grammar C) (p : ℕ → Bool) : Type 0 where
  pub sound : (bs : List ℕ) → IfSome (R bs) (Front P bs)
  pub complete : {w : List ℕ} {c : C} (rest : List ℕ) → P w c → Stops p rest → R (w ++ rest) ≡ Some (c, rest)

pub stops_many : {C : Type 0} {P : Grammar C} {w : List ℕ} {cs : List C} (p : ℕ → Bool) → ((w : List ℕ) (c : C) → P w c → Starts p w) → (rest : List ℕ) → Many P w cs → Stops p rest → Stops p (w ++ rest)
stops_many p starts rest none s = s
stops_many p starts rest (more {v = []} f m) s = absurd (starts _ _ f)
stops_many p starts rest (more {v = b ∷ v} f m) s = starts _ _ f

module _ {C : Type 0} {R : Reader C} {P : Grammar C} {p : ℕ → Bool} (reads : Reads R P p) where
  pub perhaps_sound : (bs : List ℕ) → Front (Perhaps P) bs (perhaps_of R bs)
  perhaps_sound bs = follow_found (R bs) (λ c rest. (Some c, rest)) (None, bs) _ (Front (Perhaps P) bs) (reads.sound bs) (λ c rest h. (h.0, present h.1, h.2)) ([], absent, refl)

  pub perhaps_complete : {w : List ℕ} {o : Option C} (rest : List ℕ) → Perhaps P w o → Stops p rest → R rest ≡ None → perhaps_of R (w ++ rest) ≡ (o, rest)
  perhaps_complete rest absent s n = rw n
  perhaps_complete rest (present f) s n = rw (reads.complete rest f s)

  behind_sound : (mark : ℕ) (bs : List ℕ) → IfSome (behind_of mark R bs) (Front (Behind mark P) bs)
  behind_sound mark [] = tt
  behind_sound mark (b ∷ bs) = cond_both (eqb b mark) _ _ (λ o. IfSome o (Front (Behind mark P) (b ∷ bs))) (λ e. go (R bs) (eqb-true b mark e) (reads.sound bs)) (λ _. tt)
    where
      go : (o : Option (C × List ℕ)) → b ≡ mark → IfSome o (Front P bs) → IfSome o (Front (Behind mark P) (b ∷ bs))
      go None e h = tt
      go (Some r) e h = (mark ∷ h.0, behind h.1, cc (e, h.2))

  behind_complete : {mark : ℕ} {w : List ℕ} {c : C} (rest : List ℕ) → Behind mark P w c → Stops p rest → behind_of mark R (w ++ rest) ≡ Some (c, rest)
  behind_complete {mark} rest (behind f) s = cond-true _ _ _ (eq-eqb mark mark refl) ∙ reads.complete rest f s

  pub behind_reads : (mark : ℕ) → Reads (behind_of mark R) (Behind mark P) p
  behind_reads mark = record { sound = behind_sound mark; complete = behind_complete }

  pub many_sound : (k : ℕ) (bs : List ℕ) → Front (Many P) bs (many_of R k bs)
  many_sound zero bs = ([], none, refl)
  many_sound (suc k) bs = follow_found (R bs) (λ c rest. push c (many_of R k rest)) ([], bs) _ (Front (Many P) bs) (reads.sound bs)
      (λ c rest h. let ih = many_sound k rest in (h.0 ++ ih.0, more h.1 ih.1, h.2 ∙ ap (λ l. h.0 ++ l) ih.2 ∙ sym (append_assoc h.0 ih.0 _)))
      ([], none, refl)

  -- where each part starts with a byte that ends the part before it
  pub many_complete : ((w : List ℕ) (c : C) → P w c → Starts p w) → (k : ℕ) {w : List ℕ} {cs : List C} (rest : List ℕ) → Many P w cs → Stops p rest → R rest ≡ None → length (w ++ rest) ≤ k → many_of R k (w ++ rest) ≡ (cs, rest)
  many_complete starts zero rest none s n h = refl
  many_complete starts (suc k) rest none s n h = rw n
  many_complete starts zero rest (more {v = []} f m) s n h = absurd (starts _ _ f)
  many_complete starts (suc k) rest (more {v = []} f m) s n h = absurd (starts _ _ f)
  many_complete starts zero rest (more {v = b ∷ v} f m) s n h = absurd (omega arith)
  many_complete starts (suc k) rest (more {v = b ∷ v} {w = w} {c = c} f m) s n h =
      let l : length (w ++ rest) ≤ k = omega (arith, simp length-append at h, length-append w rest) in
      rw (append_assoc, reads.complete (w ++ rest) f (stops_many p starts rest m s)) (ap (push c) (many_complete starts k rest m s n l))

pub none_behind : {C : Type 0} (R : Reader C) (mark : ℕ) (rest : List ℕ) → Stops (λ b. eqb b mark) rest → behind_of mark R rest ≡ None
none_behind R mark [] s = refl
none_behind R mark (b ∷ rest) s = cond-false _ _ _ s

pub starts_behind : {C : Type 0} {P : Grammar C} {mark : ℕ} (p : ℕ → Bool) → p mark ≡ false → (w : List ℕ) (c : C) → Behind mark P w c → Starts p w
starts_behind p m _ _ (behind f) = m

pub stops_perhaps : {C : Type 0} {P : Grammar C} {mark : ℕ} {w : List ℕ} {o : Option C} (p : ℕ → Bool) (rest : List ℕ) → Perhaps (Behind mark P) w o → p mark ≡ false → Stops p rest → Stops p (w ++ rest)
stops_perhaps p rest absent m s = s
stops_perhaps p rest (present (behind f)) m s = m

module _ {C : Type 0} {R : Reader C} {P : Grammar C} {p : ℕ → Bool} (reads : Reads R P p) (m : p 46 ≡ false) where
  dotted_complete : {w : List ℕ} {cs : List C} (rest : List ℕ) → Dotted P w cs → Stops (or 46 p) rest → dotted_of R (w ++ rest) ≡ Some (cs, rest)
  dotted_complete rest (dotted {w = w} {c = c} f g) s =
      let t : Stops p rest = stops_weaker (or 46 p) p (λ b h. (or_parts _ _ h).0) rest s in
      let n : behind_of 46 R rest ≡ None = none_behind R 46 rest (stops_weaker (or 46 p) (λ b. eqb b 46) (λ b h. (or_parts _ _ h).1) rest s) in
      let l : length (w ++ rest) ≤ length (w ++ rest) = le_refl _ in
      let e1 = reads.complete (w ++ rest) f (stops_many p (starts_behind p m) rest g t) in
      let e2 = many_complete (behind_reads reads 46) (starts_behind p m) (length (w ++ rest)) rest g t n l in
      rw (append_assoc, e1, e2)

  pub dotted_reads : Reads (dotted_of R) (Dotted P) (or 46 p)
  dotted_reads = record {
    sound = λ bs. follow_found (R bs) (λ c rest. Some (push c (many_of (behind_of 46 R) (length rest) rest))) None _ (λ o. IfSome o (Front (Dotted P) bs)) (reads.sound bs)
        (λ c rest h. let ih = many_sound (behind_reads reads 46) (length rest) rest in (h.0 ++ ih.0, dotted h.1 ih.1, h.2 ∙ ap (λ l. h.0 ++ l) ih.2 ∙ sym (append_assoc h.0 ih.0 _)))
        tt;
    complete = dotted_complete;
  }

-- the text of a part
took : (bs w rest : List ℕ) → bs ≡ w ++ rest → take (length bs - length rest) bs ≡ w
took bs w rest e =
    let n : length bs - length rest ≡ length w = omega (arith, ap length e, length-append w rest) in
    ap (λ k. take k bs) n ∙ rw e (take-append_seam w rest)

module _ {C : Type 0} {R : Reader C} {P : Grammar C} {p : ℕ → Bool} (reads : Reads R P p) where
  pub spelled_reads : Reads (spelled_of R) (Spelled P) p
  spelled_reads = record {
    sound = λ bs. follow_found (R bs) (λ _ rest. Some (take (length bs - length rest) bs, rest)) None _ (λ o. IfSome o (Front (Spelled P) bs)) (reads.sound bs)
        (λ c rest h. (h.0, subst (Spelled P h.0) (sym (took bs h.0 rest h.2)) (spelled h.1), h.2)) tt;
    complete = spelled_complete;
  }
    where
      spelled_complete : {w c : List ℕ} (rest : List ℕ) → Spelled P w c → Stops p rest → spelled_of R (w ++ rest) ≡ Some (c, rest)
      spelled_complete {w} rest (spelled f) s = rw (reads.complete rest f s, took (w ++ rest) w rest refl)

pub some_same : {A : Type 0} {x y : A} → ◌≡◌ {A = Option A} (Some x) (Some y) → x ≡ y
some_same e = cc

pub whole : {C : Type 0} {R : Reader C} {P : Grammar C} → ((bs : List ℕ) → IfSome (R bs) (Front P bs)) → ((text : List ℕ) (c : C) → P text c → R text ≡ Some (c, [])) → Whole R P
whole {C} {R} {P} sound complete = record {
  sound = λ text c e. let h : Front P text (c, []) = subst (λ o. IfSome o (Front P text)) e (sound text) in subst (λ l. P l c) (sym (h.2 ∙ append-nil h.0)) h.1;
  complete = complete;
  unique = λ text c d f g. ap (λ r. r.0) (some_same (sym (complete text c f) ∙ complete text d g));
}
