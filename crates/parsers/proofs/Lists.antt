-- The loop that reads parts joined by dots into a table. Assumes nothing.
use Rattle.std.proofs.Common.{◌≡◌, ℕ, zero, suc, ◌+◌, ◌-◌, ◌*◌, ◌<◌, ◌≤◌, List, [], ◌∷◌, ◌++◌, map, length, get_or, take, drop, Some, None, Option, sym, refl, ap, ◌∙◌, subst, ⊎_elim, append_assoc, append-nil, arith, length-drop}
use lib.ListN.{length-map}
use Rattle.std.specs.List.{between}
use Rattle.std.specs.Option.{option_map}
use Rattle.std.proofs.lemmas.List.{drop_more, drop_all, map_push, length_push, get_or-map}
use Rattle.std.proofs.lemmas.Bool.{cond-true, cond-false, eq-eqb, ne_eqb, lt-ltb, cases_lt}
use Rattle.texts.specs.declared.table.Rows.{Rows}
use Rattle.parsers.specs.Reading.{Reader, push, behind_of, many_of, dotted_of, spelled_of}
use Rattle.texts.specs.Tables.{rows_of, with_row, Taken}
use Rattle.parsers.specs.Places.{Part, said_in, Gives, PerhapsGives, Marked, perhaps_read}

-- parts read before what a reader goes on with
abbrev glue : {C : Type 0} → List C → List C × List ℕ → List C × List ℕ
glue cs r = (cs ++ r.0, r.1)

module _ {C : Type 0} (R : Reader C) (text : List ℕ) (mark at : ℕ) where
  -- behind a mark, at a place
  pub behind_mark : (end : ℕ) → Marked mark text at (Some end) → behind_of mark R (drop at text) ≡ R (drop end text)
  behind_mark end (h, e, i) =
      let n : at + 1 ≡ end = omega arith in
      let z : behind_of mark R (drop at text) ≡ R (drop (at + 1) text) = rw (drop_more text at 0 h) (cond-true _ _ _ (eq-eqb _ _ e)) in
      z ∙ ap (λ k. R (drop k text)) n

  pub no_mark : Marked mark text at None → behind_of mark R (drop at text) ≡ None
  no_mark m = ⊎_elim (λ h. rw (drop_more text at 0 h) (cond-false _ _ _ (ne_eqb _ _ (m h)))) (λ h. rw (drop_all at text h) refl) (cases_lt at (length text))

many_step : {C : Type 0} (D : Reader C) (k : ℕ) (bs : List ℕ) (c : C) (rest : List ℕ) → 0 < k → D bs ≡ Some (c, rest) → (j : ℕ) × (k ≡ j + 1) × (many_of D k bs ≡ push c (many_of D j rest))
many_step D zero bs c rest h e = absurd (omega arith)
many_step D (suc k) bs c rest h e = (k, omega arith, rw e refl)

many_stop : {C : Type 0} (D : Reader C) (k : ℕ) (bs : List ℕ) → D bs ≡ None → many_of D k bs ≡ ([], bs)
many_stop D zero bs e = refl
many_stop D (suc k) bs e = rw e refl

pub said_counted : {P : Type 0} (p : Part P) (text : List ℕ) (t : Rows P) → length (said_in p text t) ≡ length (rows_of t)
said_counted p text t = length-map (rows_of t) (p.says text)

-- the table holds the parts from a place on, up to end; a number bounds what is left
pub record Joined {P : Type 0} (p : Part P) (text : List ℕ) (at end : ℕ) (rows : List P) : Type 0 where
  pub past : at < end
  pub fits : end ≤ length text
  pub room : 2 * length rows ≤ end - at + 1
  pub fuel : ℕ
  pub enough : length text - end ≤ fuel
  pub sofar : dotted_of p.reader (drop at text) ≡ Some (glue (map (p.says text) rows) (many_of (behind_of 46 p.reader) fuel (drop end text)))

module _ {P : Type 0} {p : Part P} {text : List ℕ} where
  pub start : (at end : ℕ) (e : P) → Gives (p.says text) p.reader text at (Some (e, end)) → Joined p text at end (e ∷ [])
  start at end e g = record {
    past = g.1;
    fits = g.2;
    room = omega (arith, g.1);
    fuel = length (drop end text);
    enough = omega (arith, length-drop end text);
    sofar = rw g.0 refl;
  }

  module _ {at end : ℕ} {rows : List P} (j : Joined p text at end rows) where
    pub more : length text ≤ 128 → (behind to : ℕ) (e : P) → Marked 46 text end (Some behind) → Gives (p.says text) p.reader text behind (Some (e, to)) → Joined p text at to (with_row rows e)
    more short behind to e m g =
        let is : with_row rows e ≡ rows ++ e ∷ [] = cond-true _ _ _ (lt-ltb (length rows) 64 (omega (arith, j.room, j.past, m.2, g.1, g.2))) in
        let s = many_step (behind_of 46 p.reader) j.fuel (drop end text) (p.says text e) (drop to text) (omega (arith, j.enough, m.0)) (behind_mark p.reader text 46 end behind m ∙ g.0) in
        subst (Joined p text at to) (sym is) (record {
          past = omega (arith, j.past, m.2, g.1);
          fits = g.2;
          room = omega (arith, j.past, j.room, m.2, g.1, length_push rows e);
          fuel = s.0;
          enough = omega (arith, j.enough, s.1, m.2, g.1);
          sofar = j.sofar ∙ rw (s.2, map_push (p.says text) rows e, append_assoc) refl;
        })

    finish : behind_of 46 p.reader (drop end text) ≡ None → (dotted_of p.reader (drop at text) ≡ Some (map (p.says text) rows, drop end text)) × (at < end) × (end ≤ length text)
    finish e = (j.sofar ∙ rw (many_stop (behind_of 46 p.reader) j.fuel (drop end text) e, append-nil) refl, j.past, j.fits)

    pub at_other : Marked 46 text end None → (dotted_of p.reader (drop at text) ≡ Some (map (p.says text) rows, drop end text)) × (at < end) × (end ≤ length text)
    at_other m = finish (no_mark p.reader text 46 end m)

    pub at_dot : (behind : ℕ) → Marked 46 text end (Some behind) → p.reader (drop behind text) ≡ None → (dotted_of p.reader (drop at text) ≡ Some (map (p.says text) rows, drop end text)) × (at < end) × (end ≤ length text)
    at_dot behind m n = finish (behind_mark p.reader text 46 end behind m ∙ n)

-- what was read, as the text itself
pub spelled_gives : {C : Type 0} (R : Reader C) (text : List ℕ) (at end : ℕ) (c : C) → R (drop at text) ≡ Some (c, drop end text) → at < end → end ≤ length text → spelled_of R (drop at text) ≡ Some (between at end text, drop end text)
spelled_gives R text at end c e l h =
    let n : length (drop at text) - length (drop end text) ≡ end - at = omega (arith, length-drop at text, length-drop end text) in
    rw e (ap (λ k. Some (take k (drop at text), drop end text)) n)

-- a place that a table hands out, as a part with its text
pub handed : {P : Type 0} (p : Part P) (text : List ℕ) (t : Rows P) (i : ℕ) (e : P) (s : p.Value) → Taken (rows_of t) i (Some e) → p.says text e ≡ get_or (said_in p text t) i s
handed p text t i e s h = sym (get_or-map (p.says text) (rows_of t) i e s h.0 ∙ ap (p.says text) (h.1 e))

pub handed_out : {P : Type 0} (p : Part P) (text : List ℕ) (t : Rows P) (i : ℕ) (r : Option P) → Taken (rows_of t) i r → Taken (said_in p text t) i (option_map (p.says text) r)
handed_out p text t i None h = omega (arith, said_counted p text t)
handed_out p text t i (Some e) h = (omega (arith, said_counted p text t, h.0), λ d. sym (handed p text t i e d h))

-- a part that may be absent, from what its reader answers
pub perhaps_gives : {U V : Type 0} (den : U → V) (R : Reader V) (text : List ℕ) (at : ℕ) (r : Option (U × ℕ)) → Gives den R text at r → PerhapsGives den R text at (perhaps_read r at)
perhaps_gives den R text at None g = (rw g refl, omega arith, λ h. h)
perhaps_gives den R text at (Some r) g = (rw g.0 refl, omega (arith, g.1), λ _. g.2)
