-- Reading levels into tables. Assumes nothing.
use Rattle.std.proofs.Common.{◌≡◌, ℕ, zero, suc, ◌+◌, ◌-◌, ◌*◌, ◌<◌, ◌≤◌, ltb, List, [], ◌∷◌, ◌++◌, map, length, drop, Some, None, Option, sym, refl, ap, ◌∙◌, append_assoc, append-nil, arith, length-append}
use Rattle.std.proofs.lemmas.List.{map_push}
use Rattle.std.proofs.lemmas.Bool.{cond-true, cond-false, lt-ltb, ne_eqb}
use Rattle.parsers.specs.Reading.{Reader, push, behind_of, many_of}
use Rattle.mess.specs.declared.rest.Rest.{Rest}
use Rattle.texts.specs.declared.table.Rows.{Rows}
use Rattle.mess.specs.Parts.{MChunk}
use Rattle.mess.specs.Reading.{mchunk_of}
use Rattle.texts.specs.Tables.{rows_of, with_row}
use Rattle.mess.specs.Tables.{MEntry, mchunk_in}
use Rattle.mess.specs.Rests.{Follows, EndsIn, GivesIn}
use Rattle.mess.specs.Filled.{Fitted, LevelRead}
use Rattle.mess.proofs.Chunks.{stays, further_on, ends_on, shorter, behind}

-- a table with room takes one row more
pub one_more : {T : Type 0} {at : ℕ} (rows : List T) (x : T) → 2 * length rows ≤ at → at < 128 → with_row rows x ≡ rows ++ x ∷ []
one_more rows x f h = cond-true (ltb (length rows) 64) (rows ++ x ∷ []) rows (lt-ltb _ _ (omega (arith, f)))

pub fits_more : {T : Type 0} {at to : ℕ} (rows more : List T) (x : T) → 2 * length rows ≤ at → at < 128 → at + 2 ≤ to → more ≡ with_row rows x → 2 * length more ≤ to
fits_more rows more x f h l e = let n : length more ≡ length rows + 1 = ap length (e ∙ one_more rows x f h) ∙ length-append rows (x ∷ []) in omega (arith, f, n)

-- the first byte, and the rest behind it
abbrev pub Split : Rest → Option (ℕ × Rest) → Type 0
Split r None = r.bytes.now ≡ []
Split r (Some x) = (r.bytes.now ≡ x.0 ∷ x.1.bytes.now) × (x.1.from ≡ r.from + 1)

pub split : {r s : Rest} (b : ℕ) → Split r (Some (b, s)) → Follows r s
split b (e, p) = let n : 1 ≤ length _ = omega (arith, ap length e) in behind 1 n (sym (ap (drop 1) e)) p

-- parts read before what a reader goes on with
abbrev glue : {C : Type 0} → List C → List C × List ℕ → List C × List ℕ
glue cs r = (cs ++ r.0, r.1)

many_step : {C : Type 0} (D : Reader C) (k : ℕ) (bs : List ℕ) (c : C) (rest : List ℕ) → 0 < k → D bs ≡ Some (c, rest) → many_of D k bs ≡ push c (many_of D (k - 1) rest)
many_step D zero bs c rest h e = absurd (omega arith)
many_step D (suc k) bs c rest h e = let n : k ≡ suc k - 1 = omega arith in rw e (ap (λ j. push c (many_of D j rest)) n)

pub many_stop : {C : Type 0} (D : Reader C) (k : ℕ) (bs : List ℕ) → D bs ≡ None → many_of D k bs ≡ ([], bs)
many_stop D zero bs e = refl
many_stop D (suc k) bs e = rw e refl

-- an MChunk behind a dot
abbrev dot_of : Reader MChunk
dot_of = behind_of 46 mchunk_of

no_dot : (bs : List ℕ) → ((rest : List ℕ) → bs ≡ 46 ∷ rest → ⊥) → dot_of bs ≡ None
no_dot [] n = refl
no_dot (b ∷ bs) n = cond-false _ _ _ (ne_eqb b 46 (λ e. n bs (ap (λ x. x ∷ bs) e)))

-- from where the loop began, the table holds what was read since; a number bounds what is left
pub record Filling (s : Rest) (before : Rows MEntry) (e : Rest) (t : Rows MEntry) : Type 0 where
  pub follows : Follows s e
  pub room : Fitted (e.from + 1) t
  pub new : List MEntry
  pub holds : rows_of t ≡ rows_of before ++ new
  pub fuel : ℕ
  pub enough : length e.bytes.now ≤ fuel
  pub sofar : (text : List ℕ) → EndsIn text s → many_of dot_of (length s.bytes.now) s.bytes.now ≡ glue (map (mchunk_in text) new) (many_of dot_of fuel e.bytes.now)

-- the first MChunk
module _ {r s : Rest} (chunks t : Rows MEntry) (first : MEntry) (f : Fitted r.from chunks) (g : GivesIn mchunk_in mchunk_of r (Some (first, s))) (e : rows_of t ≡ with_row (rows_of chunks) first) where
  near : r.from < 128
  near = omega (arith, r.short, g.1, g.0.fits)

  pub start : Filling s t s t
  start = record {
    follows = stays s;
    room = fits_more (rows_of chunks) (rows_of t) first f near (omega (arith, g.1)) e;
    new = [];
    holds = sym (append-nil _);
    fuel = length s.bytes.now;
    enough = omega arith;
    sofar = λ text d. refl;
  }

  finish : {v : Rest} {u : Rows MEntry} → Filling s t v u → dot_of v.bytes.now ≡ None → LevelRead r chunks u v
  finish {v} j n = record {
    follows = further_on g.0 j.follows;
    past = omega (arith, g.1, j.follows.past);
    room = j.room;
    new = first ∷ j.new;
    holds = j.holds ∙ ap (λ l. l ++ j.new) (e ∙ one_more (rows_of chunks) first f near) ∙ append_assoc (rows_of chunks) (first ∷ []) j.new;
    reads = λ text d. rw (g.2 text d) (ap (λ m. Some (push (mchunk_in text first) m)) (j.sofar text (ends_on text g.0 d) ∙ rw (many_stop dot_of j.fuel v.bytes.now n, append-nil)));
  }

  module _ {v : Rest} (u : Rows MEntry) (j : Filling s t v u) where
    pub at_other : ((bs : List ℕ) → v.bytes.now ≡ 46 ∷ bs → ⊥) → LevelRead r chunks u v
    at_other n = finish j (no_dot v.bytes.now n)

    pub at_dot : (d : Rest) → Split v (Some (46, d)) → mchunk_of d.bytes.now ≡ None → LevelRead r chunks u v
    at_dot d (e, p) n = finish j (ap dot_of e ∙ n)

-- one more
pub more : {s e d to : Rest} {before t u : Rows MEntry} (x : MEntry) → Filling s before e t → Split e (Some (46, d)) → GivesIn mchunk_in mchunk_of d (Some (x, to)) → rows_of u ≡ with_row (rows_of t) x → Filling s before to u
more {s} {e} {d} {to} {before} {t} {u} x j p g q =
    let f : Follows e d = split 46 p in
    let few : e.from + 1 < 128 = omega (arith, d.short, g.0.fits, g.1, p.1) in
    record {
      follows = further_on j.follows (further_on f g.0);
      room = fits_more (rows_of t) (rows_of u) x j.room few (omega (arith, p.1, g.1)) q;
      new = j.new ++ x ∷ [];
      holds = q ∙ one_more (rows_of t) x j.room few ∙ ap (λ l. l ++ x ∷ []) j.holds ∙ append_assoc (rows_of before) j.new (x ∷ []);
      fuel = j.fuel - 1;
      enough = omega (arith, j.enough, shorter f, shorter g.0, g.1, p.1);
      sofar = λ text i.
          let m = many_step dot_of j.fuel e.bytes.now (mchunk_in text x) to.bytes.now (omega (arith, j.enough, shorter f, shorter g.0, g.1, p.1)) (ap dot_of p.0 ∙ g.2 text (ends_on text (further_on j.follows f) i)) in
          j.sofar text i ∙ rw (m, map_push (mchunk_in text) j.new x, append_assoc);
    }
