-- The ring that reads levels: a level and the further ones, and the further ones behind a sign. Assumes nothing.
use Rattle.std.proofs.Common.{◌≡◌, ℕ, zero, suc, ◌-◌, ◌<◌, ◌≤◌, List, [], ◌∷◌, ◌++◌, map, length, take, Some, None, Option, sym, refl, ap, ◌∙◌, subst, append_assoc, append-nil, arith, length-append}
use mathlib.Core.List.{map-append}
use lib.ListN.{length-map}
use Rattle.std.specs.List.{between}
use Rattle.std.proofs.lemmas.List.{take_at, drop_at}
use Rattle.std.proofs.lemmas.Slice.{between_to_end}
use Rattle.parsers.specs.Reading.{follow, push, many_of}
use Rattle.parsers.proofs.Joining.{some_same}
use Rattle.mess.specs.declared.rest.Rest.{Rest}
use Rattle.mess.specs.declared.mess.Level.{Level}
use Rattle.mess.specs.declared.mess.Mess.{Mess}
use Rattle.mess.specs.declared.sep.Sep.{Sep}
use Rattle.mess.specs.Parts.{MChunk, Parts}
use Rattle.mess.specs.Reading.{sep_of, level_of, signed, next_of, levels_by}
use Rattle.texts.specs.Tables.{rows_of, with_row}
use Rattle.mess.specs.Tables.{MEntry, mchunk_in}
use Rattle.mess.specs.Labels.{mchunks_in, levels_from}
use Rattle.mess.specs.Filled.{Fitted, LevelRead, LevelsRead, LevelsInto, NextInto}
use Rattle.mess.proofs.Chunks.{stays, further_on, ends_on, shorter}
use Rattle.mess.proofs.Filling.{Split, split, one_more, many_stop}

middle : {X : Type 0} (a b c : List X) (i j : ℕ) → length a ≡ i → length (a ++ b) ≡ j → between i j ((a ++ b) ++ c) ≡ b
middle a b c i j h g =
    let n : length b ≡ j - i = omega (arith, length-append a b) in
    ap (between i j) (append_assoc a b c) ∙ ap (take (j - i)) (drop_at a (b ++ c) i h) ∙ take_at b c (j - i) n

-- the MChunks of a level among those of the table
level_at : (text : List ℕ) (before new more : List MEntry) → between (length before) (length (before ++ new)) (map (mchunk_in text) ((before ++ new) ++ more)) ≡ map (mchunk_in text) new
level_at text before new more =
    let m = mchunk_in text in
    let i = length before in
    let j = length (before ++ new) in
    ap (between i j) (map-append m (before ++ new) more ∙ ap (λ l. l ++ map m more) (map-append m before new))
    ∙ middle (map m before) (map m new) (map m more) i j (length-map before m) (ap length (sym (map-append m before new)) ∙ length-map (before ++ new) m)

-- a level, and what follows it
pub joined : {r e s : Rest} (m m₁ m' : Mess) → LevelRead r m.chunks m₁.chunks e → rows_of m₁.levels ≡ rows_of m.levels → NextInto e m₁ m' s → LevelsRead r m m' s
joined {r} {e} {s} m m₁ m' l same n = record {
  follows = further_on l.follows n.follows;
  kept = record {
    more = l.new ++ n.kept.more;
    new = n.kept.new;
    chunks_hold = hold ∙ append_assoc (rows_of m.chunks) l.new n.kept.more;
    levels_hold = n.kept.levels_hold ∙ ap (λ ls. ls ++ n.kept.new) same;
  };
  reads = λ text i k h.
      let before = rows_of m.chunks in
      let x = levels_from (mchunks_in text m'.chunks) (length before) n.kept.new in
      let e₁ : x.first ≡ map (mchunk_in text) l.new =
      n.ends text (length before) ∙ ap (λ es. between (length before) (length (rows_of m₁.chunks)) (map (mchunk_in text) es)) hold
      ∙ ap (λ es. between (length before) (length es) (map (mchunk_in text) ((before ++ l.new) ++ n.kept.more))) l.holds ∙ level_at text before l.new n.kept.more in
      rw (l.reads text i, n.reads text (ends_on text l.follows i) (length before) k (omega (arith, shorter l.follows, l.past, h))) (ap (λ f. Some (record { first = f; further = x.further }, s.bytes.now)) (sym e₁));
}
  where
    hold : rows_of m'.chunks ≡ (rows_of m.chunks ++ l.new) ++ n.kept.more
    hold = n.kept.chunks_hold ∙ ap (λ es. es ++ n.kept.more) l.holds

-- nothing follows
nothing : (r : Rest) (m m' : Mess) → rows_of m'.chunks ≡ rows_of m.chunks → rows_of m'.levels ≡ rows_of m.levels → next_of r.bytes.now ≡ None → NextInto r m m' r
nothing r m m' c l n = record {
  follows = stays r;
  kept = record { more = []; new = []; chunks_hold = c ∙ sym (append-nil _); levels_hold = l ∙ sym (append-nil _) };
  ends = λ text at. sym (between_to_end (mchunks_in text m'.chunks) at (length (rows_of m.chunks)) (few text));
  reads = λ text i at k h. many_stop next_of k r.bytes.now n;
}
  where
    few : (text : List ℕ) → length (mchunks_in text m'.chunks) ≤ length (rows_of m.chunks)
    few text = omega (arith, length-map (rows_of m'.chunks) (mchunk_in text), ap length c)

pub at_end : (r : Rest) (m : Mess) → Split r None → NextInto r m m r
at_end r m e = nothing r m m refl refl (ap next_of e)

-- a level behind a sign, and what follows it
goes_on : (k b : ℕ) (bs rest : List ℕ) (s : Sep) (p : Parts) → 0 < k → Some s ≡ sep_of b → levels_by level_of (k - 1) bs ≡ Some (p, rest) → many_of next_of k (b ∷ bs) ≡ ((s, p.first) ∷ p.further, rest)
goes_on zero b bs rest s p h e f = absurd (omega arith)
goes_on (suc k) b bs rest s p h e f = rw (← e) (go (level_of bs) (subst (λ n. levels_by level_of n bs ≡ Some (p, rest)) (omega arith) f))
  where
    go : (o : Option (List MChunk × List ℕ)) → follow {A = Option (Parts × List ℕ)} o (λ cs rest. let m = many_of next_of k rest in Some (record { first = cs; further = m.0 }, m.1)) None ≡ Some (p, rest)
        → follow (signed (Some s) o) (λ c rest. push c (many_of next_of k rest)) ([], b ∷ bs) ≡ ((s, p.first) ∷ p.further, rest)
    go None f = let z : ◌≡◌ {A = ℕ} 0 1 = cc in absurd (omega arith)
    go (Some r) f = ap (λ x. ((s, x.0.first) ∷ x.0.further, x.1)) (some_same f)

module _ (r d : Rest) (b : ℕ) (p : Split r (Some (b, d))) (m : Mess) where
  pub no_sign : None ≡ sep_of b → NextInto r m m r
  no_sign e = nothing r m m refl refl (ap next_of p.0 ∙ rw (← e))

  module _ (sep : Sep) (e : Some sep ≡ sep_of b) (begin : ℕ) (at : begin ≡ length (rows_of m.chunks)) (m₁ m' : Mess) (c : rows_of m₁.chunks ≡ rows_of m.chunks)
      (f : Fitted r.from m.levels) (l : rows_of m₁.levels ≡ with_row (rows_of m.levels) (record { sep = sep; begin = begin })) where
    abbrev level : Level
    level = record { sep = sep; begin = begin }

    grown : rows_of m₁.levels ≡ rows_of m.levels ++ level ∷ []
    grown = l ∙ one_more (rows_of m.levels) level f (omega (arith, d.short, p.1))

    -- a sign without a level: the table is as before
    pub no_level : (m'' : Mess) → LevelsInto d m₁ m' None → rows_of m''.chunks ≡ rows_of m'.chunks → rows_of m''.levels ≡ take (length (rows_of m.levels)) (rows_of m'.levels) → NextInto r m m'' r
    no_level m'' (n, k, j) x y = nothing r m m'' (x ∙ ap rows_of k ∙ c) (y ∙ ap (take (length (rows_of m.levels))) (ap rows_of j ∙ grown) ∙ take_at (rows_of m.levels) (level ∷ []) _ refl) (ap next_of p.0 ∙ rw (← e, n))

    pub a_level : (s : Rest) → LevelsRead d m₁ m' s → NextInto r m m' s
    a_level s t = record {
      follows = further_on (split b p) t.follows;
      kept = record {
        more = t.kept.more;
        new = level ∷ t.kept.new;
        chunks_hold = t.kept.chunks_hold ∙ ap (λ es. es ++ t.kept.more) c;
        levels_hold = t.kept.levels_hold ∙ ap (λ ls. ls ++ t.kept.new) grown ∙ append_assoc (rows_of m.levels) (level ∷ []) t.kept.new;
      };
      ends = λ text i. ap (λ n. between i n (mchunks_in text m'.chunks)) at;
      reads = λ text i at' k h.
          let q = levels_from (mchunks_in text m'.chunks) begin t.kept.new in
          let z : length (rows_of m₁.chunks) ≡ begin = ap length c ∙ sym at in
          ap (many_of next_of k) p.0
          ∙ goes_on k b d.bytes.now s.bytes.now sep q (omega (arith, ap length p.0, h)) e
          (t.reads text (ends_on text (split {r = r} {s = d} b p) i) (k - 1) (omega (arith, ap length p.0, h)) ∙ ap (λ n. Some (levels_from (mchunks_in text m'.chunks) n t.kept.new, s.bytes.now)) z);
    }
