-- What reading a rest leaves in the tables. Assumes nothing.
use Rattle.std.specs.Prelude.{◌≡◌, ℕ, ◌+◌, ◌*◌, ◌<◌, ◌≤◌, List, ◌++◌, map, length, Some, None, Option}
use Rattle.std.specs.List.{between}
use Rattle.parsers.specs.Reading.{many_of}
use Rattle.mess.specs.declared.rest.Rest.{Rest}
use Rattle.texts.specs.declared.table.Rows.{Rows}
use Rattle.mess.specs.declared.mess.Level.{Level}
use Rattle.mess.specs.declared.mess.Mess.{Mess}
use Rattle.mess.specs.Reading.{level_of, next_of, levels_by}
use Rattle.texts.specs.Tables.{rows_of}
use Rattle.mess.specs.Tables.{MEntry, mchunk_in}
use Rattle.mess.specs.Labels.{mchunks_in, levels_from}
use Rattle.mess.specs.Rests.{Follows, EndsIn}

-- at a place a table has a row for every two bytes at most, so that those of 128 bytes have room
abbrev pub Fitted : {T : Type 0} → ℕ → Rows T → Type 0
Fitted at t = 2 * length (rows_of t) ≤ at

-- so do the table of MChunks and that of levels, each at a place
pub record Room (at to : ℕ) (m : Mess) : Type 0 where
  pub chunks : Fitted at m.chunks
  pub levels : Fitted to m.levels

-- the MChunks of a level, up to a rest behind them
pub record LevelRead (r : Rest) (before after : Rows MEntry) (s : Rest) : Type 0 where
  pub follows : Follows r s
  pub past : r.from < s.from
  pub room : Fitted (s.from + 1) after
  pub new : List MEntry
  pub holds : rows_of after ≡ rows_of before ++ new
  pub reads : (text : List ℕ) → EndsIn text r → level_of r.bytes.now ≡ Some (map (mchunk_in text) new, s.bytes.now)

abbrev pub LevelInto : Rest → Rows MEntry → Rows MEntry → Option Rest → Type 0
LevelInto r before after None = (level_of r.bytes.now ≡ None) × (after ≡ before)
LevelInto r before after (Some s) = LevelRead r before after s

-- both tables keep what they held
pub record Kept (m m' : Mess) : Type 0 where
  pub more : List MEntry
  pub new : List Level
  pub chunks_hold : rows_of m'.chunks ≡ rows_of m.chunks ++ more
  pub levels_hold : rows_of m'.levels ≡ rows_of m.levels ++ new

-- a level and the further ones, up to a rest behind them
pub record LevelsRead (r : Rest) (m m' : Mess) (s : Rest) : Type 0 where
  pub follows : Follows r s
  pub kept : Kept m m'
  pub reads : (text : List ℕ) → EndsIn text r → (k : ℕ) → length r.bytes.now ≤ k
      → levels_by level_of k r.bytes.now ≡ Some (levels_from (mchunks_in text m'.chunks) (length (rows_of m.chunks)) kept.new, s.bytes.now)

abbrev pub LevelsInto : Rest → Mess → Mess → Option Rest → Type 0
LevelsInto r m m' None = (level_of r.bytes.now ≡ None) × (m'.chunks ≡ m.chunks) × (m'.levels ≡ m.levels)
LevelsInto r m m' (Some s) = LevelsRead r m m' s

-- the further levels, which go on from a level that ends with the table of MChunks
pub record NextInto (r : Rest) (m m' : Mess) (s : Rest) : Type 0 where
  pub follows : Follows r s
  pub kept : Kept m m'
  pub ends : (text : List ℕ) (at : ℕ) → (levels_from (mchunks_in text m'.chunks) at kept.new).first ≡ between at (length (rows_of m.chunks)) (mchunks_in text m'.chunks)
  pub reads : (text : List ℕ) → EndsIn text r → (at k : ℕ) → length r.bytes.now ≤ k
      → many_of next_of k r.bytes.now ≡ ((levels_from (mchunks_in text m'.chunks) at kept.new).further, s.bytes.now)
