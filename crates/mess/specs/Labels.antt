-- What the code's Complexes say of their texts. Assumes nothing.
use Rattle.std.specs.Prelude.{ℕ, zero, suc, List, [], ◌∷◌, map, length, drop}
use Rattle.std.specs.List.{between}
use Rattle.texts.specs.declared.table.Rows.{Rows}
use Rattle.mess.specs.declared.mess.Level.{Level}
use Rattle.mess.specs.declared.mess.Mess.{Mess}
use Rattle.mess.specs.Parts.{MChunk, Parts}
use Rattle.texts.specs.Tables.{rows_of}
use Rattle.mess.specs.Tables.{MEntry, mchunk_in}

-- the MChunks of a table, with their text
abbrev pub mchunks_in : List ℕ → Rows MEntry → List MChunk
mchunks_in text t = map (mchunk_in text) (rows_of t)

-- the levels from the one that begins at an index on: each ends where the next begins, and the last at the end
abbrev pub levels_from : List MChunk → ℕ → List Level → Parts
levels_from cs at [] = record { first = drop at cs; further = [] }
levels_from cs at (l ∷ ls) = record { first = between at l.begin cs; further = (l.sep, (levels_from cs l.begin ls).first) ∷ (levels_from cs l.begin ls).further }

-- the parts, with their text
abbrev pub parts_in : List ℕ → Mess → Parts
parts_in text m = levels_from (mchunks_in text m.chunks) 0 (rows_of m.levels)

-- the parts and the bytes read
abbrev pub read_in : List ℕ → Mess × ℕ → Parts × ℕ
read_in text x = (parts_in text x.0, x.1)

-- where the MChunks of a further level begin, or where all of them end
abbrev pub begin_in : ℕ → List Level → ℕ → ℕ
begin_in n [] i = n
begin_in n (l ∷ ls) zero = l.begin
begin_in n (l ∷ ls) (suc i) = begin_in n ls i

abbrev pub begin_of : Mess → ℕ → ℕ
begin_of m i = begin_in (length (rows_of m.chunks)) (rows_of m.levels) i
