-- What a Complex beside its text hands out. Assumes nothing.
use Rattle.std.specs.Prelude.{List, map, drop}
use Rattle.order.specs.Orders.{Order, listwise}
use Rattle.mess.specs.declared.sep.Sep.{Sep}
use Rattle.mess.specs.Parts.{MChunk, Parts}
use Rattle.texts.specs.Tables.{rows_of}
use Rattle.mess.specs.Tables.{mchunk_in}
use Rattle.mess.specs.Labels.{mchunks_in, levels_from}
use Rattle.complex.specs.declared.views.MessIn.{MessIn}
use Rattle.complex.specs.declared.views.LevelIn.{LevelIn}
use Rattle.complex.specs.Order.{levels_of}
use Rattle.mess.specs.Said.{mchunkwise}

-- the parts from one level on
abbrev pub parts_of : MessIn → Parts
parts_of x = levels_from (mchunks_in x.text.now x.mess.now.chunks) x.begin (drop x.next (rows_of x.mess.now.levels))

-- the MChunks of a level
abbrev pub level_in : LevelIn → List MChunk
level_in x = map (mchunk_in x.text.now) x.chunks.now

-- a further level and its sign
abbrev pub signed_in : Sep × LevelIn → Sep × List MChunk
signed_in x = (x.0, level_in x.1)

-- levels, MChunk by MChunk
abbrev pub levelwise : Order LevelIn
levelwise = listwise mchunkwise level_in

-- all levels of a Complex
abbrev pub all_levels : MessIn → List (List MChunk)
all_levels x = levels_of (parts_of x)
