-- What converted labels say. Assumes nothing.
use Rattle.std.specs.Prelude.{List, [], ◌∷◌, ◌++◌, map}
use Rattle.chunk.specs.Tables.{listed_in}
use Rattle.general.specs.Views as general
use Rattle.ideals.specs.Views as ideal
use Rattle.mess.specs.declared.sep.Sep.{Sep}
use Rattle.mess.specs.Parts.{MChunk, Parts}
use Rattle.order.specs.Orders.{Order, listwise}
use Rattle.complex.specs.Order.{levels_of}
use Rattle.mess.specs.Said.{says, mchunkwise}
use Rattle.complex.specs.Views as complex
use Rattle.convert.specs.declared.level.Level.{Level}
use Rattle.convert.specs.declared.level.Level.TheVariants.{Read, Numbers, Chunks, Release, One}
use Rattle.convert.specs.declared.levels.Levels.{Levels}
use Rattle.convert.specs.declared.levels.Levels.TheVariants.{Complex, Ideal, General, Body}
use Rattle.convert.specs.Convert.{number_mchunk, chunk_mchunk, last_mchunk, ideal_to_mess, body_to_mess, general_to_mess}

-- the MChunks of a level
abbrev pub level_said : Level → List MChunk
level_said (Read l) = complex.level_in l
level_said (Numbers major minor patch) = number_mchunk major ∷ number_mchunk minor ∷ number_mchunk patch ∷ []
level_said (Chunks cs last) = map chunk_mchunk (listed_in cs) ++ last_mchunk (general.last_said last) ∷ []
level_said (Release r) = map chunk_mchunk (listed_in r)
level_said (One c) = says c ∷ []

-- a Complex, or a label as it is converted
abbrev pub mess_said : Levels → Parts
mess_said (Complex x) = complex.parts_of x
mess_said (Ideal x) = ideal_to_mess (ideal.parts_of x)
mess_said (General x) = general_to_mess (general.parts_of x)
mess_said (Body x) = body_to_mess (general.parts_of x)

-- a further level and its sign
abbrev pub signed_said : Sep × Level → Sep × List MChunk
signed_said x = (x.0, level_said x.1)

-- levels, MChunk by MChunk
abbrev pub levelwise : Order Level
levelwise = listwise mchunkwise level_said

-- all levels, without their signs
abbrev pub levels_said : Levels → List (List MChunk)
levels_said x = levels_of (mess_said x)
