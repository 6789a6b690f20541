-- What MChunks that are handed out say, and their order. Assumes nothing.
use Rattle.order.specs.Orders.{Order}
use Rattle.word.specs.declared.Word.{Word}
use Rattle.word.specs.Words.{word_of}
use Rattle.mess.specs.declared.mchunk.MChunk.{MChunk as Lent}
use Rattle.mess.specs.Parts.{MChunk}
use Rattle.mess.specs.Tables.{said_by}
use Rattle.mess.specs.Order.{mchunk_order, mchunk_balanced}

-- an MChunk that is handed out
abbrev pub says : Lent Word → MChunk
says c = said_by word_of c

abbrev pub mchunkwise : Order (Lent Word)
mchunkwise = record { Value = MChunk; value = says; answer = mchunk_order; laws = mchunk_balanced }
