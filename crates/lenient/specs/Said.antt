-- What the code's chunks and lists of chunks say, under the lenient order. Assumes nothing.
use Rattle.std.specs.Prelude.{List, take}
use Rattle.chunk.specs.Piece.{Piece}
use Rattle.order.specs.Orders.{Order}
use Rattle.chunk.specs.Said.{says}
use Rattle.chunk.specs.Tables.{listed_in}
use Rattle.lenient.specs.declared.ordering.ByLenient.{ByLenient}
use Rattle.lenient.specs.declared.chunks.FirstChunks.{FirstChunks}
use Rattle.lenient.specs.Order.{lenient_order, lenient_balanced}

-- chunks under `cmp_lenient`
abbrev pub leniently : Order ByLenient
leniently = record { Value = Piece; value = λ x. says x.0; answer = lenient_order; laws = lenient_balanced }

-- the first chunks, with their text
abbrev pub first_in : FirstChunks → List Piece
first_in x = take x.count (listed_in x.chunks)
