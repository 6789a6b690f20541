-- What the code's lists of chunks and Releases say. Assumes nothing.
use Rattle.std.specs.Prelude.{ℕ, List, map}
use Rattle.texts.specs.declared.table.Span.{Span}
use Rattle.texts.specs.Tables.{rows_of}
use Rattle.chunk.specs.Piece.{Piece}
use Rattle.chunk.specs.declared.chunk.Chunk.{Chunk}
use Rattle.chunk.specs.declared.chunks.Chunks.{Chunks}
use Rattle.chunk.specs.declared.chunks.ChunksIn.{ChunksIn}
use Rattle.chunk.specs.declared.release.Release.{Release}
use Rattle.chunk.specs.Said.{piece_in}

-- chunks by their places, with their text
abbrev pub listed : List ℕ → List (Chunk Span) → List Piece
listed text places = map (piece_in text) places

-- the chunks of a Release, with their text
abbrev pub release_in : List ℕ → Release → List Piece
release_in text r = listed text (rows_of r.chunks)

-- the chunks of a General, with their text
abbrev pub chunks_in : List ℕ → Chunks → List Piece
chunks_in text x = listed text (rows_of x.chunks)

-- the chunks of a list beside its text
abbrev pub listed_in : ChunksIn → List Piece
listed_in x = listed x.text.now (rows_of x.chunks.now)
