-- What the code's MChunks and tables say of a text. Assumes nothing.
use Rattle.std.specs.Prelude.{ℕ, List}
use Rattle.std.specs.Borrow.{Bor}
use Rattle.texts.specs.declared.table.Span.{Span}
use Rattle.texts.specs.Tables.{bytes_in}
use Rattle.mess.specs.declared.mchunk.MChunk.{MChunk as Lent}
use Rattle.mess.specs.declared.mchunk.MChunk.TheVariants.{Digits, Rev, Plain}
use Rattle.mess.specs.Parts.{MChunk, digits, rev, plain}

-- an MChunk of the code, by what its run says
abbrev pub said_by : {T : Type 0} → (T → List ℕ) → Lent T → MChunk
said_by run (Digits n s) = digits n (run s)
said_by run (Rev n s) = rev n (run s)
said_by run (Plain s) = plain (run s)

-- an MChunk of a table
abbrev pub MEntry : Type 0
MEntry = Lent Span

-- an MChunk with its run as a slice of the label
abbrev pub sliced : Lent (Bor (List ℕ)) → MChunk
sliced c = said_by (λ s. s.now) c

-- an MChunk of a table, with its text
abbrev pub mchunk_in : List ℕ → MEntry → MChunk
mchunk_in text c = said_by (bytes_in text) c

abbrev pub text_of : MChunk → List ℕ
text_of (digits n w) = w
text_of (rev n w) = w
text_of (plain w) = w
