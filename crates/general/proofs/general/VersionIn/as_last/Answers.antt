use Rattle.std.proofs.Common.{rules, ◌≡◌, ℕ, List, Some, None, Option, sym, refl, ap, ◌∙◌}
use Rattle.std.specs.Char.{is_ascii_alphabetic}
use Rattle.std.proofs.lemmas.List.{get_or_past}
use Rattle.parsers.proofs.Lists.{handed_out}
use Rattle.texts.specs.declared.table.Rows.{Rows}
use Rattle.texts.specs.declared.table.Span.{Span}
use Rattle.texts.specs.Tables.{Taken, rows_of}
use Rattle.chunk.specs.declared.chunk.Chunk.{Chunk}
use Rattle.chunk.specs.Piece.{numeric}
use Rattle.chunk.specs.Said.{piece_in, chunk_part}
use Rattle.chunk.specs.Tables.{listed}
use Rattle.version.specs.Parts.{LastPart}
use Rattle.version.specs.Reading.{last_of}
use Rattle.general.specs.Order.{chunk_at}
use Rattle.general.proofs.general.VersionIn.as_last.Goals as goal

last_at : (text : List ℕ) (t : Rows (Chunk Span)) (i : ℕ) (o : Option (Chunk Span)) {r : LastPart} → Taken (rows_of t) i o → (None ≡ o → r ≡ last_of (numeric 0)) → ((e : Chunk Span) → Some e ≡ o → r ≡ last_of (piece_in text e)) → r ≡ last_of (chunk_at (listed text (rows_of t)) i)
last_at text t i None h none some = none refl ∙ ap last_of (sym (get_or_past _ _ _ (handed_out (chunk_part is_ascii_alphabetic) text t i None h)))
last_at text t i (Some e) h none some = some e refl ∙ ap last_of (sym ((handed_out (chunk_part is_ascii_alphabetic) text t i (Some e) h).1 (numeric 0)))

pub returns : goal.returns
returns c = last_at c.args.self.now.text.now _ _ _ c.get-chunk.ensures.row (λ e. search rules) (λ x e. search rules)
