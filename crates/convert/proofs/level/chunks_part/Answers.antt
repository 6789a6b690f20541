use Rattle.std.proofs.Common.{rules, ◌≡◌, ℕ, ◌+◌, ◌<◌, List, [], ◌∷◌, ◌++◌, map, length, get_or, Some, None, Option, refl, ◌∙◌}
use Rattle.std.specs.Borrow.{Bor}
use Rattle.std.specs.Option.{option_map}
use Rattle.chunk.specs.Piece.{Piece}
use Rattle.texts.specs.Tables.{Taken}
use Rattle.chunk.specs.declared.chunk.Chunk.{Chunk}
use Rattle.chunk.specs.Said.{says}
use Rattle.mess.specs.Parts.{MChunk}
use Rattle.convert.specs.Convert.{chunk_mchunk}
use Rattle.convert.proofs.Handing.{among, behind_all}
use Rattle.convert.proofs.level.chunks_part.Goals as goal

handed : (xs : List Piece) (i : ℕ) (o : Option (Chunk (Bor (List ℕ)))) (y d : MChunk) {r : MChunk} → Taken xs i (option_map says o) → i < length xs + 1 → (None ≡ o → r ≡ y) → ((x : Chunk (Bor (List ℕ))) → Some x ≡ o → r ≡ chunk_mchunk (says x)) → r ≡ get_or (map chunk_mchunk xs ++ y ∷ []) i d
handed xs i None y d h l none some = none refl ∙ behind_all chunk_mchunk xs i y d h l
handed xs i (Some x) y d h l none some = some x refl ∙ among chunk_mchunk xs i (says x) y d h

pub returns : goal.returns
returns c = handed _ _ _ _ _ c.get.ensures c.requires (λ e. search rules) (λ x e. search rules)
