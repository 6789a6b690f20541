-- The order of Generals, as a function of their parts, and its laws. Assumes nothing.
use Rattle.std.specs.Prelude.{◌≡◌, ℕ, ◌<◌, List, length, take, Some, None, Option, slice_index_or, refl}
use Rattle.std.specs.declared.cmp.Ordering.TheVariants.{Less, Equal, Greater}
use Rattle.std.specs.declared.cmp.Ordering.{Ordering}
use Rattle.std.proofs.Common.{ap, ◌∙◌}
use Rattle.std.specs.Option.{unwrap_or}
use Rattle.std.specs.Ordering.{ordering_reverse, ordering_then, nat_cmp}
use Rattle.order.specs.Carry.{lex_balanced}
use Rattle.order.specs.Laws.{Balanced}
use Rattle.order.specs.Lists.{lex}
use Rattle.order.specs.Numbers.{number_balanced}
use Rattle.chunk.specs.Piece as piece
use Rattle.chunk.specs.Piece.{Piece}
use Rattle.chunk.specs.Semver.{semver_order, semver_balanced}
use Rattle.lenient.specs.Order.{lenient_order, lenient_balanced, twice}
use Rattle.version.specs.Parts.{Parts}
use Rattle.version.specs.Reading.{last_of}
use Rattle.general.specs.Laws.{then_balanced, by_balanced}
use Rattle.general.specs.Lasts.{last_order, last_balanced}

-- the epoch, absent counting 0
abbrev pub era : Parts → ℕ
era p = unwrap_or p.epoch 0

-- an absent Release is Less; two Releases chunk by chunk
abbrev pub release_order : Option (List Piece) → Option (List Piece) → Ordering
release_order None None = Equal
release_order None (Some ys) = Less
release_order (Some xs) None = Greater
release_order (Some xs) (Some ys) = lex semver_order xs ys

-- with equally many chunks: the chunks, then the Lasts, then the Releases
abbrev pub level_order : Parts → Parts → Ordering
level_order p q = ordering_then (lex lenient_order p.chunks q.chunks) (ordering_then (last_order p.last q.last) (release_order p.release q.release))

-- the chunk at an index; where there is none, 0
abbrev pub chunk_at : List Piece → ℕ → Piece
chunk_at xs i = slice_index_or xs i (piece.numeric 0)

-- a General with more chunks against one with fewer: the chunks of the shorter decide, then the longer's next chunk, made a
-- Last, against the shorter's Last; on a tie the longer is Greater
abbrev pub longer_order : Parts → Parts → Ordering
longer_order p q =
    let n = length q.chunks in
    ordering_then (lex lenient_order (take n p.chunks) q.chunks) (ordering_then (last_order (last_of (chunk_at p.chunks n)) q.last) Greater)

-- which of these it is, by how the counts of chunks compare
abbrev pub sized : Ordering → Parts → Parts → Ordering
sized Equal p q = level_order p q
sized Greater p q = longer_order p q
sized Less p q = ordering_reverse (longer_order q p)

-- two Generals without their epochs
abbrev pub body_order : Parts → Parts → Ordering
body_order p q = sized (nat_cmp (length p.chunks) (length q.chunks)) p q

-- The order of Generals: the epochs first, then as above.
abbrev pub general_order : Parts → Parts → Ordering
general_order p q = ordering_then (nat_cmp (era p) (era q)) (body_order p q)

-- the one with the higher epoch is Greater
pub record HigherEpoch (p q : Parts) (o : Ordering) : Type 0 where
  pub higher : era q < era p → o ≡ Greater
  pub lower : era p < era q → o ≡ Less

release_swapped : (a b : Option (List Piece)) → release_order b a ≡ ordering_reverse (release_order a b)
release_swapped None None = refl
release_swapped None (Some ys) = refl
release_swapped (Some xs) None = refl
release_swapped (Some xs) (Some ys) = (lex_balanced semver_balanced).swapped xs ys

release_itself : (a : Option (List Piece)) → release_order a a ≡ Equal
release_itself None = refl
release_itself (Some xs) = (lex_balanced semver_balanced).itself xs

releases : Balanced release_order
releases = record { swapped = release_swapped; itself = release_itself }

level_balanced : Balanced level_order
level_balanced = then_balanced (by_balanced (lex_balanced lenient_balanced) (λ p. p.chunks)) (then_balanced (by_balanced last_balanced (λ p. p.last)) (by_balanced releases (λ p. p.release)))

sized_swapped : (o : Ordering) (p q : Parts) → sized (ordering_reverse o) q p ≡ ordering_reverse (sized o p q)
sized_swapped Equal p q = level_balanced.swapped p q
sized_swapped Greater p q = refl
sized_swapped Less p q = twice (longer_order q p)

body_balanced : Balanced body_order
body_balanced = record {
  swapped = λ p q. ap (λ o. sized o q p) (number_balanced.swapped (length p.chunks) (length q.chunks)) ∙ sized_swapped (nat_cmp (length p.chunks) (length q.chunks)) p q;
  itself = λ p. ap (λ o. sized o p p) (number_balanced.itself (length p.chunks)) ∙ level_balanced.itself p;
}

pub general_balanced : Balanced general_order
general_balanced = then_balanced (by_balanced number_balanced era) body_balanced
