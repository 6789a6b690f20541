-- The meaning: how two Ideal labels compare. Assumes nothing.
use Rattle.std.specs.Prelude.{List, Some, None, Option}
use Rattle.std.specs.declared.cmp.Ordering.TheVariants.{Less, Equal, Greater}
use Rattle.std.specs.declared.cmp.Ordering.{Ordering}
use Rattle.std.specs.Ordering.{ordering_then, nat_cmp}
use Rattle.order.specs.Lists.{lex}
use Rattle.chunk.specs.Piece.{Piece}
use Rattle.chunk.specs.Semver.{semver_order}
use Rattle.standard.specs.Parts.{Parts}

-- without a Release an Ideal is Greater; two Releases compare chunk by chunk
abbrev pub release_order : Option (List Piece) → Option (List Piece) → Ordering
release_order None None = Equal
release_order None (Some ys) = Greater
release_order (Some xs) None = Less
release_order (Some xs) (Some ys) = lex semver_order xs ys

-- the numbers first, then the Releases
abbrev pub ideal_order : Parts → Parts → Ordering
ideal_order p q = ordering_then (nat_cmp p.major q.major) (ordering_then (nat_cmp p.minor q.minor) (ordering_then (nat_cmp p.patch q.patch) (release_order p.release q.release)))
