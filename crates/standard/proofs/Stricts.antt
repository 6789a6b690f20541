-- The order of Ideals is strict. Assumes nothing.
use Rattle.std.proofs.Common.{◌≡◌, List, Some, None, Option, Equal, refl}
use Rattle.std.specs.Ordering.{ordering_reverse}
use Rattle.order.specs.Laws.{NotGreater, Strict}
use Rattle.order.specs.Lists.{lex}
use Rattle.order.specs.Carry.{lex_strict, then_strict, by_strict}
use Rattle.order.specs.Numbers.{number_strict}
use Rattle.chunk.specs.Piece.{Piece}
use Rattle.chunk.specs.Semver.{semver_order, semver_strict}
use Rattle.standard.specs.Parts.{Parts}
use Rattle.standard.specs.Order.{release_order}
use Rattle.standard.specs.Theorems.{StrictStands}

identifiers : Strict (lex semver_order)
identifiers = lex_strict semver_strict

release_swapped : (o p : Option (List Piece)) → release_order p o ≡ ordering_reverse (release_order o p)
release_swapped None None = refl
release_swapped None (Some ys) = refl
release_swapped (Some xs) None = refl
release_swapped (Some xs) (Some ys) = identifiers.swapped xs ys

release_itself : (o : Option (List Piece)) → release_order o o ≡ Equal
release_itself None = refl
release_itself (Some xs) = identifiers.itself xs

release_carried : (o p q : Option (List Piece)) → NotGreater (release_order o p) → NotGreater (release_order p q) → NotGreater (release_order o q)
release_carried None None q h g = g
release_carried None (Some ys) q h g = absurd h
release_carried (Some xs) p None h g = tt
release_carried (Some xs) None (Some zs) h g = absurd g
release_carried (Some xs) (Some ys) (Some zs) h g = identifiers.carried xs ys zs h g

pub release_strict : Strict release_order
release_strict = record { swapped = release_swapped; itself = release_itself; carried = release_carried }

pub strict_stands : StrictStands
strict_stands =
    then_strict (by_strict number_strict (λ (p : Parts). p.major)) (then_strict (by_strict number_strict (λ (p : Parts). p.minor))
    (then_strict (by_strict number_strict (λ (p : Parts). p.patch)) (by_strict release_strict (λ (p : Parts). p.release))))
