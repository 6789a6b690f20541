-- The strict order of what chunks say, and its laws. Assumes nothing.
use Rattle.std.specs.Prelude.{◌≡◌, List, Some, None, Option, refl}
use Rattle.std.specs.declared.cmp.Ordering.TheVariants.{Less, Equal, Greater}
use Rattle.std.specs.declared.cmp.Ordering.{Ordering}
use Rattle.std.specs.Ordering.{ordering_reverse, nat_cmp}
use Rattle.chunk.specs.Piece.{Piece, numeric, alphanum}
use Rattle.order.specs.Carry.{lex_strict}
use Rattle.order.specs.Laws.{NotGreater, Balanced, Strict}
use Rattle.order.specs.Lists.{lex}
use Rattle.order.specs.Numbers.{number_strict}

-- Numeric by number, Alphanum by text, Numeric below Alphanum
abbrev pub semver_order : Piece → Piece → Ordering
semver_order (numeric m) (numeric n) = nat_cmp m n
semver_order (numeric m) (alphanum t) = Less
semver_order (alphanum s) (numeric n) = Greater
semver_order (alphanum s) (alphanum t) = lex nat_cmp s t

-- two lists of chunks where each may be absent; an absent one against one that is there gives the first answer
abbrev pub perhaps_order : Ordering → Option (List Piece) → Option (List Piece) → Ordering
perhaps_order absent None None = Equal
perhaps_order absent None (Some ys) = absent
perhaps_order absent (Some xs) None = ordering_reverse absent
perhaps_order absent (Some xs) (Some ys) = lex semver_order xs ys

texts : Strict (lex nat_cmp)
texts = lex_strict number_strict

semver_swapped : (x y : Piece) → semver_order y x ≡ ordering_reverse (semver_order x y)
semver_swapped (numeric m) (numeric n) = number_strict.swapped m n
semver_swapped (numeric m) (alphanum t) = refl
semver_swapped (alphanum s) (numeric n) = refl
semver_swapped (alphanum s) (alphanum t) = texts.swapped s t

semver_itself : (x : Piece) → semver_order x x ≡ Equal
semver_itself (numeric m) = number_strict.itself m
semver_itself (alphanum s) = texts.itself s

semver_carried : (x y z : Piece) → NotGreater (semver_order x y) → NotGreater (semver_order y z) → NotGreater (semver_order x z)
semver_carried (numeric m) (numeric n) (numeric k) p q = number_strict.carried m n k p q
semver_carried (numeric m) (numeric n) (alphanum u) p q = tt
semver_carried (numeric m) (alphanum t) (numeric k) p q = absurd q
semver_carried (numeric m) (alphanum t) (alphanum u) p q = tt
semver_carried (alphanum s) (numeric n) z p q = absurd p
semver_carried (alphanum s) (alphanum t) (numeric k) p q = q
semver_carried (alphanum s) (alphanum t) (alphanum u) p q = texts.carried s t u p q

pub semver_strict : Strict semver_order
semver_strict = record { swapped = semver_swapped; itself = semver_itself; carried = semver_carried }

pub semver_balanced : Balanced semver_order
semver_balanced = record { swapped = semver_swapped; itself = semver_itself }
