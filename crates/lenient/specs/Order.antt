-- The lenient order of what chunks say, and its laws. Assumes nothing.
use Rattle.std.specs.Prelude.{◌≡◌, ℕ, List, Some, None, Option, refl}
use Rattle.std.specs.declared.cmp.Ordering.TheVariants.{Less, Equal, Greater}
use Rattle.std.specs.declared.cmp.Ordering.{Ordering}
use Rattle.std.proofs.Common.{ap, ◌∙◌}
use Rattle.std.specs.Ordering.{ordering_reverse, ordering_then, nat_cmp}
use Rattle.order.specs.Carry.{lex_balanced}
use Rattle.order.specs.Laws.{Balanced}
use Rattle.order.specs.Lists.{lex}
use Rattle.order.specs.Numbers.{number_balanced}
use Rattle.chunk.specs.Piece.{Piece, numeric, alphanum}
use Rattle.lenient.specs.Number.{lenient_number, behind_letter}

-- by two numbers where both are there, and otherwise o
abbrev pub by_both : Option ℕ → Option ℕ → Ordering → Ordering
by_both None None o = o
by_both None (Some n) o = o
by_both (Some m) None o = o
by_both (Some m) (Some n) o = nat_cmp m n

-- a Numeric against the lenient number of an Alphanum: Greater on a tie or where there is none
abbrev pub meets : ℕ → Option ℕ → Ordering
meets m None = Greater
meets m (Some n) = ordering_then (nat_cmp m n) Greater

-- Two Alphanums: by lenient numbers (then both begin with digits), or by the numbers behind a letter that both begin with,
-- where both have one; all others by text.
abbrev pub words_order : List ℕ → List ℕ → Ordering
words_order s t = by_both (lenient_number s) (lenient_number t) (by_both (behind_letter s t) (behind_letter t s) (lex nat_cmp s t))

-- The lenient order: two Numerics by number, a Numeric against the lenient number of an Alphanum, two Alphanums as above.
abbrev pub lenient_order : Piece → Piece → Ordering
lenient_order (numeric m) (numeric n) = nat_cmp m n
lenient_order (numeric m) (alphanum t) = meets m (lenient_number t)
lenient_order (alphanum s) (numeric n) = ordering_reverse (meets n (lenient_number s))
lenient_order (alphanum s) (alphanum t) = words_order s t

texts : Balanced (lex nat_cmp)
texts = lex_balanced number_balanced

pub twice : (o : Ordering) → o ≡ ordering_reverse (ordering_reverse o)
twice Less = refl
twice Equal = refl
twice Greater = refl

pub both_swapped : (a b : Option ℕ) (o : Ordering) → by_both b a (ordering_reverse o) ≡ ordering_reverse (by_both a b o)
both_swapped None None o = refl
both_swapped None (Some n) o = refl
both_swapped (Some m) None o = refl
both_swapped (Some m) (Some n) o = number_balanced.swapped m n

pub both_itself : (a : Option ℕ) (o : Ordering) → o ≡ Equal → by_both a a o ≡ Equal
both_itself None o e = e
both_itself (Some m) o e = number_balanced.itself m

words_swapped : (s t : List ℕ) → words_order t s ≡ ordering_reverse (words_order s t)
words_swapped s t =
    ap (by_both (lenient_number t) (lenient_number s)) (ap (by_both (behind_letter t s) (behind_letter s t)) (texts.swapped s t) ∙ both_swapped (behind_letter s t) (behind_letter t s) (lex nat_cmp s t))
    ∙ both_swapped (lenient_number s) (lenient_number t) (by_both (behind_letter s t) (behind_letter t s) (lex nat_cmp s t))

words_itself : (s : List ℕ) → words_order s s ≡ Equal
words_itself s = both_itself (lenient_number s) _ (both_itself (behind_letter s s) _ (texts.itself s))

lenient_swapped : (x y : Piece) → lenient_order y x ≡ ordering_reverse (lenient_order x y)
lenient_swapped (numeric m) (numeric n) = number_balanced.swapped m n
lenient_swapped (numeric m) (alphanum t) = refl
lenient_swapped (alphanum s) (numeric n) = twice (meets n (lenient_number s))
lenient_swapped (alphanum s) (alphanum t) = words_swapped s t

lenient_itself : (x : Piece) → lenient_order x x ≡ Equal
lenient_itself (numeric m) = number_balanced.itself m
lenient_itself (alphanum s) = words_itself s

pub lenient_balanced : Balanced lenient_order
lenient_balanced = record { swapped = lenient_swapped; itself = lenient_itself }
