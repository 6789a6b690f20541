-- The order of Lasts, and its laws. Assumes nothing.
use Rattle.std.specs.Prelude.{◌≡◌, ℕ, List, Some, None, Option, refl}
use Rattle.std.specs.declared.cmp.Ordering.TheVariants.{Less, Equal, Greater}
use Rattle.std.specs.declared.cmp.Ordering.{Ordering}
use Rattle.std.specs.Ordering.{ordering_reverse, ordering_then, nat_cmp}
use Rattle.order.specs.Carry.{lex_balanced}
use Rattle.order.specs.Laws.{Balanced}
use Rattle.order.specs.Lists.{lex}
use Rattle.order.specs.Numbers.{number_balanced}
use Rattle.lenient.specs.Order.{by_both, both_swapped, both_itself}
use Rattle.version.specs.Numbers.{first_of}
use Rattle.version.specs.Parts.{LastPart, numeric, rc, post, alphanum}
use Rattle.general.specs.Laws.{then_balanced, by_balanced}

-- the text of an Alphanum
abbrev pub word_of : LastPart → Option (List ℕ)
word_of (numeric n) = None
word_of (rc a s b) = None
word_of (post a s) = None
word_of (alphanum t) = Some t

-- the letters of an Rc or a Post
abbrev pub letters_of : LastPart → Option (List ℕ)
letters_of (numeric n) = None
letters_of (rc a s b) = Some s
letters_of (post a s) = Some s
letters_of (alphanum t) = None

-- the second number of an Rc
abbrev pub second_of : LastPart → Option ℕ
second_of (numeric n) = None
second_of (rc a s b) = Some b
second_of (post a s) = None
second_of (alphanum t) = None

-- what has a text is below what has none; two texts by bytes
abbrev pub texts_order : Option (List ℕ) → Option (List ℕ) → Ordering
texts_order None None = Equal
texts_order None (Some t) = Greater
texts_order (Some s) None = Less
texts_order (Some s) (Some t) = lex nat_cmp s t

-- by number where both have one
abbrev pub numbers_order : Option ℕ → Option ℕ → Ordering
numbers_order a b = by_both a b Equal

-- The order of Lasts: an Alphanum is below all others, and two compare by text; then the first numbers; then a Numeric, which
-- has no letters, is above an Rc or a Post, and these compare by letters; then the second numbers of two Rcs.
abbrev pub last_order : LastPart → LastPart → Ordering
last_order l m =
    ordering_then (texts_order (word_of l) (word_of m))
    (ordering_then (numbers_order (first_of l) (first_of m))
    (ordering_then (texts_order (letters_of l) (letters_of m)) (numbers_order (second_of l) (second_of m))))

texts_swapped : (a b : Option (List ℕ)) → texts_order b a ≡ ordering_reverse (texts_order a b)
texts_swapped None None = refl
texts_swapped None (Some t) = refl
texts_swapped (Some s) None = refl
texts_swapped (Some s) (Some t) = (lex_balanced number_balanced).swapped s t

texts_itself : (a : Option (List ℕ)) → texts_order a a ≡ Equal
texts_itself None = refl
texts_itself (Some s) = (lex_balanced number_balanced).itself s

texts : Balanced texts_order
texts = record { swapped = texts_swapped; itself = texts_itself }

numbers : Balanced numbers_order
numbers = record { swapped = λ a b. both_swapped a b Equal; itself = λ a. both_itself a Equal refl }

pub last_balanced : Balanced last_order
last_balanced = then_balanced (by_balanced texts word_of) (then_balanced (by_balanced numbers first_of) (then_balanced (by_balanced texts letters_of) (by_balanced numbers second_of)))
