-- How an Ideal compares with a General. Assumes nothing.
use Rattle.std.specs.Prelude.{ℕ, cond, List, [], ◌∷◌, drop, Some, None, Option, nat_lt}
use Rattle.std.specs.declared.cmp.Ordering.TheVariants.{Less, Equal, Greater}
use Rattle.std.specs.declared.cmp.Ordering.{Ordering}
use Rattle.std.specs.Ordering.{ordering_then, nat_cmp}
use Rattle.chunk.specs.Piece as piece
use Rattle.chunk.specs.Piece.{Piece}
use Rattle.standard.specs.Parts as standard
use Rattle.version.specs.Parts as version
use Rattle.version.specs.Parts.{LastPart, numeric, rc, post, alphanum}
use Rattle.version.specs.Numbers.{nth_of}
use Rattle.general.specs.Order.{era}

-- a number meets one that may be absent; an absent one gives the first answer, a tie the second
abbrev pub meets : ℕ → Option ℕ → Ordering → Ordering → Ordering
meets n None absent tie = absent
meets n (Some m) absent tie = ordering_then (nat_cmp n m) tie

-- a tie of all three with two chunks: an Rc or Post is below an Ideal without a Release
abbrev pub tied_last : Option (List Piece) → LastPart → Ordering
tied_last None (numeric n) = Equal
tied_last None (rc a s b) = Greater
tied_last None (post a s) = Greater
tied_last None (alphanum t) = Equal
tied_last (Some release) last = Equal

-- with three chunks: the Ideal is Less, or Greater if the Last is Alphanum
abbrev pub before_last : LastPart → Ordering
before_last (numeric n) = Less
before_last (rc a s b) = Less
before_last (post a s) = Less
before_last (alphanum t) = Greater

-- with more: it is Less if the fourth chunk is Numeric, otherwise Greater
abbrev pub before_chunk : Piece → Ordering
before_chunk (piece.numeric n) = Less
before_chunk (piece.alphanum t) = Greater

-- a tie of all three, by the chunks behind the second and the Last
abbrev pub tied : Option (List Piece) → List Piece → LastPart → Ordering
tied release [] last = tied_last release last
tied release (third ∷ []) last = before_last last
tied release (third ∷ fourth ∷ more) last = before_chunk fourth

-- the patch meets nth(2)
abbrev pub by_patch : standard.Parts → version.Parts → Ordering
by_patch p g = meets p.patch (nth_of g 2) Greater (tied p.release (drop 2 g.chunks) g.last)

-- the minor meets nth(1)
abbrev pub by_minor : standard.Parts → version.Parts → Ordering
by_minor p g = meets p.minor (nth_of g 1) Greater (by_patch p g)

-- Major, minor and patch meet nth(0), nth(1) and nth(2) in turn; an absent one makes the Ideal Greater.
abbrev pub by_major : standard.Parts → version.Parts → Ordering
by_major p g = meets p.major (nth_of g 0) Greater (by_minor p g)

-- a General with an epoch above 0 is Greater
abbrev pub ideal_general : standard.Parts → version.Parts → Ordering
ideal_general p g = cond (nat_lt 0 (era g)) Less (by_major p g)
