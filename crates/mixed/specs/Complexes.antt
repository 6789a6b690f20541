-- How Ideals and Generals compare with a Complex. Assumes nothing.
use Rattle.std.specs.Prelude.{ℕ, zero, suc, ◌+◌, cond, length, Some, None, Option, nat_lt}
use Rattle.std.specs.declared.cmp.Ordering.TheVariants.{Greater}
use Rattle.std.specs.declared.cmp.Ordering.{Ordering}
use Rattle.std.specs.Ordering.{ordering_then, nat_cmp}
use Rattle.standard.specs.Parts as standard
use Rattle.version.specs.Parts as version
use Rattle.version.specs.Numbers as general
use Rattle.mess.specs.Parts as mess
use Rattle.mess.specs.Parts.{MChunk}
use Rattle.mess.specs.Tables.{text_of}
use Rattle.mess.specs.Reading as complex
use Rattle.mess.specs.Reading.{mchunk_at}
use Rattle.lenient.specs.Number.{lenient_number}
use Rattle.complex.specs.Order.{complex_order}
use Rattle.complex.specs.Fronts.{behind_first, epoch_like}
use Rattle.convert.specs.Convert.{ideal_to_mess, body_to_mess, general_to_mess}
use Rattle.general.specs.Order.{era}
use Rattle.mixed.specs.Generals.{meets}

-- Ideal against Complex

-- the lenient number of an MChunk's text
abbrev pub lenient_in : Option MChunk → Option ℕ
lenient_in None = None
lenient_in (Some c) = lenient_number (text_of c)

-- the lenient number of the MChunk where nth(n) looks
abbrev pub lenient_at : ℕ → mess.Parts → Option ℕ
lenient_at n m = lenient_in (mchunk_at n m)

-- the converted Ideal against the Complex
abbrev pub converted : standard.Parts → mess.Parts → Ordering
converted p m = complex_order (ideal_to_mess p) m

-- where only nth(2) is absent, the patch meets the lenient number of the MChunk there, a tie being Greater
abbrev pub by_lenient : standard.Parts → mess.Parts → Ordering
by_lenient p m = meets p.patch (lenient_at 2 m) (converted p m) Greater

-- the patch meets nth(2)
abbrev pub by_patch : standard.Parts → mess.Parts → Ordering
by_patch p m = meets p.patch (complex.nth_of 2 m) (by_lenient p m) (converted p m)

-- the minor meets nth(1)
abbrev pub by_minor : standard.Parts → mess.Parts → Ordering
by_minor p m = meets p.minor (complex.nth_of 1 m) (converted p m) (by_patch p m)

-- Major, minor and patch meet nth(0), nth(1) and nth(2); where one of the first two is absent, and on a tie of all three,
-- the converted Ideal is compared.
abbrev pub ideal_complex : standard.Parts → mess.Parts → Ordering
ideal_complex p m = meets p.major (complex.nth_of 0 m) (converted p m) (by_minor p m)

-- General against Complex

-- two numbers that may be absent meet; where one is, the first answer counts, and on a tie the second
abbrev pub meet : Option ℕ → Option ℕ → Ordering → Ordering → Ordering
meet None n absent tie = absent
meet (Some m) n absent tie = meets m n absent tie

-- the two meet at k positions from nth(n) on, until one pair decides; where one is absent, and on a tie of all, the answer
-- is that of the converted General
abbrev pub meet_from : version.Parts → mess.Parts → Ordering → ℕ → ℕ → Ordering
meet_from g m converted n zero = converted
meet_from g m converted n (suc k) = meet (general.nth_of g n) (complex.nth_of n m) converted (meet_from g m converted (n + 1) k)

-- a General has no number behind its Last
abbrev pub by_positions : version.Parts → mess.Parts → Ordering → Ordering
by_positions g m converted = meet_from g m converted 0 (length g.chunks + 1)

-- an epoch above 0 meets that of the Complex; without one there the General is Greater, and a tie goes on behind the colon
-- with the General without its epoch
abbrev pub by_epoch : version.Parts → Option ℕ → Option mess.Parts → Ordering
by_epoch g None rest = Greater
by_epoch g (Some e) None = Greater
by_epoch g (Some e) (Some rest) = ordering_then (nat_cmp (era g) e) (by_positions g rest (complex_order (body_to_mess g) rest))

abbrev pub general_complex : version.Parts → mess.Parts → Ordering
general_complex g m = cond (nat_lt 0 (era g)) (by_epoch g (epoch_like m) (behind_first m)) (by_positions g m (complex_order (general_to_mess g) m))
