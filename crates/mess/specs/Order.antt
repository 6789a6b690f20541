-- How MChunks compare, and the laws of it. Assumes nothing.
use Rattle.std.specs.Prelude.{◌≡◌, codes, refl}
use Rattle.std.specs.declared.cmp.Ordering.TheVariants.{Less, Equal, Greater}
use Rattle.std.specs.declared.cmp.Ordering.{Ordering}
use Rattle.std.specs.Ordering.{ordering_reverse, nat_cmp}
use Rattle.order.specs.Carry.{lex_balanced}
use Rattle.order.specs.Laws.{Balanced, Strict}
use Rattle.order.specs.Lists.{lex}
use Rattle.order.specs.Numbers.{number_balanced}
use Rattle.mess.specs.Parts.{MChunk, digits, rev, plain}
use Rattle.mess.specs.Tables.{text_of}

-- Digits by number, Rev by number, Digits above Rev, all else by text
abbrev pub mchunk_order : MChunk → MChunk → Ordering
mchunk_order (digits m v) (digits n w) = nat_cmp m n
mchunk_order (digits m v) (rev n w) = Greater
mchunk_order (digits m v) (plain w) = lex nat_cmp v w
mchunk_order (rev m v) (digits n w) = Less
mchunk_order (rev m v) (rev n w) = nat_cmp m n
mchunk_order (rev m v) (plain w) = lex nat_cmp v w
mchunk_order (plain v) d = lex nat_cmp v (text_of d)

texts : Balanced (lex nat_cmp)
texts = lex_balanced number_balanced

mchunk_swapped : (c d : MChunk) → mchunk_order d c ≡ ordering_reverse (mchunk_order c d)
mchunk_swapped (digits m v) (digits n w) = number_balanced.swapped m n
mchunk_swapped (digits m v) (rev n w) = refl
mchunk_swapped (digits m v) (plain w) = texts.swapped v w
mchunk_swapped (rev m v) (digits n w) = refl
mchunk_swapped (rev m v) (rev n w) = number_balanced.swapped m n
mchunk_swapped (rev m v) (plain w) = texts.swapped v w
mchunk_swapped (plain v) (digits n w) = texts.swapped v w
mchunk_swapped (plain v) (rev n w) = texts.swapped v w
mchunk_swapped (plain v) (plain w) = texts.swapped v w

mchunk_itself : (c : MChunk) → mchunk_order c c ≡ Equal
mchunk_itself (digits n w) = number_balanced.itself n
mchunk_itself (rev n w) = number_balanced.itself n
mchunk_itself (plain w) = texts.itself w

pub mchunk_balanced : Balanced mchunk_order
mchunk_balanced = record { swapped = mchunk_swapped; itself = mchunk_itself }

-- 9 is below 10, 10 below 1a, and 1a below 9
pub record Ring : Type 0 where
  pub nine : mchunk_order (digits 9 (codes "9")) (digits 10 (codes "10")) ≡ Less
  pub ten : mchunk_order (digits 10 (codes "10")) (plain (codes "1a")) ≡ Less
  pub back : mchunk_order (plain (codes "1a")) (digits 9 (codes "9")) ≡ Less

-- so the order of MChunks is not strict
abbrev pub NotStrict : Type 0
NotStrict = Strict mchunk_order → ⊥
