-- How Complexes compare. Assumes nothing.
use Rattle.std.specs.Prelude.{List, ◌∷◌, map}
use Rattle.std.specs.declared.cmp.Ordering.{Ordering}
use Rattle.order.specs.Lists.{lex}
use Rattle.mess.specs.Parts.{MChunk, Parts}
use Rattle.mess.specs.Order.{mchunk_order}

-- all levels, without their signs
abbrev pub levels_of : Parts → List (List MChunk)
levels_of p = p.first ∷ map (λ l. l.1) p.further

-- level by level, an absent level being Less
abbrev pub complex_order : Parts → Parts → Ordering
complex_order p q = lex (lex mchunk_order) (levels_of p) (levels_of q)
