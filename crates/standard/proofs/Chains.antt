-- The standard's own example of precedence stands. Assumes nothing.
use Rattle.std.proofs.Common.{◌≡◌, ℕ, List, [], Some, Less, refl}
use Rattle.standard.specs.Parts.{Parts}
use Rattle.standard.specs.Reading.{ideal_of}
use Rattle.standard.specs.Order.{ideal_order}
use Rattle.standard.specs.Chain.{Below, ChainStands}
use Rattle.standard.proofs.Precedences.{precedence_stands}
use Rattle.standard.proofs.Readings.{reading_stands}

below : {s t : List ℕ} {p q : Parts} → ideal_of s ≡ Some (p, []) → ideal_of t ≡ Some (q, []) → ideal_order p q ≡ Less → Below s t
below {s} {t} {p} {q} a b e = record { low = p; high = q; first = reading_stands.sound s p a; second = reading_stands.sound t q b; lower = (precedence_stands p q).less.0 e }

pub chain_stands : ChainStands
chain_stands = (below refl refl refl, (below refl refl refl, (below refl refl refl, (below refl refl refl, (below refl refl refl, (below refl refl refl, (below refl refl refl, tt)))))))
