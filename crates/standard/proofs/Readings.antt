-- The reader of Ideal labels reads what the standard yields. Assumes nothing.
use Rattle.standard.specs.Theorems.{ReadingStands}
use Rattle.standard.proofs.Combined.{combined_stands}
use Rattle.standard.proofs.Productions.{combined_from, ideal_from}

pub reading_stands : ReadingStands
reading_stands = record {
  sound = λ text p e. ideal_from text p (combined_stands.sound text p e);
  complete = λ text p h. combined_stands.complete text p (combined_from text p h);
  unique = λ text p q h k. combined_stands.unique text p q (combined_from text p h) (combined_from text q k);
}
