-- The meaning: the reader of Ideal labels. Assumes nothing.
use Rattle.std.specs.Prelude.{Some, None}
use Rattle.parsers.specs.Reading.{Reader, follow, perhaps_of, behind_of, number_of, meta_of}
use Rattle.chunk.specs.Reading.{release_of}
use Rattle.standard.specs.Parts.{Parts}

-- three numbers joined by dots, then perhaps a Release, then perhaps metadata
abbrev pub ideal_of : Reader Parts
ideal_of bs = follow (number_of bs) (λ x bs. follow (behind_of 46 number_of bs) (λ y bs. follow (behind_of 46 number_of bs) (λ z bs.
    let r = perhaps_of release_of bs in
    let m = perhaps_of meta_of r.1 in
    Some (record { major = x; minor = y; patch = z; release = r.0; meta = m.0 }, m.1)) None) None) None
