-- What the code's labels say of their texts. Assumes nothing.
use Rattle.std.specs.Prelude.{ℕ, zero, suc, List, Some, None, Option}
use Rattle.standard.specs.Parts as standard
use Rattle.ideals.specs.Labels as semver
use Rattle.version.specs.Parts as version
use Rattle.version.specs.Labels as generals
use Rattle.version.specs.Numbers as numbers
use Rattle.mess.specs.Parts as mess
use Rattle.mess.specs.Labels as messes
use Rattle.mess.specs.Reading as reading
use Rattle.versioning.specs.declared.versioning.Versioning.{Versioning}
use Rattle.versioning.specs.declared.versioning.Versioning.TheVariants.{Ideal, General, Complex}
use Rattle.versioning.specs.First.{OneOf, ideal, general, complex}

-- a reading by any form
abbrev pub Parts : Type 0
Parts = OneOf standard.Parts version.Parts mess.Parts

-- the form and its parts, with their text
abbrev pub parts_in : List ℕ → Versioning → Parts
parts_in text (Ideal v) = ideal (semver.parts_in text v)
parts_in text (General v) = general (generals.parts_in text v)
parts_in text (Complex v) = complex (messes.parts_in text v)

-- the parts and the bytes read
abbrev pub read_in : List ℕ → Versioning × ℕ → Parts × ℕ
read_in text x = (parts_in text x.0, x.1)

-- major, minor and patch by position
abbrev pub ideal_nth : ℕ → ℕ → ℕ → ℕ → Option ℕ
ideal_nth x y z zero = Some x
ideal_nth x y z (suc zero) = Some y
ideal_nth x y z (suc (suc zero)) = Some z
ideal_nth x y z (suc (suc (suc n))) = None

-- the number at a position
abbrev pub nth_in : Parts → ℕ → Option ℕ
nth_in (ideal p) n = ideal_nth p.major p.minor p.patch n
nth_in (general p) n = numbers.nth_of p n
nth_in (complex p) n = reading.nth_of n p
