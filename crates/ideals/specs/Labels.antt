-- What the code's Ideals say of their texts. Assumes nothing.
use Rattle.std.specs.Prelude.{ℕ, List}
use Rattle.std.specs.Option.{option_map}
use Rattle.texts.specs.Tables.{bytes_in}
use Rattle.chunk.specs.Tables.{release_in}
use Rattle.standard.specs.Parts.{Parts}
use Rattle.ideals.specs.declared.semver.SemVer.{SemVer}

-- the parts, with their text
abbrev pub parts_in : List ℕ → SemVer → Parts
parts_in text v = record { major = v.major; minor = v.minor; patch = v.patch; release = option_map (release_in text) v.pre_rel; meta = option_map (bytes_in text) v.meta }

-- the parts and the bytes read
abbrev pub read_in : List ℕ → SemVer × ℕ → Parts × ℕ
read_in text x = (parts_in text x.0, x.1)
