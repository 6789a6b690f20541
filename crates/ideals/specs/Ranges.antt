-- Which Ideals a tilde and a caret rule fit. Assumes nothing.
use Rattle.std.specs.Prelude.{◌≡◌, ◌<◌, ◌≤◌, ◌⊎◌}
use Rattle.ideals.specs.declared.semver.SemVer.{SemVer}

-- the label has the rule's major and minor, and a patch that is not lower
pub record Tilde (rule label : SemVer) : Type 0 where
  pub major : label.major ≡ rule.major
  pub minor : label.minor ≡ rule.minor
  pub patch : rule.patch ≤ label.patch

-- the label agrees with the rule up to the first number above 0, and is not lower behind it
pub data Caret (rule label : SemVer) : Type 0 where
  by_major : 0 < rule.major → label.major ≡ rule.major → (rule.minor < label.minor) ⊎ ((label.minor ≡ rule.minor) × (rule.patch ≤ label.patch)) → Caret rule label
  by_minor : rule.major ≡ 0 → label.major ≡ 0 → 0 < rule.minor → label.minor ≡ rule.minor → rule.patch ≤ label.patch → Caret rule label
  by_patch : rule.major ≡ 0 → label.major ≡ 0 → rule.minor ≡ 0 → label.minor ≡ 0 → label.patch ≡ rule.patch → Caret rule label
