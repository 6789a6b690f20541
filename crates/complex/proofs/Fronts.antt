-- The first level of a Complex, and what is behind it. Assumes nothing.
use Rattle.std.proofs.Common.{◌≡◌, ℕ, ◌+◌, List, [], ◌∷◌, drop, Some, None, Option, sym, refl, ap, ◌∙◌, not-suc-le-zero}
use Rattle.texts.specs.Tables.{Taken}
use Rattle.mess.specs.declared.sep.Sep.{Sep}
use Rattle.mess.specs.declared.sep.Sep.TheVariants.{Colon}
use Rattle.mess.specs.declared.mess.Level.{Level}
use Rattle.mess.specs.Parts.{MChunk, Parts}
use Rattle.mess.specs.Labels.{levels_from}
use Rattle.mess.proofs.Handing.{at_level, colon, not_colon}
use Rattle.complex.specs.Fronts.{behind_first, before_colon}

-- one level on
module _ (cs : List MChunk) (ls : List Level) (begin next : ℕ) where
  pub one_on : (l : Level) → Taken ls next (Some l) → ◌≡◌ {A = Option Parts} (Some (levels_from cs l.begin (drop (next + 1) ls))) (behind_first (levels_from cs begin (drop next ls)))
  one_on l t = sym (ap (λ xs. behind_first (levels_from cs begin xs)) (at_level ls next l t))

-- what follows the first level
pub colon_first : (o : Option ℕ) (ls : List (Sep × List MChunk)) (l : Sep × List MChunk) → Taken ls 0 (Some l) → l.0 ≡ Colon → o ≡ before_colon o ls
colon_first o [] l t e = absurd (not-suc-le-zero t.0)
colon_first o (x ∷ ls) l t e = sym (colon x.0 o None (ap (λ y. y.0) (t.1 l) ∙ e))

pub other_first : (o : Option ℕ) (ls : List (Sep × List MChunk)) (l : Sep × List MChunk) → Taken ls 0 (Some l) → (l.0 ≡ Colon → ⊥) → None ≡ before_colon o ls
other_first o [] l t n = refl
other_first o (x ∷ ls) l t n = sym (not_colon x.0 o None (λ e. n (sym (ap (λ y. y.0) (t.1 l)) ∙ e)))
