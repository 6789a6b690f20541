use Rattle.std.proofs.Common.{rules, ◌≡◌, ℕ, ◌≤◌, Result, Ordering, Less, Greater, cond, drop, sym, ap, ◌∙◌, arith}
use Rattle.std.specs.Prelude.{◌==◌}
use Rattle.std.proofs.lemmas.Bool.{cond-false, le-ltb, ne_eqb}
use Rattle.standard.specs.Parts as standard
use Rattle.version.specs.Parts as version
use Rattle.version.specs.Numbers.{nth_of}
use Rattle.versioning.specs.Labels.{ideal_nth}
use Rattle.ideals.specs.Views as ideal
use Rattle.general.specs.Order.{era}
use Rattle.general.specs.Views as general
use Rattle.mixed.specs.Generals.{tied, ideal_general}
use Rattle.mixed.specs.Meeting.{met_from}
use Rattle.mixed.proofs.Meeting.{settled, three}
use Rattle.mixed.proofs.semver.cmp_version.Goals as goal

-- what is answered where the numbers end
abbrev ended : standard.Parts → version.Parts → ℕ → Ordering
ended p g n = cond (n == 3) (tied p.release (drop 2 g.chunks) g.last) Greater

by_numbers : (p : standard.Parts) (g : version.Parts) (m : Result Ordering ℕ) {e : ℕ} → e ≡ era g → e ≤ 0 → m ≡ met_from (ideal_nth p.major p.minor p.patch) (nth_of g) 0 3 → settled m (ended p g) ≡ ideal_general p g
by_numbers p g m i h e =
    ap (λ m. settled m (ended p g)) e ∙ three p.major p.minor p.patch (nth_of g) (ended p g) ∙ sym (cond-false _ Less _ (le-ltb 0 (era g) (omega (arith, i, h))))

elsewhere : (p : standard.Parts) (g : version.Parts) (n : ℕ) → (n ≡ 3 → ⊥) → Greater ≡ ended p g n
elsewhere p g n h = sym (cond-false _ _ _ (ne_eqb n 3 h))

pub returns-in-Ok : goal.returns-in-Ok
returns-in-Ok c =
    let p = ideal.parts_of c.args.ideal.now in
    let g = general.parts_of c.args.general.now in
    ap (λ m. settled m (ended p g)) (sym c.in-Ok.is) ∙ by_numbers p g _ c.epoch_or_zero.ensures (search rules) c.meet.ensures

pub returns-in-Err-eq3 : goal.returns-in-Err-eq3
returns-in-Err-eq3 c =
    let p = ideal.parts_of c.args.ideal.now in
    let g = general.parts_of c.args.general.now in
    c.cmp_tied.ensures ∙ ap (ended p g) (sym c.in-Err-eq3.field-0-test) ∙ ap (λ m. settled m (ended p g)) (sym c.in-Err-eq3.is) ∙ by_numbers p g _ c.epoch_or_zero.ensures (search rules) c.meet.ensures

pub returns-in-Err : goal.returns-in-Err
returns-in-Err c =
    let p = ideal.parts_of c.args.ideal.now in
    let g = general.parts_of c.args.general.now in
    elsewhere p g c.in-Err.field-0 c.in-Err.field-0-test.1 ∙ ap (λ m. settled m (ended p g)) (sym c.in-Err.is) ∙ by_numbers p g _ c.epoch_or_zero.ensures (search rules) c.meet.ensures
