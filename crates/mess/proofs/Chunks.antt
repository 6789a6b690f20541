-- The MChunk in front of a rest. Assumes nothing.
use Rattle.std.proofs.Common.{◌≡◌, ℕ, ◌+◌, ◌-◌, ◌≤◌, cond, List, length, take, drop, Some, sym, ap, ◌∙◌, arith, length-drop, drop-drop}
use Rattle.std.specs.List.{between}
use Rattle.parsers.proofs.Stretches.{as_stretch}
use Rattle.mess.specs.declared.rest.Rest.{Rest}
use Rattle.mess.specs.declared.class.Class.{Class}
use Rattle.mess.specs.Parts.{plain}
use Rattle.mess.specs.Reading.{ended, sorted, mchunk_of}
use Rattle.mess.specs.Classes.{settled, Scanned}
use Rattle.mess.specs.Tables.{MEntry, mchunk_in}
use Rattle.mess.specs.Rests.{Follows, EndsIn, GivesIn}

-- one rest behind another, and behind that a third
pub stays : (r : Rest) → Follows r r
stays r = let n : r.from - r.from ≡ 0 = omega arith in record { past = omega arith; fits = omega arith; bytes = ap (λ k. drop k r.bytes.now) (sym n) }

pub further_on : {r s t : Rest} → Follows r s → Follows s t → Follows r t
further_on {r} {s} {t} f g =
    let l : length s.bytes.now ≡ length r.bytes.now - (s.from - r.from) = ap length f.bytes ∙ length-drop (s.from - r.from) r.bytes.now in
    let n : s.from - r.from + (t.from - s.from) ≡ t.from - r.from = omega (arith, f.past, g.past) in
    record {
      past = omega (arith, f.past, g.past);
      fits = omega (arith, f.past, f.fits, g.fits, l);
      bytes = g.bytes ∙ ap (drop (t.from - s.from)) f.bytes ∙ drop-drop (t.from - s.from) (s.from - r.from) r.bytes.now ∙ ap (λ k. drop k r.bytes.now) n;
    }

pub ends_on : (text : List ℕ) {r s : Rest} → Follows r s → EndsIn text r → EndsIn text s
ends_on text {r} {s} f e =
    let n : s.from ≡ r.from + (s.from - r.from) = omega (arith, f.past) in
    ap (λ k. drop k text) n ∙ sym (drop-drop (s.from - r.from) r.from text) ∙ ap (drop (s.from - r.from)) e ∙ sym f.bytes

pub shorter : {r s : Rest} → Follows r s → r.from + length r.bytes.now ≡ s.from + length s.bytes.now
shorter {r} {s} f = omega (arith, f.past, f.fits, ap length f.bytes ∙ length-drop (s.from - r.from) r.bytes.now)

-- the rest behind the first bytes
pub behind : {r s : Rest} (count : ℕ) → count ≤ length r.bytes.now → s.bytes.now ≡ drop count r.bytes.now → s.from ≡ r.from + count → Follows r s
behind {r} {s} count h b p = let n : count ≡ s.from - r.from = omega (arith, p) in record { past = omega (arith, p); fits = omega (arith, p); bytes = b ∙ ap (λ k. drop k r.bytes.now) n }

module _ (rest : Rest) {c : Class × ℕ} (s : Scanned rest.bytes.now c) where
  pub a_chunk : (c.1 ≡ 0 → ⊥) → (end : Rest) → Follows rest end → end.from ≡ rest.from + c.1 → end.bytes.now ≡ drop c.1 rest.bytes.now → (entry : MEntry)
      → ((text : List ℕ) → mchunk_in text entry ≡ settled c.0 end.bytes.now (between rest.from end.from text))
      → GivesIn mchunk_in mchunk_of rest (Some (entry, end))
  a_chunk l end f p b entry says = (
    f,
    omega (arith, p, l),
    λ text e.
        let bytes = rest.bytes.now in
        let n : end.from - rest.from ≡ c.1 = omega (arith, p) in
        let w : between rest.from end.from text ≡ take c.1 bytes = ap (λ k. take k (drop rest.from text)) n ∙ ap (take c.1) e in
        let m : mchunk_in text entry ≡ cond (ended (drop c.1 bytes)) (sorted (take c.1 bytes)) (plain (take c.1 bytes)) =
        says text ∙ ap (λ x. settled c.0 x (between rest.from end.from text)) b ∙ ap (settled c.0 (drop c.1 bytes)) w ∙ ap (λ x. cond (ended (drop c.1 bytes)) x (plain (take c.1 bytes))) s.class in
        let z : c.1 - 0 ≡ c.1 = omega arith in
        rw (as_stretch s.end (omega (arith, l)), z) (◌∙◌ {b = Some (mchunk_in text entry, drop c.1 bytes)} (ap (λ x. Some (x, drop c.1 bytes)) (sym m)) (ap (λ x. Some (mchunk_in text entry, x)) (sym b))),
  )
