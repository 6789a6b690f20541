-- What is added for each byte of a text that is shown.
use Rattle.std.proofs.Common.{◌≡◌, ℕ, ◌+◌, ◌/◌, ◌%◌, ◌<◌, ◌≤◌, min, false, ltb, List, [], ◌∷◌, ◌++◌, length, get_or, take, sym, refl, ap, ◌∙◌, ⊎_elim, append_assoc, arith, length-append}
use lib.Utf8.{encode}
use Rattle.std.proofs.lemmas.List.{flat_map_more, take_more, take_all}
use Rattle.std.proofs.lemmas.Bool.{cond_both, cond-false, cases_lt}
use Rattle.lines.specs.Hex.{upper_digit}
use Rattle.lines.specs.Shown.{printable, shown_byte, shown_of}

-- an ASCII character is one byte
abbrev pub Ascii : ℕ → Type 0
Ascii c = c < 128 → encode c ≡ c ∷ []

small : (n : ℕ) → n < 16 → upper_digit n < 128
small n h = cond_both (ltb n 10) _ _ (λ d. d < 128) (λ _. omega arith) (λ _. omega arith)

digit : (c n : ℕ) → c ≡ upper_digit n → n < 16 → Ascii c → encode c ≡ upper_digit n ∷ []
digit c n e h f = f (rw e (small n h)) ∙ rw e refl

pub escaped : (s : List ℕ) {s₁ s₂ s₃ : List ℕ} {h l b : ℕ} {d : ℕ × ℕ} → b < 256 → false ≡ printable b → d ≡ (upper_digit (b / 16), upper_digit (b % 16)) → s₁ ≡ s ++ 92 ∷ 120 ∷ [] → h ≡ d.0 → Ascii h → s₂ ≡ s₁ ++ encode h → l ≡ d.1 → Ascii l → s₃ ≡ s₂ ++ encode l → s₃ ≡ s ++ shown_byte b
escaped s {h = h} {l} {b} small other e p eh ah q el al r =
    let x = digit h (b / 16) (eh ∙ ap (λ t. t.0) e) (omega arith) ah in
    let y = digit l (b % 16) (el ∙ ap (λ t. t.1) e) (omega arith) al in
    rw (r, q, p, x, y, cond-false _ _ _ (sym other)) (simp append_assoc)

-- the bytes before i are added
module _ (text s now : List ℕ) (i : ℕ) (p : now ≡ s ++ shown_of (take i text)) where
  pub more : {next : List ℕ} → i < length text → next ≡ now ++ shown_byte (get_or text i 0) → next ≡ s ++ shown_of (take (i + 1) text)
  more h e = e ∙ ap (λ t. t ++ shown_byte (get_or text i 0)) p ∙ flat_map_more shown_byte s (take i text) (get_or text i 0) ∙ ap (λ t. s ++ shown_of t) (sym (take_more text i 0 h))

  pub all : length text ≤ i → now ≡ s ++ shown_of text
  all h = p ∙ ap (λ t. s ++ shown_of t) (take_all i text h)

-- how many characters some bytes are shown as, up to the most that 64 bits count
abbrev pub Wide : List ℕ → ℕ → Type 0
Wide text n = n ≡ min (length (shown_of text)) 18446744073709551615

pub wider : (text : List ℕ) (b n m w : ℕ) → Wide text n → w ≡ length (shown_byte b) → m ≡ min (n + w) 18446744073709551615 → Wide (text ++ b ∷ []) m
wider text b n m w h e f =
    let s : length (shown_of (text ++ b ∷ [])) ≡ length (shown_of text) + length (shown_byte b) = ap length (sym (flat_map_more shown_byte [] text b)) ∙ length-append (shown_of text) (shown_byte b) in
    omega (arith, h, e, f, s)

-- a place past the end counts as the end
pub clipped : (text : List ℕ) (place : ℕ) → take (min place (length text)) text ≡ take place text
clipped text place = ⊎_elim (λ h. ap (λ n. take n text) (omega arith)) (λ h. take_all _ text (omega arith) ∙ sym (take_all place text h)) (cases_lt place (length text))
