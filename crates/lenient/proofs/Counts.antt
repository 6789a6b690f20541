-- The number behind a letter. Assumes nothing.
use Rattle.std.proofs.Common.{◌≡◌, ℕ, suc, ◌-◌, ◌<◌, true, List, [], ◌∷◌, length, get_or, take, drop, Option, sym, ap, ◌∙◌, not-suc-le-zero, arith, take_all}
use Rattle.std.specs.Char.{is_ascii_alphabetic}
use Rattle.std.proofs.lemmas.Bool.{cond-true, eq-eqb, and_from}
use Rattle.lenient.specs.Number.{lenient_number, behind_letter}

-- both texts begin with one letter
pub behind : (s t : List ℕ) (r : Option ℕ) → 0 < length s → 0 < length t → get_or s 0 0 ≡ get_or t 0 0 → true ≡ is_ascii_alphabetic (get_or s 0 0) → r ≡ lenient_number (take (length s - 1) (drop 1 s)) → r ≡ behind_letter s t
behind [] t r h k e l is = absurd (not-suc-le-zero h)
behind (b ∷ s) [] r h k e l is = absurd (not-suc-le-zero k)
behind (b ∷ s) (c ∷ t) r h k e l is =
    let whole : take (suc (length s) - 1) s ≡ s = take_all (suc (length s) - 1) s (omega arith) in
    is ∙ ap lenient_number whole ∙ sym (cond-true _ _ _ (and_from _ _ (eq-eqb b c e) (sym l)))
