-- Verdicts are the standard's.
use Rattle.std.proofs.Common.{◌≡◌, ℕ, List, Ok, Err, Result, Ordering, Less, Equal, Greater, sym, refl, subst, arith}
use Rattle.fault.specs.declared.LabelFault.{LabelFault}
use Rattle.parsers.specs.Answers.{new_by, NewReads}
use Rattle.parsers.proofs.Answering.{new_reads}
use Rattle.standard.specs.Order.{ideal_order}
use Rattle.standard.specs.Parts.{Parts}
use Rattle.standard.specs.Reading.{ideal_of}
use Rattle.standard.specs.Theorems.{Ideal, Standard}
use Rattle.standard.proofs.Precedences.{precedence_stands}
use Rattle.standard.proofs.Readings.{reading_stands}
use Rattle.job.specs.declared.against.Verdict.{Verdict}
use Rattle.job.specs.declared.against.Refusals.{Refusals}
use Rattle.job.specs.Verdicts.{verdict_of, against_of, Later, Judged}

settled : (p q : Parts) (o : Ordering) → Standard p q o → Later p q (verdict_of o)
settled p q Less s = s.less.0 refl
settled p q Equal s = s.equal.0 refl
settled p q Greater s = s.greater.0 refl

module _ (s t : List ℕ) where
  of_read : (x y : Result Parts LabelFault) → NewReads Ideal s x → NewReads Ideal t y → Judged s t (against_of x y)
  of_read (Ok p') (Ok q') a b p q v i j e =
      let same-p = a.one_reading p' p (a.taken p' refl) i in
      let same-q = b.one_reading q' q (b.taken q' refl) j in
      let same-v : verdict_of (ideal_order p q) ≡ v = cc in
      subst (Later p q) same-v (settled p q _ (precedence_stands p q))
  of_read (Ok p') (Err e') a b p q v i j e = absurd (let z : ◌≡◌ {A = ℕ} 0 1 = cc in omega arith)
  of_read (Err e') (Ok q') a b p q v i j e = absurd (let z : ◌≡◌ {A = ℕ} 0 1 = cc in omega arith)
  of_read (Err d') (Err e') a b p q v i j e = absurd (let z : ◌≡◌ {A = ℕ} 0 1 = cc in omega arith)

  pub judged : {r : Result Verdict Refusals} → r ≡ against_of (new_by ideal_of s) (new_by ideal_of t) → Judged s t r
  judged e = subst (Judged s t) (sym e) (of_read _ _ (new_reads reading_stands s) (new_reads reading_stands t))
