use Rattle.std.proofs.Common.{◌≡◌, ◌∙◌, take, subst, ap, rules, arith}
use Rattle.std.proofs.lemmas.Fn.{fold_over, slice_gives, fronts}
use Rattle.lines.proofs.Shows.{Wide, wider, clipped}
use Rattle.lines.proofs.shown.column.Goals as goal

pub returns : goal.returns
returns c =
    let e : c.iter.result.rest.now ≡ take c.args.place c.args.text.now = c.iter.ensures.rest ∙ ap (λ n. take n c.args.text.now) c.min.ensures ∙ clipped c.args.text.now c.args.place in
    subst (λ l. Wide l c.fold.result) e
    (fold_over fronts (λ y. y.now) _ Wide _ (λ ys a x b f' j k. let more = wider ys x.now a b in search (rules, more)) _ _ _ _ (slice_gives c.iter.result) (omega arith) c.fold.ensures.ran)
