use Rattle.std.proofs.Common.{◌+◌, map, get_or, drop, sym, ap, ◌∙◌, arith}
use Rattle.std.proofs.lemmas.List.{drop_more, drop_all}
use Rattle.mess.specs.declared.mess.Level.{Level}
use Rattle.mess.specs.declared.sep.Sep.TheVariants.{Colon}
use Rattle.mess.specs.Reading.{nth_level}
use Rattle.texts.specs.Tables.{rows_of}
use Rattle.mess.specs.Tables.{mchunk_in}
use Rattle.mess.specs.Labels.{mchunks_in, levels_from}
use Rattle.mess.proofs.Handing.{between_map, mchunks_few, past_colon, at_other, at_last}
use Rattle.mess.proofs.mess.Mess.nth_level.Goals as goal

-- what stands for a level past the end
abbrev blank : Level
blank = record { sep = Colon; begin = 0 }

pub loop-level-init : goal.loop-level-init
loop-level-init c text = ap (λ ls. nth_level (levels_from (mchunks_in text c.args.self.now.chunks) 0 ls)) (sym c.as_slice-level-items.ensures.rows)

pub loop-level-preserved : goal.loop-level-preserved
loop-level-preserved c text =
    let cs = mchunks_in text c.args.self.now.chunks in
    let ls = c.as_slice-level-items.result.now in
    let i = c.loop-level.level-index in
    c.loop-level.invariant text ∙ ap (λ xs. nth_level (levels_from cs c.loop-level.begin xs)) (drop_more ls i blank c.loop-level-test.true)
    ∙ past_colon cs c.loop-level.begin (get_or ls i blank) (drop (i + 1) ls) c.in-Colon.is

pub returns-in_default : goal.returns-in_default
returns-in_default c text =
    let es = rows_of c.args.self.now.chunks in
    let cs = mchunks_in text c.args.self.now.chunks in
    let ls = c.as_slice-level-items.result.now in
    let i = c.loop-level.level-index in
    let l = get_or ls i blank in
    let b = c.loop-level.begin in
    ap (map (mchunk_in text)) c.between.ensures ∙ sym (between_map (mchunk_in text) b l.begin es)
    ∙ sym (c.loop-level.invariant text ∙ ap (λ xs. nth_level (levels_from cs b xs)) (drop_more ls i blank c.loop-level-test.true) ∙ at_other cs b l (drop (i + 1) ls) c.in_default.not-Colon)

pub returns : goal.returns
returns c text =
    let es = rows_of c.args.self.now.chunks in
    let cs = mchunks_in text c.args.self.now.chunks in
    let ls = c.as_slice-level-items.result.now in
    let b = c.loop-level.begin in
    let n = c.len.result in
    ap (map (mchunk_in text)) c.between-2.ensures ∙ sym (between_map (mchunk_in text) b n es)
    ∙ sym (c.loop-level.invariant text ∙ ap (λ xs. nth_level (levels_from cs b xs)) (drop_all c.loop-level.level-index ls c.loop-level-test.false) ∙ at_last cs b n (omega (arith, mchunks_few text c.args.self.now.chunks, c.len.ensures.count)))
