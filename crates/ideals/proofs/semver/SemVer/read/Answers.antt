use Rattle.std.proofs.Common.{sym, refl, ◌∙◌, subst, arith}
use Rattle.parsers.specs.Reading.{number_of, meta_of}
use Rattle.parsers.specs.Places.{PerhapsGives}
use Rattle.texts.specs.Tables.{bytes_in}
use Rattle.chunk.specs.Reading.{release_of}
use Rattle.chunk.specs.Tables.{release_in}
use Rattle.texts.specs.Texts.{bytes_of}
use Rattle.parsers.proofs.Lists.{no_mark, behind_mark, perhaps_gives}
use Rattle.ideals.proofs.semver.SemVer.read.Goals as goal

pub returns-in_default-mark : goal.returns-in_default-mark
returns-in_default-mark c =
    let a = c.in-Some.ensures in
    let n = no_mark number_of (bytes_of c.args.text) 46 _ c.in_default-mark.ensures in
    rw (a.0, n)

pub returns-in_default-unsigned : goal.returns-in_default-unsigned
returns-in_default-unsigned c =
    let a = c.in-Some.ensures in
    let b = behind_mark number_of (bytes_of c.args.text) 46 _ _ c.in-Some-mark.ensures ∙ c.in_default-unsigned.ensures in
    rw (a.0, b)

pub returns-in_default-mark-2 : goal.returns-in_default-mark-2
returns-in_default-mark-2 c =
    let a = c.in-Some.ensures in
    let b = behind_mark number_of (bytes_of c.args.text) 46 _ _ c.in-Some-mark.ensures ∙ c.in-Some-unsigned.ensures.0 in
    let n = no_mark number_of (bytes_of c.args.text) 46 _ c.in_default-mark-2.ensures in
    rw (a.0, b, n)

pub returns-in_default-unsigned-2 : goal.returns-in_default-unsigned-2
returns-in_default-unsigned-2 c =
    let a = c.in-Some.ensures in
    let b = behind_mark number_of (bytes_of c.args.text) 46 _ _ c.in-Some-mark.ensures ∙ c.in-Some-unsigned.ensures.0 in
    let d = behind_mark number_of (bytes_of c.args.text) 46 _ _ c.in-Some-mark-2.ensures ∙ c.in_default-unsigned-2.ensures in
    rw (a.0, b, d)

pub returns : goal.returns
returns c =
    let a = c.in-Some.ensures in
    let m = c.in-Some-mark.ensures in
    let b = c.in-Some-unsigned.ensures in
    let n = c.in-Some-mark-2.ensures in
    let d = c.in-Some-unsigned-2.ensures in
    let text = bytes_of c.args.text in
    let r = subst (PerhapsGives (release_in text) release_of text _) (sym c.opt-pre_rel.ensures) (perhaps_gives (release_in text) release_of text _ _ c.parse.ensures) in
    let t = subst (PerhapsGives (bytes_in text) meta_of text _) (sym c.opt-meta.ensures) (perhaps_gives (bytes_in text) meta_of text _ _ c.meta.ensures) in
    let y = behind_mark number_of (bytes_of c.args.text) 46 _ _ m ∙ b.0 in
    let z = behind_mark number_of (bytes_of c.args.text) 46 _ _ n ∙ d.0 in
    (rw (a.0, y, z, r.0, t.0) refl, omega (arith, a.1, m.2, b.1, n.2, d.1, r.1, t.1), t.2 (r.2 d.2))
