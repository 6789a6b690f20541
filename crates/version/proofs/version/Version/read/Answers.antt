use Rattle.std.proofs.Common.{◌≡◌, sym, refl, subst, arith}
use Rattle.texts.specs.Tables.{bytes_in}
use Rattle.texts.specs.Texts.{bytes_of}
use Rattle.parsers.specs.Places.{PerhapsGives}
use Rattle.parsers.specs.Reading.{meta_of}
use Rattle.parsers.proofs.Lists.{perhaps_gives}
use Rattle.chunk.specs.Reading.{release_of}
use Rattle.chunk.specs.Said.{piece_in}
use Rattle.chunk.specs.Tables.{release_in}
use Rattle.version.specs.Labels.{last_in}
use Rattle.version.specs.Reading.{epoch_of, last_of}
use Rattle.version.proofs.Places.{mapped_same, before_last, made_last}
use Rattle.version.proofs.version.Version.read.Goals as goal

pub returns : goal.returns
returns c =
    let text = bytes_of c.args.text in
    let a = subst (PerhapsGives (λ n. n) epoch_of text _) (sym c.opt-epoch.ensures) (perhaps_gives (λ n. n) epoch_of text _ _ c.epoch.ensures) in
    let g = c.in_ok-chunks.ensures in
    let p = c.in_ok-chunk.ensures in
    let r = subst (PerhapsGives (release_in text) release_of text _) (sym c.opt-release.ensures) (perhaps_gives (release_in text) release_of text _ _ c.parse-2.ensures) in
    let t = subst (PerhapsGives (bytes_in text) meta_of text _) (sym c.opt-meta.ensures) (perhaps_gives (bytes_in text) meta_of text _ _ c.meta.ensures) in
    let l = subst (λ t. last_in t c.new.result ≡ last_of (piece_in t c.in_ok-chunk.chunk)) c.bytes.ensures c.new.ensures in
    let b = before_last text c.in_ok-chunks.chunks (record { chunks = c.pop.new.self }) c.in_ok-chunk.chunk p in
    let m = made_last text c.in_ok-chunks.chunks (record { chunks = c.pop.new.self }) c.in_ok-chunk.chunk p c.new.result l in
    (rw (a.0, mapped_same c.opt-epoch.result.0, g.0, r.0, t.0, b, m) refl, omega (arith, a.1, g.1, r.1, t.1), t.2 (r.2 g.2))
