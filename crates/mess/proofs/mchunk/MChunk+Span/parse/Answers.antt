use Rattle.mess.proofs.Chunks.{behind, a_chunk}
use Rattle.mess.proofs.mchunk.MChunk+Span.parse.Goals as goal

pub returns : goal.returns
returns c =
    let end = c.behind-behind.result in
    let f = behind {r = c.args.rest} {s = end} c.scan-class.result.1 c.scan-class.ensures.end.fits c.behind-behind.ensures.bytes c.behind-behind.ensures.place in
    a_chunk c.args.rest c.scan-class.ensures c.if-count-eq0.false end f c.behind-behind.ensures.place c.behind-behind.ensures.bytes c.entry.result c.entry.ensures
