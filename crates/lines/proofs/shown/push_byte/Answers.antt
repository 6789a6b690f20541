use Rattle.lines.proofs.Shows.{escaped}
use Rattle.lines.proofs.shown.push_byte.Goals as goal

pub returns : goal.returns
returns c =
    escaped _ c.ranges.byte.fits c.if-is_printable.ensures c.hex_byte-high.ensures c.in_ok-push_str.ensures.bytes
    c.from-2.ensures c.push-2.ensures.ascii c.in_ok-push.ensures.bytes
    c.from-3.ensures c.push-3.ensures.ascii c.in_ok-push-2.ensures.bytes
