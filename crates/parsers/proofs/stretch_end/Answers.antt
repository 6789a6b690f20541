use Rattle.parsers.proofs.Ends.{stops_at, never_stops}
use Rattle.parsers.proofs.stretch_end.Goals as goal

pub returns-in-Some : goal.returns-in-Some
returns-in-Some g c = stops_at c.rest.ensures c.in-Some.ensures

pub returns-in-None : goal.returns-in-None
returns-in-None g c = never_stops c.rest.ensures c.in-None.ensures
