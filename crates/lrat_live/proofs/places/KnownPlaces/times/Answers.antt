use Rattle.lrat_live.proofs.CountLaws.{times_some}
use Rattle.lrat_live.proofs.places.KnownPlaces.times.Goals as goal

pub returns-then-shows : goal.returns-then-shows
returns-then-shows c =
    times_some c.args.lit c.args.clause.now (c.shows.ensures c.if-shows.true)
