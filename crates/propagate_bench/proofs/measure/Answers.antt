use Rattle.propagate_bench.proofs.measure.Goals as goal

pub load-requires-clause-fits : goal.load-requires-clause-fits
load-requires-clause-fits g c = c.in_ok-engine.ensures.fits c.new-store.result.slots
