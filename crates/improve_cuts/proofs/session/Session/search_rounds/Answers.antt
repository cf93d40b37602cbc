-- The weights were taken, and the rounds went on from there.
use Rattle.improve_cuts.proofs.session.Session.search_rounds.Goals as goal

pub returns-in_err-search-clause-follows : goal.returns-in_err-search-clause-follows
returns-in_err-search-clause-follows g c = λ first f. c.search.ensures.follows first f

pub returns-clause-follows : goal.returns-clause-follows
returns-clause-follows g c =
    λ first f. c.flush.ensures.follows first (c.search.ensures.follows first f)
