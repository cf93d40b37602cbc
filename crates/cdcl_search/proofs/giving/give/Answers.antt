use Rattle.std.proofs.lemmas.Bool.{both_ways}
use Rattle.std.proofs.lemmas.Result.{on_ok_weaker}
use Rattle.cdcl_search.proofs.giving.give.Goals as goal

pub returns-then-refuted-clause-takes : goal.returns-then-refuted-clause-takes
returns-then-refuted-clause-takes c =
    on_ok_weaker c.keep_clause.result
    (λ given f. absurd (both_ways c.args.refuted f c.if-refuted.true)) c.keep_clause.ensures.given

pub returns-clause-takes : goal.returns-clause-takes
returns-clause-takes c =
    on_ok_weaker c.keep_clause-2.result
    (λ given f ls ask first r. c.in_ok-take_clause.ensures c.args.input.now
    c.keep_clause-2.new.input ls ask given first r)
    c.keep_clause-2.ensures.given
