-- What `distinct` gives has no repeat, and is kept as what it was made from.
use Rattle.std.proofs.Common.{◌≡◌, ◌++◌, ap, ◌∙◌}
use Rattle.std.proofs.lemmas.Result.{on_ok_weaker}
use Rattle.cnf.specs.Clause.{distinct}
use Rattle.cnf.proofs.Laws.{repeat_distinct}
use Rattle.bound.proofs.Kept.{kept-distinct}
use Rattle.bound.proofs.kept_clauses.keep_short.Goals as goal

pub keep_once-requires : goal.keep_once-requires
keep_once-requires c =
    rw (c.deref.ensures.value, c.in_ok-once.ensures) (repeat_distinct c.args.lits.now)

pub returns-in_ok-once : goal.returns-in_ok-once
returns-in_ok-once c =
    let once : c.deref.result.now ≡ distinct c.args.lits.now =
    c.deref.ensures.value ∙ c.in_ok-once.ensures in
    on_ok_weaker c.keep_once.result (λ kept. kept
    ∙ ap (λ x. c.args.clauses.now ++ x) (kept-distinct c.args.lits.now c.deref.result.now once))
    c.keep_once.ensures
