use Rattle.std.proofs.Common.{subst, sym}
use Rattle.std.proofs.lemmas.Result.{on_ok_weaker}
use Rattle.cdcl_search.specs.Running.{Runs}
use Rattle.cuts_solver.proofs.solver.proposing.give_cut.Goals as goal

pub returns : goal.returns
returns g c =
    let p = c.args.input.now in
    let r = c.requires.runs in
    on_ok_weaker c.take_axiom.result
    (λ takes. subst (Runs c.take_axiom.new.search p) (sym r.2) (takes p r.0 r.1))
    c.take_axiom.ensures.takes
