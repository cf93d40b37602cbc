use Rattle.std.proofs.Common.{◌≡◌, take, subst}
use Rattle.std.specs.List.{AllByRecursion}
use Rattle.std.proofs.lemmas.List.{take_all}
use Rattle.propagate.specs.Watches.{IsVariable}
use Rattle.propagate_bench.proofs.Within.{within_by}
use Rattle.propagate_bench.proofs.loading.is_within.Goals as goal

pub returns : goal.returns
returns c _ =
    let whole : take c.loop-lit.lit-index c.args.lits.now ≡ c.args.lits.now =
    take_all c.loop-lit.lit-index c.args.lits.now c.loop-lit-test.false in
    within_by c.args.vars c.args.lits.now
    (subst (AllByRecursion (IsVariable c.args.vars)) whole c.loop-lit.invariant)
