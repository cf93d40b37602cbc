use Rattle.std.proofs.Common.{◌≡◌, ℕ, ◌+◌, ◌≤◌, ◌++◌, List, length, map, filter, drop, sym, ◌∙◌}
use Rattle.std.proofs.Common.{ap, append-nil, arith, rules}
use Rattle.std.proofs.lemmas.List.{at_drop_all}
use Rattle.std.proofs.lemmas.Result.{IfOk-from_err}
use Rattle.cnf.specs.Problem.{SoftClause}
use Rattle.adder.specs.declared.profiles.Relaxing.{Relaxing}
use Rattle.adder.specs.declared.relaxations.Relaxation.{Relaxation}
use Rattle.adder.specs.Network.{relaxing_of, relaxed_from}
use Rattle.adder.specs.Parts.{relaxation_of}
use Rattle.adder.proofs.relaxations.Relaxations.of.Goals as goal

-- at the end nothing is left
all_built : (relaxing : Relaxing) (v i : ℕ) (ss : List SoftClause) (each whole : List Relaxation)
    → length ss ≤ i
    → each ++ map relaxation_of (relaxed_from relaxing v (drop i ss)) ≡ whole → each ≡ whole
all_built relaxing v i ss each whole le e =
    sym (append-nil each)
    ∙ sym (at_drop_all (λ x. each ++ map relaxation_of (relaxed_from relaxing v x)) ss i le) ∙ e

all_numbered : (relaxing : Relaxing) (v i : ℕ) (ss : List SoftClause) (whole : ℕ) → length ss ≤ i
    → v + length (filter (λ e. e.is_fresh) (relaxed_from relaxing v (drop i ss))) ≡ whole
    → v ≡ whole
all_numbered relaxing v i ss whole le e =
    let none =
    at_drop_all (λ x. length (filter (λ e. e.is_fresh) (relaxed_from relaxing v x))) ss i le in
    omega (arith, none, e)

pub after-fresh-requires : goal.after-fresh-requires
after-fresh-requires c =
    omega (
      arith,
      c.vars.ensures.limits.soft_count,
      ap length c.soft-soft_clauses.ensures,
      c.loop-soft.invariant.small,
      c.loop-soft-test.true,
    )

pub returns-clause-each : goal.returns-clause-each
returns-clause-each c =
    all_built (relaxing_of c.args.profile) c.loop-soft.fresh c.loop-soft.soft-index
    c.soft-soft_clauses.result.now c.loop-soft.each.items _ c.loop-soft-test.false
    c.loop-soft.invariant.each

pub returns-clause-fresh : goal.returns-clause-fresh
returns-clause-fresh c =
    all_numbered (relaxing_of c.args.profile) c.loop-soft.fresh c.loop-soft.soft-index
    c.soft-soft_clauses.result.now _ c.loop-soft-test.false c.loop-soft.invariant.fresh

pub digit_count-digits-requires : goal.digit_count-digits-requires
digit_count-digits-requires c = search rules

pub returns-clause-digits : goal.returns-clause-digits
returns-clause-digits c = search rules

pub returns-in_err-each-clause-limits : goal.returns-in_err-each-clause-limits
returns-in_err-each-clause-limits c =
    IfOk-from_err c.from_residual.result _ c.from_residual.ensures.0

pub returns-in_err-each-clause-each : goal.returns-in_err-each-clause-each
returns-in_err-each-clause-each c = IfOk-from_err c.from_residual.result _ c.from_residual.ensures.0

pub returns-in_err-each-clause-fresh : goal.returns-in_err-each-clause-fresh
returns-in_err-each-clause-fresh c =
    IfOk-from_err c.from_residual.result _ c.from_residual.ensures.0

pub returns-in_err-each-clause-digits : goal.returns-in_err-each-clause-digits
returns-in_err-each-clause-digits c =
    IfOk-from_err c.from_residual.result _ c.from_residual.ensures.0

pub returns-in_err-push-clause-limits : goal.returns-in_err-push-clause-limits
returns-in_err-push-clause-limits c =
    IfOk-from_err c.from_residual-in_err-push.result _ c.from_residual-in_err-push.ensures.0

pub returns-in_err-push-clause-each : goal.returns-in_err-push-clause-each
returns-in_err-push-clause-each c =
    IfOk-from_err c.from_residual-in_err-push.result _ c.from_residual-in_err-push.ensures.0

pub returns-in_err-push-clause-fresh : goal.returns-in_err-push-clause-fresh
returns-in_err-push-clause-fresh c =
    IfOk-from_err c.from_residual-in_err-push.result _ c.from_residual-in_err-push.ensures.0

pub returns-in_err-push-clause-digits : goal.returns-in_err-push-clause-digits
returns-in_err-push-clause-digits c =
    IfOk-from_err c.from_residual-in_err-push.result _ c.from_residual-in_err-push.ensures.0
