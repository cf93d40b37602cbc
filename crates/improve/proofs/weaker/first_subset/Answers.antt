-- From clause to clause.
use Rattle.std.proofs.Common.{true, false, sym, ◌∙◌, ap, arith}
use Rattle.std.proofs.lemmas.List.{drop_all, length-map}
use Rattle.lrat_log.specs.Log.{clauses_in}
use Rattle.improve.specs.Weaker.{first_subset}
use Rattle.improve.proofs.FirstSubsets.{first_at}
use Rattle.improve.proofs.weaker.first_subset.Goals as goal

pub returns-then-is_subset : goal.returns-then-is_subset
returns-then-is_subset c =
    sym (c.loop-place.invariant.rest
    ∙ first_at (clauses_in c.args.given.now) c.args.lits.now c.lits.result.now
    c.loop-place.number c.loop-place.place true c.lits.ensures
    (sym c.is_subset.ensures ∙ c.if-is_subset.true))

pub loop-place-preserved : goal.loop-place-preserved
loop-place-preserved c =
    let i = c.loop-place.invariant in
    record {
      number = (let number = i.number in omega (arith, number));
      rest = i.rest
          ∙ first_at (clauses_in c.args.given.now) c.args.lits.now c.lits.result.now
          c.loop-place.number c.loop-place.place false c.lits.ensures
          (sym c.is_subset.ensures ∙ c.if-is_subset.false);
    }

pub returns : goal.returns
returns c =
    let cs = clauses_in c.args.given.now in
    sym (c.loop-place.invariant.rest
    ∙ ap (λ ds. first_subset c.loop-place.number ds c.args.lits.now)
    (drop_all c.loop-place.place cs (omega (
      arith,
      length-map c.args.given.now (λ x. x.1),
      c.loop-place-test.false,
      c.len-place-end.ensures.len,
    ))))
