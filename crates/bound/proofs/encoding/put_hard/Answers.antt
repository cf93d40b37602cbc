-- The next clause was put exactly where it has no complementary literals.
use Rattle.std.proofs.Common.{◌≡◌, ◌*◌, ◌≤◌, ◌∷◌, true, false, arith, ap, sym, ◌∙◌, subst, refl}
use Rattle.std.proofs.Common.{length}
use Rattle.std.proofs.lemmas.List.Elements.{All-head, All-tail}
use Rattle.std.proofs.lemmas.Result.{err_from_is_err_and}
use Rattle.std.specs.Prelude.{All}
use Rattle.cnf.specs.Clause.{is_tautology}
use Rattle.cnf.specs.Instance.{IsClauseWithin}
use Rattle.cnf.proofs.Laws.{places_within}
use Rattle.bound.specs.Bound.{kept}
use Rattle.bound.proofs.Streams.{lines_of, none_put, same_left, all_put, hard_put, hard_skipped}
use Rattle.bound.proofs.Streams.{hard_fault}
use Rattle.bound.proofs.encoding.put_hard.Goals as goal

pub is_tautology_by-requires : goal.is_tautology_by-requires
is_tautology_by-requires g c =
    let n = c.args.instance.now.variables in
    let left : All (IsClauseWithin n) (c.in-Some.clause.now ∷ c.next.new.self) =
    subst (All (IsClauseWithin n)) c.in-Some.ensures.steps c.loop-clause.invariant.left in
    let places : 2 * n ≤ length c.loop-clause.marks =
    omega (arith, c.requires, c.loop-clause.invariant.marks) in
    places_within n (length c.loop-clause.marks) c.in-Some.clause.now places
    (All-head (IsClauseWithin n) c.in-Some.clause.now c.next.new.self left)

pub returns-in_err-put_clause : goal.returns-in_err-put_clause
returns-in_err-put_clause g c =
    let p = err_from_is_err_and c.from_residual.result c.from_residual.ensures.1 in
    let n = c.args.instance.now.variables in
    let left : All (IsClauseWithin n) (c.in-Some.clause.now ∷ c.next.new.self) =
    subst (All (IsClauseWithin n)) c.in-Some.ensures.steps c.loop-clause.invariant.left in
    let once = (All-head (IsClauseWithin n) c.in-Some.clause.now c.next.new.self left).0 in
    let e : is_tautology c.in-Some.clause.now ≡ false = sym c.is_tautology_by.ensures.value
    ∙ c.if-not-is_tautology_by.true in
    rw (p.1) (hard_fault _ _ once _ _ _ _ _ _ c.in-Some.ensures.steps c.loop-clause.invariant.put e
    _ c.in_err-put_clause.ensures)

pub loop-clause-init : goal.loop-clause-init
loop-clause-init g c = record {
  put =
      same_left _ _ _ _ _ _ _
      (ap (λ x. lines_of (kept x)) (sym (c.into_iter-clause-iterator.ensures.into_iter_gives
      ∙ c.iter-clause-items.ensures ∙ c.hard.ensures))) (none_put _ _ _);
  marks = refl;
  left =
      subst (All (IsClauseWithin c.args.instance.now.variables))
      (sym (c.into_iter-clause-iterator.ensures.into_iter_gives ∙ c.iter-clause-items.ensures
      ∙ c.hard.ensures)) c.limits.ensures.hard_clauses;
}

pub loop-clause-preserved-in-Continue-1 : goal.loop-clause-preserved-in-Continue-1
loop-clause-preserved-in-Continue-1 g c =
    let n = c.args.instance.now.variables in
    let left : All (IsClauseWithin n) (c.in-Some.clause.now ∷ c.next.new.self) =
    subst (All (IsClauseWithin n)) c.in-Some.ensures.steps c.loop-clause.invariant.left in
    let once = (All-head (IsClauseWithin n) c.in-Some.clause.now c.next.new.self left).0 in
    let e : is_tautology c.in-Some.clause.now ≡ false = sym c.is_tautology_by.ensures.value
    ∙ c.if-not-is_tautology_by.true in
    record {
      put =
          hard_put _ _ once _ _ _ _ _ _ c.in-Some.ensures.steps c.loop-clause.invariant.put e _ _
          c.in_ok-put_clause.ensures;
      marks = c.is_tautology_by.ensures.marks ∙ c.loop-clause.invariant.marks;
      left = All-tail (IsClauseWithin n) c.in-Some.clause.now c.next.new.self left;
    }

pub loop-clause-preserved : goal.loop-clause-preserved
loop-clause-preserved g c =
    let n = c.args.instance.now.variables in
    let left : All (IsClauseWithin n) (c.in-Some.clause.now ∷ c.next.new.self) =
    subst (All (IsClauseWithin n)) c.in-Some.ensures.steps c.loop-clause.invariant.left in
    let once = (All-head (IsClauseWithin n) c.in-Some.clause.now c.next.new.self left).0 in
    let e : is_tautology c.in-Some.clause.now ≡ true = sym c.is_tautology_by.ensures.value
    ∙ c.if-not-is_tautology_by.false in
    record {
      put = hard_skipped _ _ once _ _ _ _ _ _ c.in-Some.ensures.steps c.loop-clause.invariant.put e;
      marks = c.is_tautology_by.ensures.marks ∙ c.loop-clause.invariant.marks;
      left = All-tail (IsClauseWithin n) c.in-Some.clause.now c.next.new.self left;
    }

pub returns : goal.returns
returns g c =
    all_put _ _ _ _ _ (same_left _ _ _ _ _ _ _
    (ap (λ x. lines_of (kept x)) c.in-None.ensures.steps.0) c.loop-clause.invariant.put)
