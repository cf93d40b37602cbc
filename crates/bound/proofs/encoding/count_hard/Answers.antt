-- The next clause counts exactly where it has no complementary literals.
use Rattle.std.proofs.Common.{◌≡◌, ◌+◌, ◌*◌, ◌≤◌, ◌<◌, ◌^◌, ◌∷◌, length, true, false, arith, ap}
use Rattle.std.proofs.Common.{sym, ◌∙◌, subst, rules}
use Rattle.std.proofs.lemmas.List.Elements.{All-head, All-tail}
use Rattle.std.specs.Prelude.{All}
use Rattle.cnf.specs.Clause.{is_tautology}
use Rattle.cnf.specs.Instance.{IsClauseWithin}
use Rattle.cnf.proofs.Laws.{places_within}
use Rattle.bound.specs.Bound.{kept}
use Rattle.bound.proofs.Few.{kept_le}
use Rattle.bound.proofs.Streams.{hard_counted, hard_passed}
use Rattle.bound.proofs.encoding.count_hard.Goals as goal

pub is_tautology_by-requires : goal.is_tautology_by-requires
is_tautology_by-requires c =
    let n = c.args.instance.now.variables in
    let left : All (IsClauseWithin n) (c.in-Some.clause.now ∷ c.next.new.self) =
    subst (All (IsClauseWithin n)) c.in-Some.ensures.steps c.loop-clause.invariant.left in
    let places : 2 * n ≤ length c.loop-clause.marks =
    omega (arith, c.requires, c.loop-clause.invariant.marks) in
    places_within n (length c.loop-clause.marks) c.in-Some.clause.now places
    (All-head (IsClauseWithin n) c.in-Some.clause.now c.next.new.self left)

pub overflow_add-count : goal.overflow_add-count
overflow_add-count c =
    let p = c.args.instance.now in
    let few : c.loop-clause.count + 1 < 2 ^ 64 =
    omega (
      arith,
      c.loop-clause.invariant.counted,
      kept_le p.hard,
      c.limits.ensures.hard_count,
    ) in
    search rules

pub loop-clause-preserved-then-not-is_tautology_by :
    goal.loop-clause-preserved-then-not-is_tautology_by
loop-clause-preserved-then-not-is_tautology_by c =
    let n = c.args.instance.now.variables in
    let left : All (IsClauseWithin n) (c.in-Some.clause.now ∷ c.next.new.self) =
    subst (All (IsClauseWithin n)) c.in-Some.ensures.steps c.loop-clause.invariant.left in
    let once = (All-head (IsClauseWithin n) c.in-Some.clause.now c.next.new.self left).0 in
    let e : is_tautology c.in-Some.clause.now ≡ false = sym c.is_tautology_by.ensures.value
    ∙ c.if-not-is_tautology_by.true in
    record {
      counted =
          omega (
            arith,
            c.loop-clause.invariant.counted,
            ap (λ x. length (kept x)) c.in-Some.ensures.steps,
            hard_counted c.in-Some.clause.now c.next.new.self once e,
          );
      marks = c.is_tautology_by.ensures.marks ∙ c.loop-clause.invariant.marks;
      left = All-tail (IsClauseWithin n) c.in-Some.clause.now c.next.new.self left;
    }

pub loop-clause-preserved : goal.loop-clause-preserved
loop-clause-preserved c =
    let n = c.args.instance.now.variables in
    let left : All (IsClauseWithin n) (c.in-Some.clause.now ∷ c.next.new.self) =
    subst (All (IsClauseWithin n)) c.in-Some.ensures.steps c.loop-clause.invariant.left in
    let once = (All-head (IsClauseWithin n) c.in-Some.clause.now c.next.new.self left).0 in
    let e : is_tautology c.in-Some.clause.now ≡ true = sym c.is_tautology_by.ensures.value
    ∙ c.if-not-is_tautology_by.false in
    record {
      counted =
          omega (
            arith,
            c.loop-clause.invariant.counted,
            ap (λ x. length (kept x)) c.in-Some.ensures.steps,
            hard_passed c.in-Some.clause.now c.next.new.self once e,
          );
      marks = c.is_tautology_by.ensures.marks ∙ c.loop-clause.invariant.marks;
      left = All-tail (IsClauseWithin n) c.in-Some.clause.now c.next.new.self left;
    }
