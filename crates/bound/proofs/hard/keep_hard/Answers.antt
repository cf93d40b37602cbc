-- One clause more was kept, and its literals have places.
use Rattle.std.proofs.Common.{◌*◌, ◌≤◌, ◌++◌, [], ◌∷◌, ◌∙◌, ap, sym, subst, arith, length}
use Rattle.std.proofs.lemmas.List.{append_assoc}
use Rattle.std.proofs.lemmas.List.Elements.{All-head, All-tail}
use Rattle.std.specs.Prelude.{All}
use Rattle.cnf.specs.Instance.{IsClauseWithin}
use Rattle.cnf.proofs.Laws.{places_within}
use Rattle.bound.specs.Bound.{kept}
use Rattle.bound.proofs.Kept.{kept-append}
use Rattle.bound.proofs.hard.keep_hard.Goals as goal
use Rattle.bound.proofs.hard.keep_hard.Goals.{After-next}

pub keep-requires-clause-places : goal.keep-requires-clause-places
keep-requires-clause-places c =
    let n = c.args.instance.now.variables in
    let left : All (IsClauseWithin n) (c.in-Some.clause.now ∷ c.next.new.self) =
    subst (All (IsClauseWithin n)) c.in-Some.ensures.steps c.loop-clause.invariant.left in
    let places : 2 * n ≤ length c.loop-clause.marks =
    omega (arith, c.requires, c.loop-clause.invariant.marks) in
    places_within n (length c.loop-clause.marks) c.in-Some.clause.now places
    (All-head (IsClauseWithin n) c.in-Some.clause.now c.next.new.self left)

pub loop-clause-preserved : goal.loop-clause-preserved
loop-clause-preserved c =
    let n = c.args.instance.now.variables in
    let steps = c.in-Some.ensures.steps in
    let left : All (IsClauseWithin n) (c.in-Some.clause.now ∷ c.next.new.self) =
    subst (All (IsClauseWithin n)) steps c.loop-clause.invariant.left in
    record {
      added =
          ap (λ cs. cs ++ kept c.next.new.self) c.in_ok-keep.ensures.clauses
          ∙ append_assoc c.loop-clause.clauses (kept (c.in-Some.clause.now ∷ []))
          (kept c.next.new.self)
          ∙ ap (λ cs. c.loop-clause.clauses ++ cs)
          (sym (kept-append (c.in-Some.clause.now ∷ []) c.next.new.self) ∙ ap kept (sym steps))
          ∙ c.loop-clause.invariant.added;
      marks = c.in_ok-keep.ensures.marks ∙ c.loop-clause.invariant.marks;
      left = All-tail (IsClauseWithin n) c.in-Some.clause.now c.next.new.self left;
    }
