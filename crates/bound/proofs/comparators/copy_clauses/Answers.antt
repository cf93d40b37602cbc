-- The next clause has no repeat, as the others.
use Rattle.std.proofs.Common.{◌≡◌, false, ◌∷◌, [], ◌++◌, ap, sym, ◌∙◌, subst}
use Rattle.std.proofs.lemmas.List.{append_assoc}
use Rattle.std.proofs.lemmas.List.Elements.{All-head, All-tail}
use Rattle.std.specs.Prelude.{All}
use Rattle.cnf.specs.Clause.{has_repeat}
use Rattle.bound.proofs.comparators.copy_clauses.Goals as goal

pub new-requires : goal.new-requires
new-requires c =
    let left : All (λ x. has_repeat x ≡ false) (c.in-Some.clause.now ∷ c.next.new.self) =
    subst (All (λ x. has_repeat x ≡ false)) c.in-Some.ensures.steps c.loop-clause.invariant.left
    in
    rw (c.in_ok-from_slice.ensures.items)
    (All-head (λ x. has_repeat x ≡ false) c.in-Some.clause.now c.next.new.self left)

pub loop-clause-preserved : goal.loop-clause-preserved
loop-clause-preserved c =
    let left : All (λ x. has_repeat x ≡ false) (c.in-Some.clause.now ∷ c.next.new.self) =
    subst (All (λ x. has_repeat x ≡ false)) c.in-Some.ensures.steps c.loop-clause.invariant.left
    in
    record {
      copied =
          ap (λ cs. cs ++ c.next.new.self) (c.in_ok-push.ensures.items
          ∙ ap (λ x. c.loop-clause.owned.items ++ x ∷ []) (c.new.ensures
          ∙ c.in_ok-from_slice.ensures.items))
          ∙ append_assoc c.loop-clause.owned.items (c.in-Some.clause.now ∷ []) c.next.new.self
          ∙ ap (λ cs. c.loop-clause.owned.items ++ cs) (sym c.in-Some.ensures.steps)
          ∙ c.loop-clause.invariant.copied;
      left = All-tail (λ x. has_repeat x ≡ false) c.in-Some.clause.now c.next.new.self left;
    }
