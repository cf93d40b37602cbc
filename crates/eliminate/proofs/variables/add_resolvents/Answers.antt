-- All pairs of one clause more are resolved.
use Rattle.std.proofs.Common.{List, ℕ, ◌∙◌, inl, sym, subst, arith}
use Rattle.std.specs.Prelude.{All}
use Rattle.std.proofs.lemmas.List.{take_all}
use Rattle.std.proofs.lemmas.List.Elements.{All-nil}
use Rattle.std.proofs.lemmas.Result.{MatchResult-from_err}
use Rattle.cnf.specs.Literal.{negation}
use Rattle.eliminate.specs.Variables.{IsWith, ArePairsResolved}
use Rattle.eliminate.proofs.Growing.{with_later, all_with_later, grows_join, next_pairs}
use Rattle.eliminate.proofs.variables.add_resolvents.Goals as goal

pub add_resolvents_of-requires-clause-first : goal.add_resolvents_of-requires-clause-first
add_resolvents_of-requires-clause-first g c =
    let firsts : All (IsWith c.args.parents.now.pivot c.args.store.now.slots)
    c.deref-first-items.result.now =
    rw c.deref-first-items.ensures.value c.requires.firsts in
    with_later c.args.parents.now.pivot c.args.store.now.slots c.loop-first.store.slots
    c.first-item.result
    c.loop-first.invariant.grows.kept
    (subst (IsWith c.args.parents.now.pivot c.args.store.now.slots) (sym c.first-item.is)
    (firsts c.loop-first.first-index c.first-item.result c.loop-first-test.true))

pub add_resolvents_of-requires-clause-seconds : goal.add_resolvents_of-requires-clause-seconds
add_resolvents_of-requires-clause-seconds g c =
    all_with_later (negation c.args.parents.now.pivot) c.args.store.now.slots
    c.loop-first.store.slots
    c.args.parents.now.negative.items c.loop-first.invariant.grows.kept c.requires.seconds

pub returns-in_err-add_resolvents_of-clause-passes
    : goal.returns-in_err-add_resolvents_of-clause-passes
returns-in_err-add_resolvents_of-clause-passes g c =
    MatchResult-from_err _ _ _ c.from_residual.ensures.0
    (λ _ start h. c.in_err-add_resolvents_of.ensures.passes start
    (c.loop-first.invariant.simplified start h))

pub returns-then-simplifier-clause-grows : goal.returns-then-simplifier-clause-grows
returns-then-simplifier-clause-grows g c =
    grows_join c.args.parents.now.pivot c.args.store.now.slots c.loop-first.store.slots
    c.add_resolvents_of.new.store.slots c.loop-first.invariant.grows
    c.in_ok-add_resolvents_of.ensures.grows

pub loop-first-preserved : goal.loop-first-preserved
loop-first-preserved g c = record {
  simplified =
      λ start h. c.in_ok-add_resolvents_of.ensures.passes start
      (c.loop-first.invariant.simplified start h);
  works = c.if-simplifier.false;
  grows =
      grows_join c.args.parents.now.pivot c.args.store.now.slots c.loop-first.store.slots
      c.add_resolvents_of.new.store.slots c.loop-first.invariant.grows
      c.in_ok-add_resolvents_of.ensures.grows;
  resolved =
      next_pairs c.args.parents.now.pivot c.args.store.now.slots c.loop-first.store.slots
      c.add_resolvents_of.new.store.slots c.deref-first-items.result.now
      c.args.parents.now.negative.items
      c.loop-first.first-index c.first-item.result
      c.loop-first-test.true c.first-item.is c.loop-first.invariant.grows
      c.in_ok-add_resolvents_of.ensures.grows c.loop-first.invariant.resolved
      (c.in_ok-add_resolvents_of.ensures.resolved c.if-simplifier.false);
}

pub returns-clause-resolved : goal.returns-clause-resolved
returns-clause-resolved g c works =
    subst (λ (fs : List ℕ). ArePairsResolved c.args.parents.now.pivot c.args.store.now.slots
    c.loop-first.store.slots fs c.args.parents.now.negative.items)
    (take_all c.loop-first.first-index c.deref-first-items.result.now
    (let e = c.loop-first-test.false in omega arith) ∙ c.deref-first-items.ensures.value)
    c.loop-first.invariant.resolved

pub loop-first-init : goal.loop-first-init
loop-first-init g c = record {
  simplified = λ _ h. h;
  works = c.requires.is_open.going;
  grows = record { kept = λ _ _ e. e; came = λ _ _ e. inl e };
  resolved = All-nil _;
}

pub add_resolvents_of-requires-clause-is_open : goal.add_resolvents_of-requires-clause-is_open
add_resolvents_of-requires-clause-is_open g c =
    let h = c.requires.is_open.simplified in
    record {
      simplified = (h.0, c.loop-first.invariant.simplified h.0 h.1);
      going = c.loop-first.invariant.works;
    }

pub returns-then-simplifier-clause-passes : goal.returns-then-simplifier-clause-passes
returns-then-simplifier-clause-passes g c start h =
    c.in_ok-add_resolvents_of.ensures.passes start (c.loop-first.invariant.simplified start h)

pub returns-clause-passes : goal.returns-clause-passes
returns-clause-passes g c = c.loop-first.invariant.simplified
