-- One pair more is resolved.
use Rattle.std.proofs.Common.{◌∙◌, inl, sym, subst, arith}
use Rattle.std.specs.Prelude.{All}
use Rattle.std.proofs.lemmas.Bool.{both_ways}
use Rattle.std.proofs.lemmas.List.{take_all}
use Rattle.std.proofs.lemmas.List.Elements.{All-nil}
use Rattle.std.proofs.lemmas.Result.{MatchResult-from_err}
use Rattle.cnf.specs.Literal.{negation}
use Rattle.eliminate.specs.Variables.{IsWith, IsPairResolved}
use Rattle.eliminate.proofs.Growing.{with_later, grows_join, next_pair}
use Rattle.eliminate.proofs.variables.add_resolvents_of.Goals as goal

pub add_resolvent-requires-clause-second : goal.add_resolvent-requires-clause-second
add_resolvent-requires-clause-second g c =
    let seconds : All (IsWith (negation c.args.parents.now.pivot) c.args.store.now.slots)
    c.deref-second-items.result.now =
    rw c.deref-second-items.ensures.value c.requires.seconds in
    with_later (negation c.args.parents.now.pivot) c.args.store.now.slots c.loop-second.store.slots
    c.second-item.result c.loop-second.invariant.grows.kept
    (subst (IsWith (negation c.args.parents.now.pivot) c.args.store.now.slots) (sym
    c.second-item.is)
    (seconds c.loop-second.second-index c.second-item.result
    c.loop-second-test.true))

pub returns-in_err-add_resolvent-clause-passes : goal.returns-in_err-add_resolvent-clause-passes
returns-in_err-add_resolvent-clause-passes g c =
    MatchResult-from_err _ _ _ c.from_residual.ensures.0
    (λ _ start h. c.in_err-add_resolvent.ensures.passes start
    (c.loop-second.invariant.simplified start h))

pub returns-then-simplifier-clause-grows : goal.returns-then-simplifier-clause-grows
returns-then-simplifier-clause-grows g c =
    grows_join c.args.parents.now.pivot c.args.store.now.slots c.loop-second.store.slots
    c.add_resolvent.new.store.slots c.loop-second.invariant.grows
    c.in_ok-add_resolvent.ensures.grows

pub loop-second-preserved : goal.loop-second-preserved
loop-second-preserved g c = record {
  simplified =
      λ start h. c.in_ok-add_resolvent.ensures.passes start
      (c.loop-second.invariant.simplified start h);
  works = c.if-simplifier.false;
  grows =
      grows_join c.args.parents.now.pivot c.args.store.now.slots c.loop-second.store.slots
      c.add_resolvent.new.store.slots c.loop-second.invariant.grows
      c.in_ok-add_resolvent.ensures.grows;
  resolved =
      next_pair c.args.parents.now.pivot c.args.store.now.slots c.loop-second.store.slots
      c.add_resolvent.new.store.slots c.args.first c.deref-second-items.result.now
      c.loop-second.second-index
      c.second-item.result
      c.loop-second-test.true c.second-item.is c.loop-second.invariant.grows
      c.in_ok-add_resolvent.ensures.grows c.loop-second.invariant.resolved
      c.in_ok-add_resolvent.ensures.resolved;
}

pub returns-clause-resolved : goal.returns-clause-resolved
returns-clause-resolved g c works =
    subst (All (IsPairResolved c.args.parents.now.pivot c.args.store.now.slots
    c.loop-second.store.slots
    c.args.first)) (take_all c.loop-second.second-index c.deref-second-items.result.now
    (let e = c.loop-second-test.false in omega arith) ∙ c.deref-second-items.ensures.value)
    c.loop-second.invariant.resolved

pub loop-second-init : goal.loop-second-init
loop-second-init g c = record {
  simplified = λ _ h. h;
  works = c.requires.is_open.going;
  grows = record { kept = λ _ _ e. e; came = λ _ _ e. inl e };
  resolved = All-nil _;
}

pub add_resolvent-requires-clause-is_open : goal.add_resolvent-requires-clause-is_open
add_resolvent-requires-clause-is_open g c =
    let h = c.requires.is_open.simplified in
    record {
      simplified = (h.0, c.loop-second.invariant.simplified h.0 h.1);
      going = c.loop-second.invariant.works;
    }

pub add_resolvent-requires-clause-first : goal.add_resolvent-requires-clause-first
add_resolvent-requires-clause-first g c =
    with_later c.args.parents.now.pivot c.args.store.now.slots c.loop-second.store.slots
    c.args.first c.loop-second.invariant.grows.kept c.requires.first

pub returns-then-simplifier-clause-passes : goal.returns-then-simplifier-clause-passes
returns-then-simplifier-clause-passes g c start h =
    c.in_ok-add_resolvent.ensures.passes start (c.loop-second.invariant.simplified start h)

pub returns-then-simplifier-clause-resolved : goal.returns-then-simplifier-clause-resolved
returns-then-simplifier-clause-resolved g c works =
    absurd (both_ways _ works c.if-simplifier.true)

pub returns-clause-passes : goal.returns-clause-passes
returns-clause-passes g c = c.loop-second.invariant.simplified

pub returns-clause-grows : goal.returns-clause-grows
returns-clause-grows g c = c.loop-second.invariant.grows
