-- The clauses are those with the variable, before and after the resolvents are added.
use Rattle.std.proofs.Common.{◌≡◌, ◌∙◌, sym, subst}
use Rattle.std.proofs.lemmas.Result.{MatchResult-from_err}
use Rattle.cnf.specs.Literal.{Literal, negation}
use Rattle.reconstruction.specs.Stack.{IsFree}
use Rattle.cnf.specs.Literal.{positive}
use Rattle.eliminate.specs.State.{Start}
use Rattle.eliminate.specs.Simplifier.{IsSimplified}
use Rattle.eliminate.proofs.Growing.{those_later, those_not_later, pairs_now}
use Rattle.eliminate.proofs.Resolvable.{literals_placed}
use Rattle.eliminate.proofs.Simplified.{log_of}
use Rattle.eliminate.proofs.variables.try_variable.Given.{Over}
use Rattle.eliminate.proofs.variables.try_variable.Goals as goal
use Rattle.eliminate.proofs.variables.try_variable.Goals.{After-find_parents}

pub find_parents-requires-clause-placed : goal.find_parents-requires-clause-placed
find_parents-requires-clause-placed g c r x e =
    literals_placed c.args.simplifier.now c.args.store.now.slots (g.S.Sink.lines c.args.sink.now)
    (c.requires.is_open.simplified.0, c.requires.is_open.simplified.2) r x e

pub add_resolvents-requires-clause-firsts : goal.add_resolvents-requires-clause-firsts
add_resolvents-requires-clause-firsts g c =
    (c.in_ok-find_parents.ensures.positive c.if-not-branch.false).with_it

pub add_resolvents-requires-clause-seconds : goal.add_resolvents-requires-clause-seconds
add_resolvents-requires-clause-seconds g c =
    (c.in_ok-find_parents.ensures.negative c.if-not-branch.false).with_it

pub remove_variable-requires-clause-free : goal.remove_variable-requires-clause-free
remove_variable-requires-clause-free g c =
    subst (λ (l : Literal). IsFree c.args.frozen.now l.variable) (sym c.find_parents.ensures.pivot)
    c.requires.free

pub remove_variable-requires-clause-plain : goal.remove_variable-requires-clause-plain
remove_variable-requires-clause-plain g c =
    subst (λ (l : Literal). l ≡ positive l.variable) (sym c.find_parents.ensures.pivot)
    c.requires.plain

pub remove_variable-requires-clause-firsts : goal.remove_variable-requires-clause-firsts
remove_variable-requires-clause-firsts g c =
    those_later c.find_parents.new.parents.pivot c.args.store.now.slots
    c.add_resolvents.new.store.slots c.find_parents.new.parents.positive.items
    c.in_ok-add_resolvents.ensures.grows
    (c.in_ok-find_parents.ensures.positive c.if-not-branch.false)

pub remove_variable-requires-clause-seconds : goal.remove_variable-requires-clause-seconds
remove_variable-requires-clause-seconds g c =
    those_not_later c.find_parents.new.parents.pivot c.args.store.now.slots
    c.add_resolvents.new.store.slots c.find_parents.new.parents.negative.items
    c.in_ok-add_resolvents.ensures.grows
    (c.in_ok-find_parents.ensures.negative c.if-not-branch.false)

pub remove_variable-requires-clause-resolved : goal.remove_variable-requires-clause-resolved
remove_variable-requires-clause-resolved g c =
    let p : Literal = c.find_parents.new.parents.pivot in
    pairs_now p (negation p) c.args.store.now.slots c.add_resolvents.new.store.slots
    c.find_parents.new.parents.positive.items c.find_parents.new.parents.negative.items
    c.in_ok-add_resolvents.ensures.grows.kept
    (c.in_ok-find_parents.ensures.positive c.if-not-branch.false).with_it
    (c.in_ok-find_parents.ensures.negative c.if-not-branch.false).with_it
    (c.in_ok-add_resolvents.ensures.resolved c.if-simplifier.false)

pub returns-in_err-add_resolvents : goal.returns-in_err-add_resolvents
returns-in_err-add_resolvents g c =
    MatchResult-from_err _ _ _ c.from_residual-in_err-add_resolvents.ensures.0
    (λ _ start same h. c.in_err-add_resolvents.ensures.passes start
    (c.find_parents.ensures.form.stays (g.S.Sink.lines c.args.sink.now) start h))

pub returns-in_err-remove_variable : goal.returns-in_err-remove_variable
returns-in_err-remove_variable g c =
    MatchResult-from_err _ _ _ c.from_residual-in_err-remove_variable.ensures.0
    (λ _ start same h. c.in_err-remove_variable.ensures start same
    (c.in_ok-add_resolvents.ensures.passes start
    (c.find_parents.ensures.form.stays (g.S.Sink.lines c.args.sink.now) start h)))

-- the clauses were found, and nothing else changed
found : (g : Over) (c : After-find_parents g) (start : Start)
    → IsSimplified start c.args.simplifier.now c.args.store.now.slots
    (g.S.Sink.lines c.args.sink.now)
    → IsSimplified start c.find_parents.new.simplifier c.args.store.now.slots
    (g.S.Sink.lines c.args.sink.now)
found g c = c.find_parents.ensures.form.stays (g.S.Sink.lines c.args.sink.now)

pub returns-in_err-find_parents : goal.returns-in_err-find_parents
returns-in_err-find_parents g c =
    MatchResult-from_err _ _ _ c.from_residual.ensures.0
    (λ _ start same h. log_of start c.args.simplifier.now c.args.store.now.slots
    (g.S.Sink.lines c.args.sink.now) h)

pub returns-then-not-branch : goal.returns-then-not-branch
returns-then-not-branch g c start same h =
    found g (goal.at.returns-then-not-branch g c).After-find_parents start h

pub add_resolvents-requires-clause-is_open : goal.add_resolvents-requires-clause-is_open
add_resolvents-requires-clause-is_open g c =
    let h = c.requires.is_open.simplified in
    record {
      simplified = (
        h.0,
        found g (goal.at.add_resolvents-requires-clause-is_open g c).After-find_parents h.0 h.2,
      );
      going = c.find_parents.ensures.form.refuted ∙ c.requires.is_open.going;
    }

pub returns-then-simplifier : goal.returns-then-simplifier
returns-then-simplifier g c start same h =
    c.in_ok-add_resolvents.ensures.passes start
    (found g (goal.at.returns-then-simplifier g c).After-find_parents start h)

pub remove_variable-requires-clause-is_open : goal.remove_variable-requires-clause-is_open
remove_variable-requires-clause-is_open g c =
    let h = c.requires.is_open.simplified in
    record {
      simplified = (
        h.0,
        h.1,
        c.in_ok-add_resolvents.ensures.passes h.0
            (found g (goal.at.remove_variable-requires-clause-is_open g c).After-find_parents h.0
            h.2),
      );
      going = c.if-simplifier.false;
    }

pub returns : goal.returns
returns g c start same h =
    c.in_ok-remove_variable.ensures start same
    (c.in_ok-add_resolvents.ensures.passes start
    (found g (goal.at.returns g c).After-find_parents start h))
