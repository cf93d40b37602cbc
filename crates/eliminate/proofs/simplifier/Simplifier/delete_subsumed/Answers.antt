-- A simplified form without a clause that another one subsumes.
use Rattle.std.proofs.Common.{◌<◌, sym, subst, refl, List, None, set}
use Rattle.std.proofs.lemmas.Result.{MatchResult-from_err}
use Rattle.clauses.specs.Slots.{Slots}
use Rattle.lrat_log.specs.Log.{LogLine}
use Rattle.eliminate.specs.declared.simplifier.Simplifier.{Simplifier}
use Rattle.eliminate.specs.Simplifier.{IsSimplified}
use Rattle.clauses.proofs.Laws.{live_within}
use Rattle.lrat_log.proofs.Laws.{when_err}
use Rattle.eliminate.proofs.Eliminating.{line_deletes}
use Rattle.eliminate.proofs.Simplified.{simplified_subsumed, log_of}
use Rattle.eliminate.proofs.simplifier.Simplifier.delete_subsumed.Goals as goal

pub returns-clause-passes : goal.returns-clause-passes
returns-clause-passes g c start h =
    let s : Simplifier = c.args.self.now in
    let t : Simplifier = record s { schedule = c.leave.new.self } in
    let slots : Slots = c.args.store.now.slots in
    let ls : List LogLine = g.S.Sink.lines c.args.sink.now in
    let r = c.args.reference in
    let live = c.requires.live in
    let subsumed = c.requires.subsumed in
    let by = subsumed.live in
    let kept =
    simplified_subsumed start s t slots ls r c.args.by by.0 live.0 h c.requires.is_open.going
    subsumed.other live.1 by.1 (subsumed.beside by.0 live.0 by.1 live.1)
    (record {
      vars = refl;
      names = refl;
      occurrences = refl;
      removals = refl;
      marks = refl;
      refuted = refl;
    }) in
    subst (λ (xs : Slots). IsSimplified start t xs (g.S.Sink.lines c.delete.new.sink))
    (sym c.in_ok-delete.ensures.slots)
    (subst (λ (ks : List LogLine). IsSimplified start t (set slots r None) ks)
    (sym c.in_ok-delete.ensures.lines) kept)

pub returns-in_err-leave-clause-passes : goal.returns-in_err-leave-clause-passes
returns-in_err-leave-clause-passes g c =
    MatchResult-from_err _ _ _ c.from_residual.ensures.0
    (λ _ start h. log_of start c.args.self.now c.args.store.now.slots
    (g.S.Sink.lines c.args.sink.now) h)

pub returns-in_err-leave-clause-err : goal.returns-in_err-leave-clause-err
returns-in_err-leave-clause-err g c = when_err _ refl

pub delete-requires-clause-named : goal.delete-requires-clause-named
delete-requires-clause-named g c =
    let live = c.requires.live in
    subst (λ n. c.args.reference < n) (sym c.requires.is_open.simplified.1.state.work.named.long)
    (live_within c.args.store.now.slots c.args.reference live.0 live.1)

pub delete-requires-clause-line : goal.delete-requires-clause-line
delete-requires-clause-line g c =
    line_deletes c.args.self.now.names.names c.args.reference
    c.requires.is_open.simplified.1.state.work.named.numbers

pub returns-in_err-delete-clause-passes : goal.returns-in_err-delete-clause-passes
returns-in_err-delete-clause-passes g c =
    MatchResult-from_err _ _ _ c.from_residual-in_err-delete.ensures.0
    (λ _ start h. rw c.in_err-delete.ensures.err
    (log_of start c.args.self.now c.args.store.now.slots (g.S.Sink.lines c.args.sink.now) h))

pub returns-in_err-delete-clause-err : goal.returns-in_err-delete-clause-err
returns-in_err-delete-clause-err g c = when_err _ c.in_err-delete.ensures.err

pub returns-clause-deletes : goal.returns-clause-deletes
returns-clause-deletes g c = record {
  slots = c.in_ok-delete.ensures.slots;
  going = c.requires.is_open.going;
  vars = refl;
  removals = refl;
}
