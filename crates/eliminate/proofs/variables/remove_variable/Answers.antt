-- The variable is gone.
use Rattle.std.proofs.Common.{◌∙◌, ◌≤◌, ℕ, List, sym, subst, arith, length}
use Rattle.std.specs.Prelude.{All}
use Rattle.std.proofs.lemmas.Bool.{both_ways}
use Rattle.std.proofs.lemmas.Result.{MatchResult-from_err}
use Rattle.cnf.specs.Literal.{Literal, negation}
use Rattle.clauses.specs.Slots.{Slots, IsLive}
use Rattle.lrat_log.specs.Log.{LogLine}
use Rattle.eliminate.specs.declared.simplifier.Simplifier.{Simplifier}
use Rattle.reconstruction.specs.Stack.{IsFree}
use Rattle.cnf.specs.Literal.{positive}
use Rattle.reconstruction.specs.Removals.{Removed}
use Rattle.eliminate.specs.State.{IsState}
use Rattle.eliminate.specs.Variables.{AreThoseWith, ArePairsResolved, LeavesOut, KeepsWork}
use Rattle.eliminate.proofs.Deleting.{keeps_join, log_after}
use Rattle.eliminate.proofs.Eliminating.{variable_goes, free_within, line_deletes}
use Rattle.eliminate.proofs.Growing.{those_live}
use Rattle.eliminate.proofs.variables.remove_variable.Goals as goal

pub push-requires-clause-live : goal.push-requires-clause-live
push-requires-clause-live g c =
    subst (λ (rs : List ℕ). All (IsLive c.args.store.now.slots) rs)
    (sym c.deref-firsts.ensures.value)
    (those_live c.args.parents.now.pivot c.args.store.now.slots c.args.parents.now.positive.items
    c.requires.firsts)

pub delete_all-requires-clause-lines : goal.delete_all-requires-clause-lines
delete_all-requires-clause-lines g c r =
    line_deletes c.args.simplifier.now.names.names r
    c.requires.is_open.simplified.2.state.work.named.numbers

pub delete_all-requires-2-clause-lines : goal.delete_all-requires-2-clause-lines
delete_all-requires-2-clause-lines g c r =
    line_deletes c.args.simplifier.now.names.names r
    c.requires.is_open.simplified.2.state.work.named.numbers

pub returns-in_err-delete_all : goal.returns-in_err-delete_all
returns-in_err-delete_all g c =
    MatchResult-from_err _ _ _ c.from_residual-in_err-delete_all.ensures.0
    (λ _ start same h. c.in_err-delete_all.ensures.err _ _ _ h.state.work
    (h.going c.requires.is_open.going))

pub returns-in_err-delete_all-2 : goal.returns-in_err-delete_all-2
returns-in_err-delete_all-2 g c =
    MatchResult-from_err _ _ _ c.from_residual-in_err-delete_all-2.ensures.0
    (λ _ start same h. log_after _ _ _ _ _ _ c.in_ok-delete_all.ensures.work
    c.in_err-delete_all-2.ensures.err _ _ _ h.state.work (h.going c.requires.is_open.going))

pub returns : goal.returns
returns g c start same h =
    let s : Simplifier = c.args.simplifier.now in
    let slots : Slots = c.args.store.now.slots in
    let mid : Slots = c.delete_all.new.store.slots in
    let left : Slots = c.delete_all-2.new.store.slots in
    let ls : List LogLine = g.S.Sink.lines c.args.sink.now in
    let most : List LogLine = g.S.Sink.lines c.delete_all-2.new.sink in
    let p : Literal = c.args.parents.now.pivot in
    let v = p.variable in
    let firsts : List ℕ = c.args.parents.now.positive.items in
    let seconds : List ℕ = c.args.parents.now.negative.items in
    let free : IsFree start.frozen v = subst (λ xs. IsFree xs v) (sym same) c.requires.free in
    let few : v ≤ length start.frozen = free_within start.frozen v free in
    let below : v ≤ s.vars = (let given = h.given in omega arith) in
    let work : KeepsWork s.names.names slots ls left most =
    keeps_join s.names.names slots mid left ls (g.S.Sink.lines c.delete_all.new.sink) most
    c.in_ok-delete_all.ensures.work c.in_ok-delete_all-2.ensures.work in
    let with_it : AreThoseWith (positive v) slots firsts =
    subst (λ (l : Literal). AreThoseWith l slots firsts) c.requires.plain c.requires.firsts in
    let with_not : AreThoseWith (negation (positive v)) slots seconds =
    subst (λ (l : Literal). AreThoseWith (negation l) slots seconds) c.requires.plain
    c.requires.seconds in
    let resolved : ArePairsResolved (positive v) slots slots firsts seconds =
    subst (λ (l : Literal). ArePairsResolved l slots slots firsts seconds) c.requires.plain
    c.requires.resolved in
    let out : LeavesOut firsts slots mid =
    subst (λ (rs : List ℕ). LeavesOut rs slots mid) c.deref-firsts.ensures.value
    c.in_ok-delete_all.ensures.left in
    let out_too : LeavesOut seconds mid left =
    subst (λ (rs : List ℕ). LeavesOut rs mid left) c.deref-seconds.ensures.value
    c.in_ok-delete_all-2.ensures.left in
    let pushed =
    rw (c.variable-variable.ensures.variable, c.deref-firsts.ensures.value) at
    c.in_ok-push.ensures in
    let state =
    variable_goes start s slots mid left ls most v firsts seconds h with_it with_not resolved
    out out_too c.requires.is_open.going
    free (
      free.0,
      below,
    ) work in
    record {
      state =
          subst (λ (rs : List Removed). IsState start s.vars left s.names.names most
          s.occurrences.rows rs)
          (sym pushed) state;
      counted =
          h.counted ∙ sym (c.in_ok-delete_all-2.ensures.counted
          ∙ c.in_ok-delete_all.ensures.counted);
      marks = h.marks;
      few = h.few;
      given = h.given;
      fresh = h.fresh;
      going = λ e. (work _ _ _ h.state.work (h.going c.requires.is_open.going)).1;
      refuted = λ e. absurd (both_ways s.is_refuted c.requires.is_open.going e);
    }
