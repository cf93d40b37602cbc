-- A clause with the variable comes, and the clause with the pair goes.
use Rattle.std.proofs.Common.{◌≡◌, ◌+◌, ◌<◌, ◌^◌, [], ◌∷◌, length, Some, None, slice_set, refl, sym}
use Rattle.std.proofs.Common.{◌∙◌, ap, inr, subst, arith}
use Rattle.std.proofs.lemmas.Result.{MatchResult-from_err}
use Rattle.clauses.specs.Slots.{Slots, clause_at}
use Rattle.lrat_log.specs.Steps.{added_count}
use Rattle.eliminate_pairs.specs.Pairs.{stage_of, replaced, IsDefined, Stage, FitNames}
use Rattle.clauses.proofs.Laws.{clause_kept, live_within}
use Rattle.eliminate_pairs.proofs.Defining.{replaced_is, is_deleted, kept_log}
use Rattle.eliminate_pairs.proofs.Defining.{fit_added, fit_deleted, few_additions, name_stays}
use Rattle.eliminate_pairs.proofs.Leading.{breaks_after, breaks_at, defines_none, move_as}
use Rattle.eliminate_pairs.proofs.Staging.{with_replaced, deleted_stage, replaced_right, gone_right}
use Rattle.eliminate_pairs.proofs.Staging.{replaced_line_of}
use Rattle.eliminate_pairs.proofs.Staging.{defined_after, replaced-is_line, delete-is_line}
use Rattle.eliminate_pairs.proofs.pairs.replace.Given.{Over}
use Rattle.eliminate_pairs.proofs.pairs.replace.Goals as goal
use Rattle.eliminate_pairs.proofs.pairs.replace.Goals.{After-lits, In_ok-new, In_ok-delete}

-- the clause with the pair has a name
within : (g : Over) (c : After-lits g) → c.args.reference < length c.args.store.now.slots
within g c = live_within c.args.store.now.slots c.args.reference c.lits.result.now c.lits.ensures

-- and stays when the other one comes
stays : (g : Over) (c : In_ok-new g) → clause_at c.add.new.store.slots c.args.reference
    ≡ Some c.lits.result.now
stays g c = ap (λ (x : Slots). clause_at x c.args.reference) c.in_ok-new.ensures.slots
    ∙ clause_kept c.args.store.now.slots c.deref.result.now c.lits.result.now c.args.reference
    c.lits.ensures

fits : (g : Over) (c : In_ok-new g)
    → FitNames c.add.new.names c.add.new.store.slots (g.S.Sink.lines c.add.new.sink)
fits g c =
    fit_added c.args.names.now c.add.new.names c.args.store.now.slots c.add.new.store.slots
    (g.S.Sink.lines c.args.sink.now) (g.S.Sink.lines c.add.new.sink) c.deref.result.now _
    c.requires.fit c.in_ok-new.ensures.slots c.in_ok-new.ensures.names c.in_ok-new.ensures.lines
    refl

-- the stage with the clause that came
stage : (g : Over) (c : In_ok-new g)
    → stage_of c.args.definition.now.variable c.add.new.store.slots c.add.new.names
    (g.S.Sink.lines c.add.new.sink)
    ≡ with_replaced (stage_of c.args.definition.now.variable c.args.store.now.slots c.args.names.now
    (g.S.Sink.lines c.args.sink.now)) c.args.definition.now c.args.reference c.lits.result.now
stage g c =
    replaced_is c.args.store.now.slots c.add.new.store.slots c.args.names.now c.add.new.names
    (g.S.Sink.lines c.args.sink.now) (g.S.Sink.lines c.add.new.sink) c.deref.result.now
    c.lits.result.now
    (c.plain-left_side.result ∷ c.plain-right_side.result ∷ c.plain-clause.result ∷ [])
    c.args.definition.now c.args.reference
    c.plain-left_side.result c.plain-right_side.result c.plain-clause.result c.requires.fit.counted
    c.in_ok-new.ensures.slots c.in_ok-new.ensures.names c.in_ok-new.ensures.lines
    (c.deref.ensures.value ∙ c.in_ok-lits.ensures) refl
    c.plain-left_side.ensures.hint c.plain-right_side.ensures.hint c.plain-clause.ensures.hint

pub add-requires-clause-line : goal.add-requires-clause-line
add-requires-clause-line g c =
    let d = c.args.definition.now in
    let lits : c.deref.result.now ≡ replaced d.variable d.left d.right c.lits.result.now =
    c.deref.ensures.value ∙ c.in_ok-lits.ensures in
    rw (
      lits,
      c.plain-left_side.ensures.hint,
      c.plain-right_side.ensures.hint,
      c.plain-clause.ensures.hint,
    )
    (replaced-is_line d.variable d.left d.right c.lits.result.now _ _ _ c.requires.from_one
    c.requires.small (c.requires.pair c.lits.result.now c.lits.ensures).others
    c.plain-left_side.ensures.id c.plain-right_side.ensures.id c.plain-clause.ensures.id)

pub delete-requires-clause-line : goal.delete-requires-clause-line
delete-requires-clause-line g c =
    let lt = within g (goal.at.delete-requires-clause-line g c).After-lits in
    rw (name_stays c.args.names.now c.add.new.names c.args.reference c.in_ok-new.ensures.names
    (omega (arith, c.requires.fit.long))) (delete-is_line _ c.plain-clause.ensures.id)

pub delete-requires-clause-live : goal.delete-requires-clause-live
delete-requires-clause-live g c =
    (c.lits.result.now, stays g (goal.at.delete-requires-clause-live g c).In_ok-new)

pub delete-requires-clause-named : goal.delete-requires-clause-named
delete-requires-clause-named g c =
    let new = (goal.at.delete-requires-clause-named g c).In_ok-new in
    omega (
      arith,
      (fits g new).long,
      live_within c.add.new.store.slots c.args.reference c.lits.result.now
          (stays g new),
    )

pub returns-in_err-new-clause-moves : goal.returns-in_err-new-clause-moves
returns-in_err-new-clause-moves g c =
    MatchResult-from_err _ _ _ c.from_residual-in_err-new.ensures.0 (λ _.
    let s : Stage = stage_of c.args.definition.now.variable c.args.store.now.slots c.args.names.now
    (g.S.Sink.lines c.args.sink.now) in
    breaks_at s (g.S.Sink.lines c.add.new.sink) c.in_err-new.ensures.err
    (kept_log s s (g.S.Sink.lines c.add.new.sink) c.in_err-new.ensures.err (λ ground k. k)))

pub returns-in_err-lits-clause-moves : goal.returns-in_err-lits-clause-moves
returns-in_err-lits-clause-moves g c =
    MatchResult-from_err _ _ _ c.from_residual.ensures.0 (λ _.
    let s : Stage = stage_of c.args.definition.now.variable c.args.store.now.slots c.args.names.now
    (g.S.Sink.lines c.args.sink.now) in
    breaks_at s s.lines refl (kept_log s s s.lines refl (λ ground k. k)))

pub returns-in_err-delete-clause-moves : goal.returns-in_err-delete-clause-moves
returns-in_err-delete-clause-moves g c =
    MatchResult-from_err _ _ _ c.from_residual-in_err-delete.ensures.0 (λ _.
    let d = c.args.definition.now in
    let clause = c.lits.result.now in
    let s : Stage =
    stage_of d.variable c.args.store.now.slots c.args.names.now
    (g.S.Sink.lines c.args.sink.now) in
    let small : added_count s.lines + 3 < 2 ^ 62 = few_additions s.lines c.is_short.ensures in
    let one = stage g (goal.at.returns-in_err-delete-clause-moves g c).In_ok-new in
    let is = c.in_err-delete.ensures.err ∙ ap (λ (x : Stage). x.lines) one in
    breaks_after s (g.S.Sink.lines c.delete.new.sink)
    (replaced_line_of s d c.args.reference clause) is refl
    (kept_log s (with_replaced s d c.args.reference clause) (g.S.Sink.lines c.delete.new.sink) is
    (λ ground k. replaced_right ground s d c.args.reference clause c.requires.defined c.lits.ensures
    (c.requires.pair clause c.lits.ensures) c.requires.small (omega arith) k)))

pub returns-clause-defined : goal.returns-clause-defined
returns-clause-defined g c =
    let d = c.args.definition.now in
    let clause = c.lits.result.now in
    let r = c.args.reference in
    subst (λ (x : Slots). IsDefined x d)
    (sym (c.in_ok-delete.ensures.slots
    ∙ ap (λ (x : Slots). slice_set x r None) c.in_ok-new.ensures.slots))
    (defined_after c.args.store.now.slots d r clause c.deref.result.now c.requires.defined
    c.lits.ensures (c.requires.pair clause c.lits.ensures))

pub returns-clause-fit : goal.returns-clause-fit
returns-clause-fit g c =
    fit_deleted c.add.new.names c.add.new.store.slots c.delete.new.store.slots
    (g.S.Sink.lines c.add.new.sink) (g.S.Sink.lines c.delete.new.sink) c.args.reference _
    (fits g (goal.at.returns-clause-fit g c).In_ok-new) c.in_ok-delete.ensures.slots
    c.in_ok-delete.ensures.lines

-- the stage without the one that goes
left : (g : Over) (c : In_ok-delete g)
    → stage_of c.args.definition.now.variable c.delete.new.store.slots c.add.new.names
    (g.S.Sink.lines c.delete.new.sink)
    ≡ deleted_stage (with_replaced (stage_of c.args.definition.now.variable
    c.args.store.now.slots c.args.names.now (g.S.Sink.lines c.args.sink.now))
    c.args.definition.now c.args.reference c.lits.result.now) c.args.reference
left g c =
    is_deleted c.args.definition.now.variable c.add.new.store.slots c.delete.new.store.slots
    c.add.new.names (g.S.Sink.lines c.add.new.sink) (g.S.Sink.lines c.delete.new.sink)
    c.args.reference c.in_ok-delete.ensures.slots c.in_ok-delete.ensures.lines
    ∙ ap (λ (x : Stage). deleted_stage x c.args.reference)
    (stage g (goal.at.In_ok-delete g c).In_ok-new)

pub returns-clause-moves : goal.returns-clause-moves
returns-clause-moves g c =
    let d = c.args.definition.now in
    let clause = c.lits.result.now in
    let r = c.args.reference in
    let s : Stage =
    stage_of d.variable c.args.store.now.slots c.args.names.now
    (g.S.Sink.lines c.args.sink.now) in
    let small : added_count s.lines + 3 < 2 ^ 62 = few_additions s.lines c.is_short.ensures in
    move_as s (deleted_stage (with_replaced s d r clause) r)
    (stage_of d.variable c.delete.new.store.slots c.add.new.names
    (g.S.Sink.lines c.delete.new.sink)) (left g (goal.at.returns-clause-moves g c).In_ok-delete)
    (record {
      keeps = λ ground k. gone_right ground s d r clause c.requires.defined c.lits.ensures
          (c.requires.pair clause c.lits.ensures) c.requires.small (omega arith) k;
      pair = inr (defines_none s d r clause);
    })

pub plain-left_side-requires : goal.plain-left_side-requires
plain-left_side-requires g c =
    let inside : c.args.definition.now.left_side < length c.args.store.now.slots =
    live_within _ _ _ c.requires.defined.left_side in
    omega (arith, c.requires.fit.long)

pub plain-right_side-requires : goal.plain-right_side-requires
plain-right_side-requires g c =
    let inside : c.args.definition.now.right_side < length c.args.store.now.slots =
    live_within _ _ _ c.requires.defined.right_side in
    omega (arith, c.requires.fit.long)

pub plain-clause-requires : goal.plain-clause-requires
plain-clause-requires g c =
    let inside = within g (goal.at.plain-clause-requires g c).After-lits in
    omega (arith, c.requires.fit.long)

pub add-requires-clause-counted : goal.add-requires-clause-counted
add-requires-clause-counted g c = c.requires.fit.counted
