-- The three clauses of a definition, one after another.
use Rattle.std.proofs.Common.{◌≡◌, ◌+◌, [], ◌∷◌, ◌++◌, List, length, Option, Some, inl, refl, ◌∙◌}
use Rattle.std.proofs.Common.{ap, arith, length-append}
use Rattle.std.proofs.lemmas.Bool.{false≢true}
use Rattle.std.proofs.lemmas.List.Elements.{All-nil}
use Rattle.std.proofs.lemmas.Result.{MatchResult-from_err}
use Rattle.cnf.specs.Literal.{Literal, negation}
use Rattle.clauses.specs.Slots.{Slots}
use Rattle.eliminate_pairs.specs.Pairs.{positive, stage_of, whole_clause, Stage, FitNames}
use Rattle.eliminate_pairs.proofs.Defining.{whole_is, side_is, defined_is, kept_log}
use Rattle.eliminate_pairs.proofs.Defining.{fit_added, few_additions}
use Rattle.eliminate_pairs.proofs.Staging.{with_whole, with_side, whole_right, left_right}
use Rattle.eliminate_pairs.proofs.Staging.{right_right}
use Rattle.eliminate_pairs.proofs.Leading.{breaks_at, breaks_first, breaks_second, defines_often}
use Rattle.eliminate_pairs.proofs.Leading.{move_as}
use Rattle.eliminate_pairs.proofs.Meetings.{shares}
use Rattle.eliminate_pairs.proofs.pairs.define.Given.{Over}
use Rattle.eliminate_pairs.proofs.pairs.define.Goals as goal
use Rattle.eliminate_pairs.proofs.pairs.define.Goals.{In_ok-whole, In_ok-left_side}
use Rattle.eliminate_pairs.proofs.pairs.define.Goals.{In_ok-right_side}

-- the names with the first clause, and the stage with it
whole_fits : (g : Over) (c : In_ok-whole g)
    → FitNames c.add.new.names c.add.new.store.slots (g.S.Sink.lines c.add.new.sink)
whole_fits g c =
    fit_added c.args.names.now c.add.new.names c.args.store.now.slots c.add.new.store.slots
    (g.S.Sink.lines c.args.sink.now) (g.S.Sink.lines c.add.new.sink) _ _ c.requires.fit
    c.in_ok-whole.ensures.slots c.in_ok-whole.ensures.names c.in_ok-whole.ensures.lines refl

whole_stage : (g : Over) (c : In_ok-whole g)
    → stage_of (c.args.pair.now.vars + 1) c.add.new.store.slots c.add.new.names
    (g.S.Sink.lines c.add.new.sink) ≡ with_whole
    (stage_of c.args.pair.now.vars c.args.store.now.slots c.args.names.now
    (g.S.Sink.lines c.args.sink.now)) c.args.pair.now.left c.args.pair.now.right
whole_stage g c =
    whole_is c.args.pair.now.vars c.args.store.now.slots c.add.new.store.slots c.args.names.now
    c.add.new.names (g.S.Sink.lines c.args.sink.now) (g.S.Sink.lines c.add.new.sink)
    c.whole_lits-lits.result [] (negation (positive (c.args.pair.now.vars + 1)))
    c.args.pair.now.left c.args.pair.now.right c.requires.fit.counted
    c.in_ok-whole.ensures.slots c.in_ok-whole.ensures.names c.in_ok-whole.ensures.lines
    c.whole_lits-lits.ensures.clause refl refl

-- and those of the side of the left literal
left_fits : (g : Over) (c : In_ok-left_side g)
    → FitNames c.add_side.new.names c.add_side.new.store.slots
    (g.S.Sink.lines c.add_side.new.sink)
left_fits g c =
    fit_added c.add.new.names c.add_side.new.names c.add.new.store.slots c.add_side.new.store.slots
    (g.S.Sink.lines c.add.new.sink) (g.S.Sink.lines c.add_side.new.sink) _ _
    (whole_fits g (goal.at.In_ok-left_side g c).In_ok-whole) c.in_ok-left_side.ensures.adds.slots
    c.in_ok-left_side.ensures.adds.names c.in_ok-left_side.ensures.adds.lines refl

left_stage : (g : Over) (c : In_ok-left_side g)
    → stage_of (c.args.pair.now.vars + 1) c.add_side.new.store.slots c.add_side.new.names
    (g.S.Sink.lines c.add_side.new.sink)
    ≡ with_side (with_whole (stage_of c.args.pair.now.vars c.args.store.now.slots c.args.names.now
    (g.S.Sink.lines c.args.sink.now)) c.args.pair.now.left c.args.pair.now.right)
    (length c.args.store.now.slots) c.args.pair.now.left
left_stage g c =
    let w = (goal.at.In_ok-left_side g c).In_ok-whole in
    let s : Stage =
    stage_of c.args.pair.now.vars c.args.store.now.slots c.args.names.now
    (g.S.Sink.lines c.args.sink.now) in
    side_is (c.args.pair.now.vars + 1) c.add.new.store.slots c.add_side.new.store.slots
    c.add.new.names
    c.add_side.new.names (g.S.Sink.lines c.add.new.sink) (g.S.Sink.lines c.add_side.new.sink)
    (with_whole s c.args.pair.now.left c.args.pair.now.right) c.in_ok-whole.whole (length s.slots)
    c.args.pair.now.left
    (whole_fits g w).counted c.in_ok-left_side.ensures.adds.slots
    c.in_ok-left_side.ensures.adds.names c.in_ok-left_side.ensures.adds.lines (whole_stage g w)
    c.in_ok-whole.ensures.reference

pub add_side-requires-clause-counted : goal.add_side-requires-clause-counted
add_side-requires-clause-counted g c =
    (whole_fits g (goal.at.add_side-requires-clause-counted g c).In_ok-whole).counted

pub add_side-requires-2-clause-counted : goal.add_side-requires-2-clause-counted
add_side-requires-2-clause-counted g c =
    (left_fits g (goal.at.add_side-requires-2-clause-counted g c).In_ok-left_side).counted

pub returns-clause-fit : goal.returns-clause-fit
returns-clause-fit g c =
    fit_added c.add_side.new.names c.add_side-2.new.names c.add_side.new.store.slots
    c.add_side-2.new.store.slots (g.S.Sink.lines c.add_side.new.sink)
    (g.S.Sink.lines c.add_side-2.new.sink) _ _
    (left_fits g (goal.at.returns-clause-fit g c).In_ok-left_side)
    c.in_ok-right_side.ensures.adds.slots c.in_ok-right_side.ensures.adds.names
    c.in_ok-right_side.ensures.adds.lines refl

pub returns-in_err-left_side-clause-moves : goal.returns-in_err-left_side-clause-moves
returns-in_err-left_side-clause-moves g c =
    MatchResult-from_err _ _ _ c.from_residual-in_err-left_side.ensures.0 (λ _.
    let a = c.args.pair.now.left in
    let b = c.args.pair.now.right in
    let s : Stage =
    stage_of c.args.pair.now.vars c.args.store.now.slots c.args.names.now
    (g.S.Sink.lines c.args.sink.now) in
    let one = whole_stage g (goal.at.returns-in_err-left_side-clause-moves g c).In_ok-whole in
    let is = c.in_err-left_side.ensures.err ∙ ap (λ (x : Stage). x.lines) one in
    breaks_first s (g.S.Sink.lines c.add_side.new.sink) a b c.requires.often is
    (kept_log s (with_whole s a b) (g.S.Sink.lines c.add_side.new.sink) is
    (λ ground k. whole_right ground s a b (shares a b s.slots c.requires.often) c.requires.room
    (few_additions s.lines c.is_short.ensures) k)))

pub returns-in_err-right_side-clause-moves : goal.returns-in_err-right_side-clause-moves
returns-in_err-right_side-clause-moves g c =
    MatchResult-from_err _ _ _ c.from_residual-in_err-right_side.ensures.0 (λ _.
    let a = c.args.pair.now.left in
    let b = c.args.pair.now.right in
    let s : Stage =
    stage_of c.args.pair.now.vars c.args.store.now.slots c.args.names.now
    (g.S.Sink.lines c.args.sink.now) in
    let two = left_stage g (goal.at.returns-in_err-right_side-clause-moves g c).In_ok-left_side in
    let is = c.in_err-right_side.ensures.err ∙ ap (λ (x : Stage). x.lines) two in
    breaks_second s (g.S.Sink.lines c.add_side-2.new.sink) a b (length s.slots) c.requires.often is
    (kept_log s (with_side (with_whole s a b) (length s.slots) a)
    (g.S.Sink.lines c.add_side-2.new.sink) is
    (λ ground k. left_right ground s a b (shares a b s.slots c.requires.often) c.requires.room
    (few_additions s.lines c.is_short.ensures) k)))

pub returns-in_err-whole-clause-moves : goal.returns-in_err-whole-clause-moves
returns-in_err-whole-clause-moves g c =
    MatchResult-from_err _ _ _ c.from_residual.ensures.0 (λ _.
    let s : Stage =
    stage_of c.args.pair.now.vars c.args.store.now.slots c.args.names.now
    (g.S.Sink.lines c.args.sink.now) in
    breaks_at s (g.S.Sink.lines c.add.new.sink) c.in_err-whole.ensures.err
    (kept_log s s (g.S.Sink.lines c.add.new.sink) c.in_err-whole.ensures.err (λ ground k. k)))

pub returns-clause-defined : goal.returns-clause-defined
returns-clause-defined g c =
    let v = c.args.pair.now.vars in
    let a = c.args.pair.now.left in
    let b = c.args.pair.now.right in
    let slots : Slots = c.args.store.now.slots in
    let is : c.whole_lits-lits.result ≡ whole_clause (v + 1) a b =
    c.whole_lits-lits.ensures.clause in
    let d =
    defined_is slots c.add.new.store.slots c.add_side.new.store.slots c.add_side-2.new.store.slots
    (v + 1) a b c.in_ok-whole.whole c.in_ok-left_side.left_side c.in_ok-right_side.right_side
    (c.in_ok-whole.ensures.slots ∙ ap (λ x. slots ++ Some x ∷ []) is)
    c.in_ok-left_side.ensures.adds.slots c.in_ok-right_side.ensures.adds.slots
    c.in_ok-whole.ensures.reference c.in_ok-left_side.ensures.adds.reference
    c.in_ok-right_side.ensures.adds.reference in
    record { whole = d.0; left_side = d.1; right_side = d.2; two = c.requires.often.two }

-- the stage with all three
right_stage : (g : Over) (c : In_ok-right_side g)
    → stage_of (c.args.pair.now.vars + 1) c.add_side-2.new.store.slots c.add_side-2.new.names
    (g.S.Sink.lines c.add_side-2.new.sink)
    ≡ with_side (with_side (with_whole (stage_of c.args.pair.now.vars c.args.store.now.slots
    c.args.names.now
    (g.S.Sink.lines c.args.sink.now)) c.args.pair.now.left c.args.pair.now.right)
    (length c.args.store.now.slots) c.args.pair.now.left) (length c.args.store.now.slots)
    c.args.pair.now.right
right_stage g c =
    let s : Stage =
    stage_of c.args.pair.now.vars c.args.store.now.slots c.args.names.now
    (g.S.Sink.lines c.args.sink.now) in
    let left = (goal.at.In_ok-right_side g c).In_ok-left_side in
    side_is (c.args.pair.now.vars + 1) c.add_side.new.store.slots c.add_side-2.new.store.slots
    c.add_side.new.names c.add_side-2.new.names (g.S.Sink.lines c.add_side.new.sink)
    (g.S.Sink.lines c.add_side-2.new.sink)
    (with_side (with_whole s c.args.pair.now.left c.args.pair.now.right) (length s.slots)
    c.args.pair.now.left)
    c.in_ok-whole.whole (length s.slots) c.args.pair.now.right (left_fits g left).counted
    c.in_ok-right_side.ensures.adds.slots
    c.in_ok-right_side.ensures.adds.names c.in_ok-right_side.ensures.adds.lines (left_stage g left)
    c.in_ok-whole.ensures.reference

pub returns-clause-moves : goal.returns-clause-moves
returns-clause-moves g c =
    let v = c.args.pair.now.vars in
    let a = c.args.pair.now.left in
    let b = c.args.pair.now.right in
    let s : Stage =
    stage_of v c.args.store.now.slots c.args.names.now (g.S.Sink.lines c.args.sink.now) in
    move_as s (with_side (with_side (with_whole s a b) (length s.slots) a) (length s.slots) b)
    (stage_of (v + 1) c.add_side-2.new.store.slots c.add_side-2.new.names
    (g.S.Sink.lines c.add_side-2.new.sink))
    (right_stage g (goal.at.returns-clause-moves g c).In_ok-right_side) (record {
      keeps = λ ground k. right_right ground s a b (shares a b s.slots c.requires.often)
          c.requires.room (few_additions s.lines c.is_short.ensures) k;
      pair = inl (defines_often s a b (length s.slots) (length s.slots) c.requires.often);
    })

pub add-requires-clause-line : goal.add-requires-clause-line
add-requires-clause-line g c = record {
  literals = c.whole_lits-lits.ensures.named;
  names = All-nil _;
  deletes = λ e. absurd (false≢true e);
}

pub add-requires-clause-counted : goal.add-requires-clause-counted
add-requires-clause-counted g c = c.requires.fit.counted

pub add_side-requires-clause-small : goal.add_side-requires-clause-small
add_side-requires-clause-small g c = c.requires.room

pub add_side-requires-clause-named : goal.add_side-requires-clause-named
add_side-requires-clause-named g c =
    let fits = whole_fits g (goal.at.add_side-requires-clause-named g c).In_ok-whole in
    omega (
      arith,
      length-append {A = Option (List Literal)},
      fits.long,
      c.in_ok-whole.ensures.reference,
      ap length c.in_ok-whole.ensures.slots,
    )

pub add_side-requires-2-clause-small : goal.add_side-requires-2-clause-small
add_side-requires-2-clause-small g c = c.requires.room

pub add_side-requires-2-clause-named : goal.add_side-requires-2-clause-named
add_side-requires-2-clause-named g c =
    let fits = left_fits g (goal.at.add_side-requires-2-clause-named g c).In_ok-left_side in
    omega (
      arith,
      length-append {A = Option (List Literal)},
      fits.long,
      c.in_ok-whole.ensures.reference,
      ap length c.in_ok-whole.ensures.slots,
      ap length c.in_ok-left_side.ensures.adds.slots,
    )
