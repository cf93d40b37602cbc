-- A clause that may be added is added to a simplified form, which stays one when rows are cleaned.
use Rattle.std.proofs.Common.{◌≡◌, ◌∷◌, ◌++◌, [], Some, sym, ap, subst, ◌∙◌, refl, arith, length}
use Rattle.std.proofs.Common.{List}
use Rattle.std.specs.Prelude.{All}
use Rattle.std.proofs.lemmas.Result.{MatchResult-from_err}
use Rattle.cnf.specs.Literal.{Literal}
use Rattle.clauses.specs.Slots.{Slots}
use Rattle.lrat_log.specs.Log.{LogLine}
use Rattle.cnf.specs.Clause.{is_empty_clause}
use Rattle.cnf.specs.Marks.{HasPlace}
use Rattle.eliminate.specs.declared.simplifier.Simplifier.{Simplifier}
use Rattle.eliminate_tables.specs.Rows.{with_clause_rows}
use Rattle.eliminate.specs.State.{Start}
use Rattle.eliminate.specs.Simplifier.{IsSimplified, LeavesLog}
use Rattle.lrat_log.proofs.Laws.{additions_few}
use Rattle.eliminate.proofs.Simplified.{simplified_added, clause_places, log_of, HasAdded}
use Rattle.eliminate.proofs.Tables.{simplified_same}
use Rattle.eliminate.proofs.simplifier.Simplifier.add.Given.{Over}
use Rattle.eliminate.proofs.simplifier.Simplifier.add.Goals as goal
use Rattle.eliminate.proofs.simplifier.Simplifier.add.Goals.{In_ok-reference}

pub add-requires-2 : goal.add-requires-2
add-requires-2 g c =
    let s : Simplifier = c.args.self.now in
    let w = c.requires.is_open.simplified in
    let clause = (c.requires.line w.0 w.1).clause in
    subst (λ (xs : List Literal). All (HasPlace (length s.occurrences.rows)) xs)
    (sym c.deref-2.ensures.value)
    (subst (λ n. All (HasPlace n) s.clause.items) (sym w.1.state.places)
    (clause_places w.0 s c.args.store.now.slots (g.S.Sink.lines c.args.sink.now) s.clause.items
    w.1 clause))

-- tables that have the clause are a simplified form
added : (g : Over) (c : In_ok-reference g) (t : Simplifier)
    → HasAdded c.args.self.now t c.args.store.now.slots c.args.self.now.clause.items
    → (start : Start) → IsSimplified start c.args.self.now c.args.store.now.slots
    (g.S.Sink.lines c.args.sink.now)
    → IsSimplified start t c.add.new.store.slots (g.S.Sink.lines c.add.new.sink)
added g c t has start h =
    let s : Simplifier = c.args.self.now in
    let slots : Slots = c.args.store.now.slots in
    let ls : List LogLine = g.S.Sink.lines c.args.sink.now in
    let line : LogLine =
    record { kind = c.args.kind; clause = s.clause.items; hints = c.args.hints.now } in
    let lines : g.S.Sink.lines c.add.new.sink ≡ ls ++ line ∷ [] = c.in_ok-reference.ensures.lines
    ∙ ap (λ (xs : List Literal). ls ++ record {
      kind = c.args.kind;
      clause = xs;
      hints = c.args.hints.now;
    } ∷ []) c.deref.ensures.value in
    let slotted : c.add.new.store.slots ≡ slots ++ Some s.clause.items ∷ [] =
    c.in_ok-reference.ensures.slots
    ∙ ap (λ (xs : List Literal). slots ++ Some xs ∷ []) c.deref.ensures.value in
    subst (λ (xs : Slots). IsSimplified start t xs (g.S.Sink.lines c.add.new.sink)) (sym slotted)
    (subst (IsSimplified start t (slots ++ Some s.clause.items ∷ [])) (sym lines)
    (simplified_added start s t slots ls line h c.requires.is_open.going (c.requires.line start h)
    (omega (arith, additions_few ls, c.is_short.ensures)) has))

-- whatever the tables are, the lines stay a log
leaves : (g : Over) (c : In_ok-reference g)
    → LeavesLog c.args.self.now c.args.store.now.slots (g.S.Sink.lines c.args.sink.now)
    (g.S.Sink.lines c.add.new.sink)
leaves g c start h =
    let s : Simplifier = c.args.self.now in
    let slots : Slots = c.args.store.now.slots in
    let t : Simplifier =
    record s {
      names = c.add.new.names;
      occurrences = record s.occurrences {
        rows = with_clause_rows s.occurrences.rows s.clause.items (length slots);
      };
      is_refuted = is_empty_clause s.clause.items;
    } in
    log_of start t c.add.new.store.slots (g.S.Sink.lines c.add.new.sink)
    (added g c t (record {
      vars = refl;
      names = c.in_ok-reference.ensures.names;
      occurrences = refl;
      removals = refl;
      marks = refl;
      refuted = refl;
    }) start h)

pub returns-in_err-reference-clause-passes : goal.returns-in_err-reference-clause-passes
returns-in_err-reference-clause-passes g c =
    MatchResult-from_err _ _ _ c.from_residual.ensures.0 (λ _ start h.
    rw c.in_err-reference.ensures.err
    (log_of start c.args.self.now c.args.store.now.slots (g.S.Sink.lines c.args.sink.now) h))

pub returns-in_err-add-clause-passes : goal.returns-in_err-add-clause-passes
returns-in_err-add-clause-passes g c =
    MatchResult-from_err _ _ _ c.from_residual-in_err-add.ensures.0
    (λ _. leaves g (goal.at.returns-in_err-add-clause-passes g c).In_ok-reference)

pub returns-in_err-enter-clause-passes : goal.returns-in_err-enter-clause-passes
returns-in_err-enter-clause-passes g c =
    MatchResult-from_err _ _ _ c.from_residual-in_err-enter.ensures.0
    (λ _. leaves g (goal.at.returns-in_err-enter-clause-passes g c).In_ok-reference)

pub returns-in_err-make_space-clause-passes : goal.returns-in_err-make_space-clause-passes
returns-in_err-make_space-clause-passes g c =
    MatchResult-from_err _ _ _ c.from_residual-in_err-make_space.ensures.0
    (λ _. leaves g (goal.at.returns-in_err-make_space-clause-passes g c).In_ok-reference)

pub returns-clause-passes : goal.returns-clause-passes
returns-clause-passes g c start h =
    let s : Simplifier = c.args.self.now in
    let slots : Slots = c.args.store.now.slots in
    let t : Simplifier =
    record s {
      names = c.add.new.names;
      occurrences = c.add-2.new.self;
      schedule = c.enter.new.self;
      is_refuted = c.is_empty_clause-self.result;
    } in
    let rows : c.add-2.new.self.rows
    ≡ with_clause_rows s.occurrences.rows s.clause.items (length slots) =
    c.in_ok-add.ensures
    ∙ ap (λ (xs : List Literal). with_clause_rows s.occurrences.rows xs c.in_ok-reference.reference)
    c.deref-2.ensures.value
    ∙ ap (with_clause_rows s.occurrences.rows s.clause.items) c.in_ok-reference.ensures.reference in
    let empty : c.is_empty_clause-self.result ≡ is_empty_clause s.clause.items =
    c.is_empty_clause-self.ensures ∙ ap is_empty_clause c.deref-4.ensures.value in
    let was =
    added g (goal.at.returns-clause-passes g c).In_ok-reference t (record {
      vars = refl;
      names = c.in_ok-reference.ensures.names;
      occurrences = rows;
      removals = refl;
      marks = refl;
      refuted = empty;
    }) start h in
    simplified_same start t _ _ _ (record {
      vars = refl;
      names = refl;
      places = c.make_space.ensures.places;
      removals = refl;
      marks = refl;
      refuted = refl;
    }) (c.make_space.ensures.rows was.state.occurrences) was
