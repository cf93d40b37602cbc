-- Clause after clause enters the rows of its literals.
use Rattle.std.proofs.Common.{◌≡◌, ℕ, ◌+◌, ◌<◌, ◌++◌, ◌∷◌, [], List, length, take, get_or}
use Rattle.std.proofs.Common.{Some, None, sym, ◌∙◌, ap, subst, arith}
use Rattle.std.specs.Prelude.{All, Option}
use Rattle.std.proofs.lemmas.List.{take_more, length-take-le, take_all}
use Rattle.cnf.specs.Literal.{Literal}
use Rattle.clauses.specs.Slots.{Slots, clause_at}
use Rattle.clauses.proofs.Laws.{live_all}
use Rattle.cnf.specs.Marks.{HasPlace}
use Rattle.eliminate_tables.specs.Rows.{Roomed, AreRows, with_clause_rows}
use Rattle.eliminate.proofs.Occurring.{rows_added, rows-length}
use Rattle.eliminate.proofs.Starting.{rows_none, slot_some, slot_none}
use Rattle.eliminate.proofs.simplifier.enter_all.Goals as goal
use Rattle.eliminate.proofs.simplifier.enter_all.Goals.{in-Some+in_ok-add-in-Some}
use Rattle.eliminate.proofs.simplifier.enter_all.Goals.{in-None}

-- the clause has its places
pub add-requires : goal.add-requires
add-requires c =
    subst (λ n. All (HasPlace n) c.lits.result.now) (sym c.loop-place.invariant.places)
    (live_all (All (HasPlace (length c.args.rows.now.rows))) c.args.store.now.slots
    c.requires.places c.in-Some.reference c.lits.result.now c.lits.ensures)

pub loop-place-init : goal.loop-place-init
loop-place-init c = record {
  rows = subst (λ (x : List (List ℕ)). AreRows x []) (sym c.make_rooms.ensures) c.requires.empty;
  places = ap length c.make_rooms.ensures;
}

pub loop-place-preserved : goal.loop-place-preserved
loop-place-preserved c =
    let slots : Slots = c.args.store.now.slots in
    let i = c.loop-place.place in
    let old : List (List ℕ) = c.loop-place.rows.rows in
    let within : i < length slots = omega arith in
    let long : length (take i slots) ≡ i = length-take-le i slots (omega arith) in
    let more : take (i + 1) slots ≡ take i slots ++ get_or slots i None ∷ [] =
    take_more slots i None within in
    elim c.match-live_at.branch [
      | in-Some+in_ok-add-in-Some w ↦
          let at = w.in-Some.ensures.live in
          let lits : List Literal = w.lits.result.now in
          let places : All (HasPlace (length old)) lits =
          subst (λ n. All (HasPlace n) lits) (sym c.loop-place.invariant.places)
          (live_all (All (HasPlace (length c.args.rows.now.rows))) slots c.requires.places
          w.in-Some.reference lits w.lits.ensures) in
          let here : get_or slots i None ≡ Some lits =
          slot_some slots i lits (ap (clause_at slots) (sym at.0) ∙ w.lits.ensures) in
          let added : c.match-live_at.rows.rows ≡ with_clause_rows old lits
          (length (take i slots)) = ap (λ (r : Roomed ℕ). r.rows) w.rows-is
          ∙ w.in_ok-add-in-Some.ensures
          ∙ ap (with_clause_rows old lits) (at.0 ∙ sym long) in
          record {
            rows = subst (λ (x : List (List ℕ)). AreRows x (take (i + 1) slots)) (sym added)
                (subst (AreRows (with_clause_rows old lits (length (take i slots))))
                (sym (more ∙ ap (λ (o : Option (List Literal)). take i slots ++ o ∷ []) here))
                (rows_added old (take i slots) lits c.loop-place.invariant.rows places));
            places = ap length added ∙ rows-length old lits (length (take i slots))
                ∙ c.loop-place.invariant.places;
          }
      | in-None w ↦
          let here : get_or slots i None ≡ None =
          slot_none slots i (c.live_at.ensures.none w.in-None.is) in
          let same : c.match-live_at.rows.rows ≡ old =
          ap (λ (r : Roomed ℕ). r.rows) w.rows-is in
          record {
            rows = subst (λ (x : List (List ℕ)). AreRows x (take (i + 1) slots)) (sym same)
                (subst (AreRows old)
                (sym (more ∙ ap (λ (o : Option (List Literal)). take i slots ++ o ∷ []) here))
                (rows_none old (take i slots) c.loop-place.invariant.rows));
            places = ap length same ∙ c.loop-place.invariant.places;
          }
    ]

pub returns-clause-rows : goal.returns-clause-rows
returns-clause-rows c =
    subst (AreRows c.loop-place.rows.rows)
    (take_all c.loop-place.place c.args.store.now.slots (omega arith)) c.loop-place.invariant.rows
