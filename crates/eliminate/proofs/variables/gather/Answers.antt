-- The row of the literal, cleaned, has just the clauses with it.
use Rattle.std.proofs.Common.{◌≡◌, ◌∙◌, ap, refl, sym, subst, ◌++◌, List, ℕ, length}
use Rattle.std.proofs.lemmas.List.{length-set}
use Rattle.cnf.specs.Literal.{Literal, index_of}
use Rattle.clauses.specs.Slots.{Slots}
use Rattle.cnf.specs.Marks.{HasPlace}
use Rattle.cnf.proofs.Laws.{place_within}
use Rattle.eliminate.specs.declared.simplifier.Simplifier.{Simplifier}
use Rattle.eliminate_tables.specs.Rows.{AreRows, row_at, cleaned}
use Rattle.eliminate.specs.Simplifier.{KeepsForm}
use Rattle.eliminate.proofs.Gathering.{rows_cleaned, those_with}
use Rattle.eliminate.proofs.Tables.{simplified_same}
use Rattle.eliminate.proofs.variables.gather.Goals as goal
use Rattle.eliminate.proofs.variables.gather.Goals.{After-clean}

are_cleaned : (old rows : List (List ℕ)) (slots : Slots) (l : Literal) (i : ℕ)
    → HasPlace (length old) l → AreRows old slots → i ≡ index_of l → rows ≡ cleaned old slots i
    → AreRows rows slots × (length rows ≡ length old)
are_cleaned old rows slots l i place a at is =
    let here : rows ≡ cleaned old slots (index_of l) = is ∙ ap (cleaned old slots) at in (
      subst (λ (rs : List (List ℕ)). AreRows rs slots) (sym here)
          (rows_cleaned old slots (index_of l) (place_within (length old) l place) a),
      ap length here ∙ length-set old (index_of l) _,
    )

-- after the row is cleaned, the rows and the form are right
right : (c : After-clean) → AreRows c.clean.new.self.rows c.args.store.now.slots
    × (length c.clean.new.self.rows ≡ length c.args.simplifier.now.occurrences.rows)
right c =
    are_cleaned c.args.simplifier.now.occurrences.rows c.clean.new.self.rows c.args.store.now.slots
    c.args.lit c.index-row.result c.requires.place c.requires.rows c.index-row.ensures.index
    c.clean.ensures.rows

keeps : (c : After-clean) → KeepsForm c.args.simplifier.now
    (record c.args.simplifier.now { occurrences = c.clean.new.self }) c.args.store.now.slots
keeps c =
    let s : Simplifier = c.args.simplifier.now in
    record {
      stays = λ lines start h. simplified_same start s
          (record s { occurrences = c.clean.new.self }) c.args.store.now.slots lines
          (record {
            vars = refl;
            names = refl;
            places = (right c).1;
            removals = refl;
            marks = refl;
            refuted = refl;
          }) (right c).0 h;
      refuted = refl;
    }

pub returns-in_err-collect-clause-rows : goal.returns-in_err-collect-clause-rows
returns-in_err-collect-clause-rows c =
    (right (goal.at.returns-in_err-collect-clause-rows c).After-clean).0

pub returns-in_err-collect-clause-form : goal.returns-in_err-collect-clause-form
returns-in_err-collect-clause-form c =
    keeps (goal.at.returns-in_err-collect-clause-form c).After-clean

pub returns-clause-gathered : goal.returns-clause-gathered
returns-clause-gathered c =
    let rows = c.args.simplifier.now.occurrences.rows in
    let slots : Slots = c.args.store.now.slots in
    those_with rows slots c.args.lit c.collect.new.references.items c.requires.place
    c.requires.rows
    (c.in_ok-collect.ensures
    ∙ ap (λ xs. xs ++ row_at c.clean.new.self.rows c.index-row.result) c.clear.ensures.items
    ∙ ap (λ rs. row_at rs c.index-row.result) c.clean.ensures.rows
    ∙ ap (λ i. row_at (cleaned rows slots i) i) c.index-row.ensures.index)

pub returns-clause-rows : goal.returns-clause-rows
returns-clause-rows c = (right (goal.at.returns-clause-rows c).After-clean).0

pub returns-clause-form : goal.returns-clause-form
returns-clause-form c = keeps (goal.at.returns-clause-form c).After-clean
