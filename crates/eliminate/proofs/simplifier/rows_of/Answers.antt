-- No row has an entry at first, and each literal of the formula has its row.
use Rattle.std.proofs.Common.{◌≡◌, ℕ, ◌*◌, [], List, length, sym, ◌∙◌, ap, subst}
use Rattle.std.specs.Prelude.{All, replicate}
use Rattle.std.proofs.lemmas.List.{length-replicate}
use Rattle.std.proofs.lemmas.List.Elements.{All-weaker}
use Rattle.cnf.specs.Literal.{Literal}
use Rattle.cnf.specs.Formula.{IsFormulaClause}
use Rattle.cnf.specs.Marks.{HasPlace}
use Rattle.clauses.specs.Slots.{live_clauses}
use Rattle.eliminate_tables.specs.Rows.{Roomed, AreRows}
use Rattle.eliminate.proofs.Starting.{rows_start}
use Rattle.eliminate.proofs.States.{places_of}
use Rattle.eliminate.proofs.simplifier.rows_of.Goals as goal

pub enter_all-requires-clause-empty : goal.enter_all-requires-clause-empty
enter_all-requires-clause-empty c =
    subst (λ (x : Roomed ℕ). AreRows x.rows []) (sym c.in_ok-rows.ensures)
    (rows_start (2 * c.args.vars))

-- there are two rows for each variable
count : (vars : ℕ) (r : Roomed ℕ)
    → r ≡ record { rows = replicate (2 * vars) []; rooms = replicate (2 * vars) 0 }
    → length r.rows ≡ 2 * vars
count vars r e = ap (λ (x : Roomed ℕ). length x.rows) e ∙ length-replicate (2 * vars) []

pub enter_all-requires-clause-places : goal.enter_all-requires-clause-places
enter_all-requires-clause-places c =
    let vars = c.args.vars in
    subst (λ n. All (All (HasPlace n)) (live_clauses c.args.store.now.slots))
    (sym (count vars c.in_ok-rows.rows c.in_ok-rows.ensures))
    (All-weaker (IsFormulaClause vars) (All (HasPlace (2 * vars)))
    (λ (d : List Literal) f. places_of vars d f.from_one f.small)
    (live_clauses c.args.store.now.slots) c.requires.clauses)

pub returns-clause-places : goal.returns-clause-places
returns-clause-places c =
    c.in_ok-enter_all.ensures.places ∙ count c.args.vars c.in_ok-rows.rows c.in_ok-rows.ensures
