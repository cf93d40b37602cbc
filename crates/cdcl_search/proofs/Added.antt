-- A line that adds was written, and its clause came to the store: the search goes on.
use Rattle.std.proofs.Common.{◌≡◌, ◌+◌, ◌≤◌, not, ◌&&◌, List, [], ◌∷◌, ◌++◌, length, Some, refl}
use Rattle.std.proofs.Common.{sym, ap, ◌∙◌, subst, arith}
use Rattle.std.specs.Prelude.{All}
use Rattle.cnf.specs.Literal.{Literal}
use Rattle.cnf.specs.Clause.{is_empty_clause}
use Rattle.propagate.specs.Trail.{depth_of}
use Rattle.lrat_log.specs.declared.lines.Name.TheVariants.{Added}
use Rattle.lrat_log.specs.Log.{LogLine}
use Rattle.cdcl_search.specs.declared.search.Search.{Search}
use Rattle.cdcl_search.specs.declared.input.Input.{Input}
use Rattle.cdcl_search.specs.Invariant.{IsRunning, zero_of}
use Rattle.cdcl_search.specs.Levelling.{IsPlaceable}
use Rattle.cdcl_search.specs.Running.{HasRoom, LogsLine, Runs, tables_of}
use Rattle.cdcl_search.proofs.LogLines.{AddsLine}
use Rattle.cdcl_search.proofs.Moves.{with_addition, run_add}
use Rattle.cdcl_search.proofs.Placing.{room_stored, running_same, tables_same}
use Rattle.cdcl_search.proofs.Units.{units_add}

pub runs_added : (m n : Search) (p : Input) (ls now : List LogLine) (l : LogLine) (k : Literal)
    (others : List Literal)
    → IsRunning m.engine (m.store).slots p.stack (tables_of m) (p.frozen).items p.first
    p.given ls
    → HasRoom m → All (λ x. x ≤ m.additions + 1) (m.stamps).items
    → IsPlaceable (m.engine).trail l.clause (depth_of (m.engine).trail) → l.clause ≡ k ∷ others
    → AddsLine (length (p.frozen).items) p.given ls l → LogsLine m n ls now l → Runs n p now
runs_added m n p ls now l k others run room past placeable split adds added =
    let stored = added.stored in
    let more = added.additions in
    let few = added.few in
    let slots = (m.store).slots in
    let t = tables_of m in
    let ran =
    run_add m.engine n.engine slots p.stack t (p.frozen).items p.first p.given ls l t.units
    t.noted run adds
    (ap (λ b. not b && is_empty_clause l.clause) adds.adds ∙ ap is_empty_clause split)
    (omega arith) stored.attached (stored.trail, stored.variables) stored.works stored.fits
    placeable refl
    (units_add slots l.clause (zero_of (m.engine).trail) (depth_of (m.engine).trail) t.units
    t.noted run.units) in
    subst (Runs n p) (sym added.lines)
    (record {
      running = running_same n.engine n.engine (slots ++ Some l.clause ∷ []) (n.store).slots p.stack
          (with_addition t (m.units).items m.noted) (tables_of n) (p.frozen).items p.first
          p.given (ls ++ l ∷ [])
          refl stored.slots
          (tables_same (with_addition t (m.units).items m.noted) (tables_of n)
          stored.names (ap (λ x. x.items) stored.units) stored.noted stored.kept more)
          ran;
      room = room_stored m n (Added (m.additions + 1)) l.clause room stored;
      past = subst (λ x. All (λ y. y ≤ n.additions) x.items) (sym stored.stamps)
          (subst (λ x. All (λ y. y ≤ x) (m.stamps).items) (sym more) past);
      few = few;
    })
