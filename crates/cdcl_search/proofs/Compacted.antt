-- The moves of a compaction, as a table by place needs them.
use Rattle.std.proofs.Common.{◌≡◌, ℕ, zero, suc, ◌+◌, ◌<◌, ◌≤◌, ◌^◌, List, [], ◌∷◌, length, map}
use Rattle.std.proofs.Common.{get_or, Some, None, refl, sym, ◌∙◌, ap, subst, arith}
use Rattle.std.specs.Prelude.{All}
use Rattle.std.specs.List.{AllByRecursion}
use Rattle.std.specs.List.Sorted.{IsStrictlyIncreasing}
use Rattle.std.proofs.lemmas.List.{length-map, get_or-map, get_or_default}
use Rattle.std.proofs.lemmas.List.Elements.{All-from_recursion}
use Rattle.cnf.specs.Literal.{Literal}
use Rattle.clauses.specs.Slots.{Slots, places_from, live_places, live_clauses, Renaming, IsRenaming}
use Rattle.clauses.specs.Slots.{old_at, new_at}
use Rattle.propagate.specs.Fits.{Fits, MovesAttached, renamed_trail}
use Rattle.cnf.specs.Lrat.{IsId}
use Rattle.cnf.proofs.Laws.{all_weaker}
use Rattle.lrat_log.specs.declared.lines.Name.{Name}
use Rattle.lrat_log.specs.declared.lines.Name.TheVariants.{Formula}
use Rattle.lrat_log.specs.Log.{LogLine, number_in}
use Rattle.cdcl_search.specs.declared.input.Input.{Input}
use Rattle.cdcl_search.specs.declared.search.Search.{Search}
use Rattle.cdcl_search.specs.Invariant.{name_at, IsRunning}
use Rattle.cdcl_search.specs.Moves.{NamesMoved, UnitsMoved}
use Rattle.cdcl_search.specs.Running.{tables_of, Runs}
use Rattle.cdcl_search.proofs.MoreMoves.{run_move, with_names}
use Rattle.cdcl_search.proofs.Placing.{tables_same}

places_below : (n : ℕ) (slots : Slots)
    → AllByRecursion (λ k. k < n + length slots) (places_from n slots)
places_below n [] = tt
places_below n (None ∷ slots) =
    all_weaker _ _ (places_from (n + 1) slots) (λ k h. omega arith) (places_below (n + 1) slots)
places_below n (Some c ∷ slots) = (
  omega arith,
  all_weaker _ _ (places_from (n + 1) slots) (λ k h. omega arith)
      (places_below (n + 1) slots),
)

-- old references are those of the store
pub moved_within : (old new : Slots) (ms : Renaming) → IsRenaming old new ms
    → All (λ m. m.0 < length old) ms
moved_within old new ms renames i d lt =
    let below : All (λ k. k < 0 + length old) (live_places old) =
    All-from_recursion (λ k. k < 0 + length old) (live_places old) (places_below 0 old) in
    let long : length (map (λ m. m.0) ms) ≡ length ms = length-map ms (λ m. m.0) in
    let at : get_or (map (λ m. m.0) ms) i 0 < 0 + length old =
    subst (λ ks. All (λ k. k < 0 + length old) ks) (sym renames.from) below i 0 (omega arith) in
    omega (arith, at, get_or-map (λ (m : ℕ × ℕ). m.0) ms i d 0 lt)

together_places : (n : ℕ) (cs : List (List Literal))
    → length (places_from n (map Some cs)) ≡ length cs
together_places n [] = refl
together_places n (c ∷ cs) = ap suc (together_places (n + 1) cs)

-- there are as many moves as the new store has places
pub moved_count : (old new : Slots) (ms : Renaming) → IsRenaming old new ms
    → new ≡ map Some (live_clauses old) → length ms ≡ length new
moved_count old new ms renames together =
    sym (length-map ms (λ m. m.1)) ∙ ap length renames.to
    ∙ ap (λ s. length (live_places s)) together ∙ together_places 0 (live_clauses old)
    ∙ sym (length-map (live_clauses old) Some) ∙ ap length (sym together)

-- new references are those of the new store
pub new_within : (old new : Slots) (ms : Renaming) → IsRenaming old new ms
    → All (λ m. m.1 < length new) ms
new_within old new ms renames i d lt =
    let below : All (λ k. k < 0 + length new) (live_places new) =
    All-from_recursion (λ k. k < 0 + length new) (live_places new) (places_below 0 new) in
    let long : length (map (λ m. m.1) ms) ≡ length ms = length-map ms (λ m. m.1) in
    let at : get_or (map (λ m. m.1) ms) i 0 < 0 + length new =
    subst (λ ks. All (λ k. k < 0 + length new) ks) (sym renames.to) below i 0 (omega arith) in
    omega (arith, at, get_or-map (λ (m : ℕ × ℕ). m.1) ms i d 0 lt)

live_few : (slots : Slots) → length (live_clauses slots) ≤ length slots
live_few [] = omega arith
live_few (None ∷ slots) = omega (arith, live_few slots)
live_few (Some c ∷ slots) = omega (arith, live_few slots)

pub places_few : (old new : Slots) → new ≡ map Some (live_clauses old) → length new ≤ length old
places_few old new together =
    omega (arith, live_few old, ap length together ∙ length-map (live_clauses old) Some)

together_at : (n : ℕ) (cs : List (List Literal)) (i : ℕ) → i < length cs
    → get_or (places_from n (map Some cs)) i 0 ≡ n + i
together_at n [] i lt = absurd (omega arith)
together_at n (c ∷ cs) zero lt = omega arith
together_at n (c ∷ cs) (suc i) lt = together_at (n + 1) cs i (omega arith) ∙ omega arith

-- each place of the new store is that of the move with its number
pub moved_here : (old new : Slots) (ms : Renaming) → IsRenaming old new ms
    → new ≡ map Some (live_clauses old) → (i : ℕ) → i < length ms → new_at ms i ≡ i
moved_here old new ms renames together i lt =
    let many : length ms ≡ length (live_clauses old) = moved_count old new ms renames together
    ∙ ap length together ∙ length-map (live_clauses old) Some in
    sym (get_or-map (λ (m : ℕ × ℕ). m.1) ms i (0, 0) 0 lt)
    ∙ ap (λ ks. get_or ks i 0) (renames.to ∙ ap live_places together)
    ∙ together_at 0 (live_clauses old) i (omega arith) ∙ omega arith

-- names that moved are numbers still
pub numbers_moved : (old new : Slots) (ms : Renaming) (names moved : List Name)
    → IsRenaming old new ms → new ≡ map Some (live_clauses old) → length moved ≡ length new
    → length names ≡ length old
    → NamesMoved names moved ms → All (λ n. IsId (number_in n)) names
    → All (λ n. IsId (number_in n)) moved
numbers_moved old new ms names moved renames together long as_many along numbers i d lt =
    let within : i < length ms = omega (arith, moved_count old new ms renames together) in
    let from : old_at ms i < length names =
    omega (arith, moved_within old new ms renames i (0, 0) within) in
    let is : get_or moved i d ≡ name_at names (old_at ms i) =
    get_or_default moved i d (Formula 0) lt
    ∙ ap (name_at moved) (sym (moved_here old new ms renames together i within))
    ∙ along i (0, 0) within in
    subst (λ n. IsId (number_in n)) (sym is) (numbers (old_at ms i) (Formula 0) from)

-- a search whose store, engine and tables went along
pub runs_compacted : (s n : Search) (ms : Renaming) (p : Input) (ls : List LogLine)
    → IsRenaming (s.store).slots (n.store).slots ms
    → (n.store).slots ≡ map Some (live_clauses (s.store).slots)
    → IsStrictlyIncreasing (map (λ m. m.0) ms) → MovesAttached s.engine n.engine ms
    → (n.engine).trail ≡ renamed_trail ms (s.engine).trail
    → ((n.engine).variables ≡ (s.engine).variables) × ((n.engine).failed ≡ (s.engine).failed)
    → Fits n.engine (n.store).slots
    → length (n.names).items ≡ length (n.store).slots
    → NamesMoved (s.names).items (n.names).items ms
    → length (n.units).items ≡ length (s.units).items
    → UnitsMoved (s.units).items (n.units).items ms
    → (n.noted ≡ s.noted) × (n.kept ≡ s.kept) × (n.additions ≡ s.additions) × (n.stamps ≡ s.stamps)
    × (n.policy ≡ s.policy) × (n.analyzer ≡ s.analyzer) → Runs s p ls → Runs n p ls
runs_compacted s n ms p ls renames together rises moves trail same fits long along wide
    moved rest r =
    let d = r.running.recorded in
    let numbers =
    numbers_moved (s.store).slots (n.store).slots ms (s.names).items (n.names).items renames
    together long d.names.as_many along d.numbers in
    let ran = run_move s.engine n.engine (s.store).slots (n.store).slots p.stack (tables_of s)
    (p.frozen).items p.first p.given ls ms (n.names).items (n.units).items
    r.running renames rises moves trail same fits long along numbers wide moved in
    let tables =
    tables_same (with_names (tables_of s) (n.names).items (n.units).items) (tables_of n) refl refl
    rest.0 rest.1 rest.2 in
    record {
      running =
          subst (λ t. IsRunning n.engine (n.store).slots p.stack t (p.frozen).items p.first
          p.given ls) (sym tables) ran;
      room = record {
        policy = ap (λ o. o.variables) rest.4 ∙ r.room.policy ∙ sym same.0;
        analyzer =
            subst (λ k. (n.engine).variables < k) (sym rest.5)
            (subst (λ k. k < s.analyzer) (sym same.0) r.room.analyzer);
        few = subst (λ k. k < 2 ^ 27) (sym same.0) r.room.few;
        stamps = ap (λ v. length v.items) rest.3 ∙ r.room.stamps ∙ sym same.0;
        units = wide ∙ r.room.units ∙ sym same.0;
      };
      past =
          subst (λ k. All (λ m. m ≤ k) (n.stamps).items) (sym rest.2)
          (subst (λ v. All (λ m. m ≤ s.additions) v.items) (sym rest.3) r.past);
      few = subst (λ k. k < 2 ^ 61) (sym rest.2) r.few;
    }
