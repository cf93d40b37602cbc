-- A clause from outside comes to a search.
use Rattle.std.proofs.Common.{◌≡◌, ◌+◌, ◌<◌, ◌≤◌, ◌^◌, List, [], ◌∷◌, ◌++◌, length, refl, sym, ap}
use Rattle.std.proofs.Common.{subst, arith}
use Rattle.std.proofs.lemmas.List.Elements.{All-weaker}
use Rattle.cnf.specs.Literal.{Literal}
use Rattle.propagate.specs.Trail.{depth_of}
use Rattle.lrat_log.specs.declared.lines.Name.TheVariants.{Added}
use Rattle.lrat_log.specs.Log.{LogLine, axiom_line}
use Rattle.lrat_log.specs.Axioms.{IsNewClause}
use Rattle.lrat_log.specs.Steps.{adds_empty_clause}
use Rattle.lrat_log.proofs.Laws.{open_push}
use Rattle.cdcl_search.specs.declared.input.Input.{Input}
use Rattle.cdcl_search.specs.declared.search.Search.{Search}
use Rattle.cdcl_search.specs.Levelling.{IsPlaceable}
use Rattle.cdcl_search.specs.Running.{IsEnded, LogsLine, Runs, StaysOpen, Stores}
use Rattle.cdcl_search.proofs.Added.{runs_added}
use Rattle.cdcl_search.proofs.LogLines.{from_outside}
use Rattle.cdcl_search.proofs.MoreMoves.{answer_unsat}

-- a clause with literals has a first one
record IsSome (c : List Literal) : Type 0 where
  first : Literal
  others : List Literal
  split : c ≡ first ∷ others

is_some : (c : List Literal) → 0 < length c → IsSome c
is_some [] some = absurd (omega arith)
is_some (l ∷ c) some = record { first = l; others = c; split = refl }

-- once its line is written, the search goes on with it
pub runs_axiom : (m n : Search) (p : Input) (ls : List LogLine) (c : List Literal)
    → Runs m p ls → IsPlaceable (m.engine).trail c (depth_of (m.engine).trail)
    → 0 < length c → IsNewClause c → Stores m n (Added (m.additions + 1)) c
    → n.additions ≡ m.additions → m.additions + 1 < 2 ^ 61
    → Runs (record n { additions = n.additions + 1 }) p (ls ++ axiom_line c ∷ [])
runs_axiom m n p ls c r placeable some new stored same few =
    let w = is_some c some in
    let u : Search = record n { additions = n.additions + 1 } in
    let more : u.additions ≡ m.additions + 1 = ap (λ k. k + 1) same in
    let added : LogsLine m u ls (ls ++ axiom_line c ∷ []) (axiom_line c) = record {
      stored = record {
        slots = stored.slots;
        names = stored.names;
        attached = stored.attached;
        trail = stored.trail;
        variables = stored.variables;
        works = stored.works;
        fits = stored.fits;
        units = stored.units;
        noted = stored.noted;
        kept = stored.kept;
        stamps = stored.stamps;
        policy = stored.policy;
        analyzer = stored.analyzer;
      };
      additions = more;
      few = subst (λ k. k < 2 ^ 61) (sym more) few;
      lines = refl;
    } in
    runs_added m u p ls (ls ++ axiom_line c ∷ []) (axiom_line c) w.first w.others r.running r.room
    (All-weaker (λ x. x ≤ m.additions) (λ x. x ≤ m.additions + 1) (λ x h. omega (arith, h))
    (m.stamps).items r.past) placeable w.split
    (from_outside (length (p.frozen).items) p.given ls c new) added

-- and where that fails, the log stays open
pub axiom_stays : (s : Search) (p : Input) (ls : List LogLine) (c : List Literal) → Runs s p ls
    → 0 < length c → IsNewClause c → StaysOpen p (ls ++ axiom_line c ∷ [])
axiom_stays s p ls c r some new =
    let w = is_some c some in
    let log = r.running.recorded.log in
    record {
      stays = (from_outside (length (p.frozen).items) p.given ls c new).stays log.stays
          log.unrefuted;
      unrefuted = open_push ls (axiom_line c) log.unrefuted
          (ap (λ d. adds_empty_clause (axiom_line d)) w.split);
    }

-- one without literals ends the log
pub axiom_ends : (s : Search) (p : Input) (ls : List LogLine) → Runs s p ls → IsNewClause []
    → IsEnded p (ls ++ axiom_line [] ∷ [])
axiom_ends s p ls r new =
    let log = r.running.recorded.log in
    let w =
    answer_unsat (length (p.frozen).items) p.given ls (axiom_line []) log.stays log.unrefuted
    (from_outside (length (p.frozen).items) p.given ls [] new) refl in
    record { stays = w.0; refuted = w.1 }
