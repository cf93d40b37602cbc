-- Where the engine alone moves, the rest of a search stays.
use Rattle.std.proofs.Common.{◌≡◌, ℕ, ◌<◌, ◌≤◌, List, refl, sym, ◌∙◌, arith}
use Rattle.std.specs.Prelude.{All}
use Rattle.std.proofs.lemmas.List.Elements.{All-map, All-weaker}
use Rattle.cnf.specs.Literal.{Literal}
use Rattle.propagate.specs.Trail.{Assigned, literals_of}
use Rattle.propagate.specs.Watches.{EngineState}
use Rattle.lrat_log.specs.Log.{LogLine}
use Rattle.cdcl_order.specs.Policies.{PolicyState}
use Rattle.cdcl_search.specs.declared.input.Input.{Input}
use Rattle.cdcl_search.specs.declared.search.Search.{Search}
use Rattle.cdcl_search.specs.Invariant.{Searches, IsRunning}
use Rattle.cdcl_search.specs.Running.{tables_of, HasRoom, IsReady, Runs}

-- with another engine and policy
abbrev pub moved_to : Search → EngineState → PolicyState → Search
moved_to s e o = record s { engine = e; policy = o }

pub room_moved : (s : Search) (e : EngineState) (o : PolicyState) → HasRoom s
    → e.variables ≡ (s.engine).variables → o.variables ≡ (s.policy).variables
    → HasRoom (moved_to s e o)
room_moved s e o r same policy = record {
  policy = policy ∙ r.policy ∙ sym same;
  analyzer = (let a = r.analyzer in omega arith);
  few = (let a = r.few in omega arith);
  stamps = r.stamps ∙ sym same;
  units = r.units ∙ sym same;
}

pub ready_moved : (s : Search) (e : EngineState) (o : PolicyState) → IsReady s
    → e.variables ≡ (s.engine).variables → o.variables ≡ (s.policy).variables
    → Searches e (s.store).slots → IsReady (moved_to s e o)
ready_moved s e o r same policy searches =
    record { searches = searches; room = room_moved s e o r.room same policy; named = r.named }

pub runs_moved : (s : Search) (e : EngineState) (o : PolicyState) (p : Input) (ls : List LogLine)
    → Runs s p ls → e.variables ≡ (s.engine).variables → o.variables ≡ (s.policy).variables
    → IsRunning e (s.store).slots p.stack (tables_of s) (p.frozen).items p.first p.given ls
    → Runs (moved_to s e o) p ls
runs_moved s e o p ls r same policy running =
    record {
      running = running;
      room = room_moved s e o r.room same policy;
      past = r.past;
      few = r.few;
    }

-- with another policy over as many variables
pub runs_chosen : (s : Search) (k : PolicyState) (p : Input) (ls : List LogLine)
    → k.variables ≡ (s.policy).variables → Runs s p ls → Runs (record s { policy = k }) p ls
runs_chosen s k p ls same r = runs_moved s s.engine k p ls r refl same r.running

pub literals_within : (T : List Assigned) (n : ℕ)
    → All (λ a. (0 < a.literal.variable) × (a.literal.variable ≤ n)) T
    → All (λ l. l.variable ≤ n) (literals_of T)
literals_within T n small =
    let P : Assigned → Type 0 = λ a. (0 < a.literal.variable) × (a.literal.variable ≤ n) in
    let Q : Assigned → Type 0 = λ a. a.literal.variable ≤ n in
    All-map (λ (l : Literal). l.variable ≤ n) (λ a. a.literal) T
    (All-weaker P Q (λ a h. h.1) T small)
