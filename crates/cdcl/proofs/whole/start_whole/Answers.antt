-- A search over a formula that is left as it is.
use Rattle.std.proofs.Common.{◌≡◌, ◌∙◌, ◌+◌, [], List, length, map, Some, refl, sym, ap}
use Rattle.std.proofs.Common.{subst, arith}
use Rattle.std.specs.Prelude.{All}
use Rattle.std.proofs.lemmas.List.{length-map}
use Rattle.std.proofs.lemmas.List.Elements.{All-nil}
use Rattle.cnf.specs.Literal.{Literal}
use Rattle.cnf.specs.Bits.{assignment_of}
use Rattle.clauses.specs.Slots.{live_clauses}
use Rattle.clauses.proofs.Laws.{live_map}
use Rattle.lrat_log.specs.declared.lines.Name.{Name}
use Rattle.lrat_log.specs.Steps.{StaysLogOver, given_of}
use Rattle.lrat_log.proofs.Laws.{clauses_given}
use Rattle.eliminate.specs.Elimination.{IsWhole, SatisfiesAll}
use Rattle.reconstruction.specs.Stack.{IsFree, StackState}
use Rattle.reconstruction.specs.Removals.{Removed}
use Rattle.reconstruction.specs.Removals.{extended}
use Rattle.cdcl_search.specs.declared.input.Input.{Input}
use Rattle.cdcl.proofs.FirstRun.{IsLeft, left_long, left_live, left_numbers, plain_runs}
use Rattle.cdcl.proofs.FirstRun.{whole_input, whole_left, whole_plain}
use Rattle.cdcl.proofs.whole.start_whole.Goals as goal
use Rattle.cdcl.proofs.whole.start_whole.Goals.{In_ok-stack}

-- the store has the clauses of the formula
whole : (c : In_ok-stack) → IsWhole (c.args.formula.variables + c.args.room)
    c.into_clauses-clauses.result c.keep_whole.new.store.slots c.in_ok-stack.stack
whole c =
    subst (λ x. IsWhole (c.args.formula.variables + c.args.room) x c.keep_whole.new.store.slots
    c.in_ok-stack.stack)
    (ap live_clauses c.in_ok-store.ensures ∙ live_map c.into_clauses-clauses.result)
    (subst (λ n. IsWhole (n + c.args.room) (live_clauses c.in_ok-store.store.slots)
    c.keep_whole.new.store.slots c.in_ok-stack.stack) c.vars-variables.ensures.vars
    c.in_ok-stack.ensures)

left : (c : In_ok-stack)
    → IsLeft c.into_clauses-clauses.result c.keep_whole.new.store.slots c.in_ok-stack.stack []
left c =
    whole_left c.args.formula c.into_clauses-clauses.result c.keep_whole.new.store.slots
    c.in_ok-stack.stack (c.args.formula.variables + c.args.room) c.vars-variables.ensures.limits
    c.into_clauses-clauses.ensures (omega arith) (whole c)

same : (c : In_ok-stack)
    → live_clauses c.keep_whole.new.store.slots ≡ c.into_clauses-clauses.result
same c = ap live_clauses (whole c).together ∙ live_map c.into_clauses-clauses.result

pub start-requires-clause-long : goal.start-requires-clause-long
start-requires-clause-long c =
    let at = (goal.at.start-requires-clause-long c).In_ok-stack in
    left_long c.into_clauses-clauses.result c.keep_whole.new.store.slots c.in_ok-stack.stack []
    (left at) ((whole at).together ∙ ap (map Some) (sym (same at)))

pub start-requires-clause-live : goal.start-requires-clause-live
start-requires-clause-live c =
    left_live c.into_clauses-clauses.result c.keep_whole.new.store.slots c.in_ok-stack.stack []
    (left (goal.at.start-requires-clause-live c).In_ok-stack)

pub start-requires-clause-numbers : goal.start-requires-clause-numbers
start-requires-clause-numbers c =
    let cs = c.into_clauses-clauses.result in
    let few = c.len.ensures in
    let numbered = ap length c.in_ok-given.ensures.ok in
    let alone = length-map (given_of cs) (λ (g : Name × List Literal). g.1) in
    let many = ap length (clauses_given cs) in
    left_numbers cs c.keep_whole.new.store.slots c.in_ok-stack.stack []
    (left (goal.at.start-requires-clause-numbers c).In_ok-stack)
    (omega (arith, few.len, few.few, numbered, alone, many))

pub returns-clause-input : goal.returns-clause-input
returns-clause-input c =
    let at = (goal.at.returns-clause-input c).In_ok-stack in
    let p : Input =
    record {
      stack = c.start.new.stack;
      frozen = c.in_ok-frozen.frozen;
      first = 0;
      given = c.in_ok-given.given;
    } in
    let wide : p.stack.variables ≡ c.args.formula.variables + c.args.room =
    ap (λ (k : StackState). k.variables) c.in_ok-search.ensures.names ∙ (whole at).variables_are in
    let long : length p.frozen.items ≡ c.args.formula.variables =
    c.in_ok-frozen.ensures ∙ c.vars-variables.ensures.vars in
    whole_input c.args.formula p c.into_clauses-clauses.result c.vars-variables.ensures.limits
    c.into_clauses-clauses.ensures long c.in_ok-given.ensures.ok refl (omega (arith, wide, long))
    (omega (arith, wide, long, c.requires))

pub returns-clause-runs : goal.returns-clause-runs
returns-clause-runs c =
    let at = (goal.at.returns-clause-runs c).In_ok-stack in
    let p : Input =
    record {
      stack = c.start.new.stack;
      frozen = c.in_ok-frozen.frozen;
      first = 0;
      given = c.in_ok-given.given;
    } in
    let cs = c.into_clauses-clauses.result in
    let w = whole at in
    let n = c.in_ok-stack.stack in
    let stays : StaysLogOver (length p.frozen.items) (given_of cs) [] =
    λ more small. record { steps = λ base above. refl; stops = tt; groups = All-nil _ } in
    plain_runs c.in_ok-search.search p [] cs c.keep_whole.new.store.slots 0 n
    c.in_ok-search.ensures.names c.in_ok-search.ensures.started (left at) c.in_ok-given.ensures.ok
    stays refl refl (omega arith)
    (subst (All (λ (r : Removed). IsFree p.frozen.items r.variable)) (sym w.none_removed)
    (All-nil (λ (r : Removed). IsFree p.frozen.items r.variable)))
    (λ bits few all. subst (λ (rs : List Removed). SatisfiesAll (assignment_of (extended rs bits))
    cs)
    (sym w.none_removed) (subst (SatisfiesAll (assignment_of bits)) (same at) all))
    (whole_plain p cs c.keep_whole.new.store.slots refl c.in_ok-given.ensures.ok (same at))
