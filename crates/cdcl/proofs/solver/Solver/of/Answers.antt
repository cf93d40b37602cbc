-- What elimination leaves starts the search.
use Rattle.std.proofs.Common.{◌≡◌, ◌<◌, ◌≤◌, ◌+◌, ◌^◌, List, length, take, map, refl, sym}
use Rattle.std.proofs.Common.{◌∙◌, ap, subst, arith}
use Rattle.std.specs.Prelude.{All}
use Rattle.std.proofs.lemmas.List.{drop_all, length-map}
use Rattle.cnf.specs.Literal.{Literal}
use Rattle.cnf.specs.Refute.{IsRefutedByHints}
use Rattle.clauses.specs.Slots.{live_clauses}
use Rattle.clauses.proofs.Laws.{live_map}
use Rattle.lrat_log.specs.declared.lines.Name.{Name}
use Rattle.lrat_log.specs.Steps.{StaysLogOver, given_of}
use Rattle.lrat_log.proofs.Laws.{clauses_given}
use Rattle.eliminate.specs.Elimination.{ExtendsBack}
use Rattle.reconstruction.specs.Stack.{IsFree, StackState}
use Rattle.cdcl_search.specs.declared.input.Input.{Input}
use Rattle.cdcl_search.proofs.Laws.{added_few}
use Rattle.cdcl.proofs.FirstRun.{IsLeft, formula_again, left_from, left_long, left_live}
use Rattle.cdcl.proofs.FirstRun.{left_numbers, new_input, first_clauses, first_runs}
use Rattle.cdcl.proofs.Answered.{log_now}
use Rattle.cdcl.proofs.solver.Solver.of.Goals as goal
use Rattle.cdcl.proofs.solver.Solver.of.Goals.{After-is_short}

-- what elimination has left
left : (g : _) (c : After-is_short g)
    → IsLeft c.into_clauses-clauses.result c.eliminate.new.store.slots c.in_ok-stack.stack
    (g.S.Sink.lines c.eliminate.new.sink.sink)
left g c =
    left_from c.into_clauses-clauses.result (live_clauses c.in_ok-store.store.slots)
    c.eliminate.new.store.slots c.in_ok-stack.stack (g.S.Sink.lines c.eliminate.new.sink.sink)
    (ap live_clauses c.in_ok-store.ensures ∙ live_map c.into_clauses-clauses.result)
    c.in_ok-stack.ensures.leaves.live c.in_ok-stack.ensures.leaves.left

pub eliminate-requires-clause-formula : goal.eliminate-requires-clause-formula
eliminate-requires-clause-formula g c =
    formula_again c.args.formula (length c.deref.result.now)
    (live_clauses c.in_ok-store.store.slots) c.limits.ensures
    (ap length c.deref.ensures.value ∙ c.requires.frozen)
    (ap live_clauses c.in_ok-store.ensures ∙ live_map c.into_clauses-clauses.result
    ∙ c.into_clauses-clauses.ensures)

pub start-requires-clause-few : goal.start-requires-clause-few
start-requires-clause-few g c =
    let few = subst (λ n. n < 2 ^ 26) (sym c.requires.frozen) c.limits.ensures.few in
    let v = c.in_ok-stack.ensures.leaves.variables in
    let wide = ap length c.deref.ensures.value in
    omega (arith, v.1, few, wide)

pub start-requires-clause-long : goal.start-requires-clause-long
start-requires-clause-long g c =
    left_long c.into_clauses-clauses.result c.eliminate.new.store.slots c.in_ok-stack.stack
    (g.S.Sink.lines c.eliminate.new.sink.sink)
    (left g (goal.at.start-requires-clause-long g c).After-is_short)
    c.in_ok-stack.ensures.leaves.together

pub start-requires-clause-live : goal.start-requires-clause-live
start-requires-clause-live g c =
    left_live c.into_clauses-clauses.result c.eliminate.new.store.slots c.in_ok-stack.stack
    (g.S.Sink.lines c.eliminate.new.sink.sink)
    (left g (goal.at.start-requires-clause-live g c).After-is_short)

pub start-requires-clause-numbers : goal.start-requires-clause-numbers
start-requires-clause-numbers g c =
    let ls = g.S.Sink.lines c.eliminate.new.sink.sink in
    let few =
    added_few ls c.eliminate.new.sink.additions c.eliminate.new.sink.counted c.is_short.ensures in
    let same = c.eliminate.new.sink.counted in
    let cs = c.into_clauses-clauses.result in
    let firsts = c.len-first.ensures in
    let numbered = ap length c.in_ok-given.ensures.ok in
    let alone = length-map (given_of cs) (λ (g : Name × List Literal). g.1) in
    let many = ap length (clauses_given cs) in
    left_numbers c.into_clauses-clauses.result c.eliminate.new.store.slots c.in_ok-stack.stack ls
    (left g (goal.at.start-requires-clause-numbers g c).After-is_short)
    (omega (arith, few, same, firsts.len, firsts.few, numbered, alone, many))

pub invariant_of-result : goal.invariant_of-result
invariant_of-result g c =
    let cs = c.into_clauses-clauses.result in
    let slots = c.eliminate.new.store.slots in
    let ls = g.S.Sink.lines c.eliminate.new.sink.sink in
    let e = ap live_clauses c.in_ok-store.ensures ∙ live_map cs in
    let stack = c.in_ok-stack.ensures in
    let leaves = stack.leaves in
    let rest = left g (goal.at.invariant_of-result g c).After-is_short in
    let frozen : c.args.frozen.items ≡ c.deref.result.now = sym c.deref.ensures.value in
    let p : Input =
    record {
      stack = c.start.new.stack;
      frozen = c.args.frozen;
      first = c.len-first.result;
      given = c.in_ok-given.given;
    } in
    let wide : c.start.new.stack.variables ≡ c.in_ok-stack.stack.variables =
    ap (λ (k : StackState). k.variables) c.in_ok-search.ensures.names in
    let firsts : c.len-first.result ≡ length c.in_ok-given.given = c.len-first.ensures.len in
    let stays : StaysLogOver (length c.args.frozen.items) (given_of cs) ls =
    subst (λ f. StaysLogOver (length f) (given_of cs) ls) (sym frozen)
    (subst (λ x. StaysLogOver (length c.deref.result.now) (given_of x) ls) e stack.lines) in
    let few =
    added_few ls c.eliminate.new.sink.additions c.eliminate.new.sink.counted c.is_short.ensures in
    record {
      input = new_input c.args.formula p cs c.limits.ensures c.into_clauses-clauses.ensures
          c.requires.frozen c.in_ok-given.ensures.ok firsts
          (subst (λ f. length f ≤ p.stack.variables) (sym frozen)
          (subst (λ n. length c.deref.result.now ≤ n) (sym wide) leaves.variables.0))
          (subst (λ f. p.stack.variables ≤ length f + 2 ^ 20) (sym frozen)
          (subst (λ n. n ≤ length c.deref.result.now + 2 ^ 20) (sym wide) leaves.variables.1));
      lines =
          subst (λ x. StaysLogOver (length c.args.frozen.items) x ls)
          (sym c.in_ok-given.ensures.ok) stays;
      running =
          λ works not_refuted. first_runs c.in_ok-search.search p ls cs slots
          c.eliminate.new.sink.additions c.in_ok-stack.stack c.in_ok-search.ensures.names
          c.in_ok-search.ensures.started rest c.in_ok-given.ensures.ok
          firsts stays not_refuted c.eliminate.new.sink.counted
          few
          (subst (λ f. All (λ r. IsFree f r.variable) (c.in_ok-stack.stack).removed) (sym frozen)
          leaves.not_frozen)
          (subst (λ x. ExtendsBack c.in_ok-stack.stack x (live_clauses slots)) e leaves.back)
          (λ h. leaves.refuted (subst IsRefutedByHints (sym e) h));
    }

pub returns-clause-given : goal.returns-clause-given
returns-clause-given g c =
    let cs = c.into_clauses-clauses.result in
    let p : Input =
    record {
      stack = c.start.new.stack;
      frozen = c.args.frozen;
      first = c.len-first.result;
      given = c.in_ok-given.given;
    } in
    let firsts : c.len-first.result ≡ length c.in_ok-given.given = c.len-first.ensures.len in
    let wide : length c.args.frozen.items ≡ c.args.formula.variables = c.requires.frozen in
    let same : map (λ x. x.1) (take c.len-first.result c.in_ok-given.given)
    ≡ c.args.formula.clauses = first_clauses p cs c.in_ok-given.ensures.ok firsts
    ∙ c.into_clauses-clauses.ensures in (
      λ i. record { variables = wide i; clauses = same i },
      drop_all c.len-first.result c.in_ok-given.given (omega arith),
      refl,
    )

pub returns-clause-lines : goal.returns-clause-lines
returns-clause-lines g c =
    let cs = c.into_clauses-clauses.result in
    let ls = g.S.Sink.lines c.eliminate.new.sink.sink in
    let e = ap live_clauses c.in_ok-store.ensures ∙ live_map cs in
    let stack = c.in_ok-stack.ensures in
    let leaves = stack.leaves in
    let frozen : c.args.frozen.items ≡ c.deref.result.now = sym c.deref.ensures.value in
    let p : Input =
    record {
      stack = c.start.new.stack;
      frozen = c.args.frozen;
      first = c.len-first.result;
      given = c.in_ok-given.given;
    } in
    let wide : c.start.new.stack.variables ≡ c.in_ok-stack.stack.variables =
    ap (λ (k : StackState). k.variables) c.in_ok-search.ensures.names in
    let firsts : c.len-first.result ≡ length c.in_ok-given.given = c.len-first.ensures.len in
    let stays : StaysLogOver (length c.args.frozen.items) (given_of cs) ls =
    subst (λ f. StaysLogOver (length f) (given_of cs) ls) (sym frozen)
    (subst (λ x. StaysLogOver (length c.deref.result.now) (given_of x) ls) e stack.lines) in
    let input =
    new_input c.args.formula p cs c.limits.ensures c.into_clauses-clauses.ensures
    c.requires.frozen c.in_ok-given.ensures.ok firsts
    (subst (λ f. length f ≤ p.stack.variables) (sym frozen)
    (subst (λ n. length c.deref.result.now ≤ n) (sym wide) leaves.variables.0))
    (subst (λ f. p.stack.variables ≤ length f + 2 ^ 20) (sym frozen)
    (subst (λ n. n ≤ length c.deref.result.now + 2 ^ 20) (sym wide) leaves.variables.1)) in
    log_now p ls input (subst (λ x. StaysLogOver (length c.args.frozen.items) x ls)
    (sym c.in_ok-given.ensures.ok) stays)
