use Rattle.std.proofs.Common.{◌≡◌, ◌≢◌, ◌≤◌, true, false, Some, ◌⊎◌, sym, ap, subst, ◌∙◌, arith}
use Rattle.std.specs.Prelude.{All, MatchOption}
use Rattle.std.specs.List.{AllByRecursion}
use Rattle.std.proofs.lemmas.Bool.{true≢false}
use Rattle.cnf.specs.Literal.{Literal, negation}
use Rattle.cnf.specs.Clause.{contains_literal}
use Rattle.propagate_watches.specs.declared.table.Rest.TheVariants.{Nothing, One}
use Rattle.propagate_trail.specs.Trail.{literals_of, value_in}
use Rattle.propagate.specs.Watches.{EngineState}
use Rattle.propagate.proofs.Looking.{within_variable, within_all, false_value}
use Rattle.propagate.proofs.Beside.{rest_known, nothing_left, one_false, search_left}
use Rattle.propagate.proofs.engine.Engine.beside.Goals as goal

pub returns-in-Nothing : goal.returns-in-Nothing
returns-in-Nothing c =
    let W = c.requires.watched.1 in
    let A = literals_of c.args.self.now.trail in
    let rest =
    rest_known c.args.store.now.slots c.args.self.now c.requires.watched.0 c.args.other c.args.entry
    c.args.rest Nothing W c.requires.watched.2 c.requires.rest c.in-Nothing.is in
    λ d live. let sd : W.clause ≡ d = cc (W.live, live) in
    subst (AllByRecursion (λ l. (l ≡ c.args.other) ⊎ (contains_literal (negation l) A ≡ true))) sd
    (nothing_left A W.clause c.requires.watched.0 c.args.other rest W.falsified)

pub returns-then-is_false : goal.returns-then-is_false
returns-then-is_false c =
    let W = c.requires.watched.1 in
    let T = c.args.self.now.trail in
    let t = c.in-One.third in
    let rest =
    rest_known c.args.store.now.slots c.args.self.now c.requires.watched.0 c.args.other c.args.entry
    c.args.rest (One t) W c.requires.watched.2 c.requires.rest c.in-One.is in
    let e : value_in T t ≡ Some false =
    subst (λ X. value_in X t ≡ Some false) (ap (λ (x : EngineState). x.trail) c.self.view_is)
    (c.is_false.ensures.0 c.if-is_false.true) in
    λ d live. let sd : W.clause ≡ d = cc (W.live, live) in
    subst (AllByRecursion (λ l. (l ≡ c.args.other)
    ⊎ (contains_literal (negation l) (literals_of T) ≡ true))) sd
    (one_false (literals_of T) W.clause c.requires.watched.0 c.args.other t rest W.falsified
    (false_value T t e))

pub returns-else-is_false : goal.returns-else-is_false
returns-else-is_false c =
    let W = c.requires.watched.1 in
    let t = c.in-One.third in
    let rest =
    rest_known c.args.store.now.slots c.args.self.now c.requires.watched.0 c.args.other c.args.entry
    c.args.rest (One t) W c.requires.watched.2 c.requires.rest c.in-One.is in (
      rest.2,
      (
        λ e. true≢false (sym (c.is_false.ensures.1
            (subst (λ X. value_in X t ≡ Some false)
            (sym (ap (λ (x : EngineState). x.trail) c.self.view_is)) e)) ∙ c.if-is_false.false),
        λ d live. let sd : W.clause ≡ d = cc (W.live, live) in
            subst (λ x. contains_literal t x ≡ true) sd rest.0,
      ),
    )

pub is_false-requires : goal.is_false-requires
is_false-requires c =
    let W = c.requires.watched.1 in
    let t = c.in-One.third in
    let rest =
    rest_known c.args.store.now.slots c.args.self.now c.requires.watched.0 c.args.other c.args.entry
    c.args.rest (One t) W c.requires.watched.2 c.requires.rest c.in-One.is in
    omega (
      arith,
      (within_variable c.args.self.now.variables W.clause t W.within rest.0).1,
      ap (λ (x : EngineState). x.variables) c.self.view_is,
    )

pub find_other_not_false-requires : goal.find_other_not_false-requires
find_other_not_false-requires c =
    let W = c.requires.watched.1 in
    let same : W.clause ≡ c.lits.result.now = cc (W.live, c.lits.ensures) in
    let v : c.self.inside.trail.variables ≡ c.args.self.now.variables =
    ap (λ (x : EngineState). x.variables) c.self.view_is in
    subst (λ n. All (λ (l : Literal). l.variable ≤ n) c.lits.result.now) (sym v)
    (subst (All (λ (l : Literal). l.variable ≤ c.args.self.now.variables)) same
    (within_all c.args.self.now.variables W.clause W.within.1))

pub returns-in-Many : goal.returns-in-Many
returns-in-Many c =
    let trail = ap (λ (x : EngineState). x.trail) c.self.view_is in
    search_left c.args.store.now.slots c.args.self.now c.args.entry.reference c.args.other
    c.lits.result.now c.find_other_not_false.result c.lits.ensures
    (subst (λ T. MatchOption c.find_other_not_false.result
    (All (λ l. (l ≡ c.args.other) ⊎ (value_in T l ≡ Some false)) c.lits.result.now)
    (λ l. (contains_literal l c.lits.result.now ≡ true) × (l ≢ c.args.other)
    × (value_in T l ≢ Some false))) trail c.find_other_not_false.ensures)
