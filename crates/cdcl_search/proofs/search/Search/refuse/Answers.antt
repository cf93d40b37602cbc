use Rattle.std.proofs.Common.{rules, ◌≡◌, ◌++◌, ◌∷◌, [], Some, sym, ◌∙◌, ap}
use Rattle.cnf.specs.Literal.{negation}
use Rattle.propagate.specs.Trail.{level_in}
use Rattle.cdcl_search.proofs.CoreLines.{zero_unit, zero_false, zero_shown, falsified_there}
use Rattle.cdcl_search.proofs.search.Search.refuse.Goals as goal

pub returns-then-eq-clause-refusal : goal.returns-then-eq-clause-refusal
returns-then-eq-clause-refusal c =
    let s = c.args.self.now in
    let T = s.engine.trail in
    let l = c.args.falsified in
    let flat : c.level.result ≡ Some 0 = search rules in
    let level : level_in T l.variable ≡ Some 0 =
    ap (level_in T) (sym c.variable.ensures.variable) ∙ sym c.level.ensures ∙ flat in
    let unit =
    zero_unit s.store.slots T s.units.items s.noted (negation l) c.requires.units c.requires.noted
    (zero_false s.store.slots T l c.requires.ready.searches.fits.reasons c.requires.falsified
    level) in
    zero_shown s.store.slots s.units.items c.args.assumptions.now c.push.new.self.items l unit
    c.requires.assumed
    (c.in_ok-push.ensures.items ∙ ap (λ x. x ++ l ∷ []) c.new-core.ensures.items)

pub explain-requires-clause-falsified : goal.explain-requires-clause-falsified
explain-requires-clause-falsified c =
    let ne : c.level.result ≡ Some 0 → ⊥ = search rules in
    falsified_there c.args.self.now.engine.trail c.args.falsified c.in-Some.reason
    c.variable.result c.variable-2.result c.level.result c.requires.falsified c.level.ensures
    c.variable.ensures.variable ne (sym c.reason.ensures ∙ c.in-Some.is)
    c.variable-2.ensures.variable
