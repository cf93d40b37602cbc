use Rattle.std.proofs.Common.{rules, ◌≡◌, Some, sym, ◌∙◌}
use Rattle.cdcl_search.proofs.CoreLines.{falsified_there}
use Rattle.cdcl_search.proofs.search.Search.explain_false.Goals as goal

pub analyze_final-requires-clause-falsified : goal.analyze_final-requires-clause-falsified
analyze_final-requires-clause-falsified c =
    let ne : c.level.result ≡ Some 0 → ⊥ = search rules in
    falsified_there c.args.self.now.engine.trail c.args.falsified c.in-Some.reason
    c.variable.result c.variable-2.result c.level.result c.requires.falsified c.level.ensures
    c.variable.ensures.variable ne (sym c.reason.ensures ∙ c.in-Some.is)
    c.variable-2.ensures.variable

pub returns-clause-explained : goal.returns-clause-explained
returns-clause-explained c =
    let ne : c.level.result ≡ Some 0 → ⊥ = search rules in
    record {
      reason = c.in-Some.reason;
      falsified = falsified_there c.args.self.now.engine.trail c.args.falsified c.in-Some.reason
          c.variable.result c.variable-2.result c.level.result c.requires.falsified c.level.ensures
          c.variable.ensures.variable ne (sym c.reason.ensures ∙ c.in-Some.is)
          c.variable-2.ensures.variable;
      final = c.in_ok-clause.ensures.learns;
    }
