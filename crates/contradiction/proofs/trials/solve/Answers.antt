-- The ids of the log are those of the clauses and of its additions.
use Rattle.std.proofs.Common.{◌≡◌, ◌∙◌, ◌++◌, List, length, sym, ap, subst, arith}
use Rattle.std.proofs.lemmas.List.{append-nil, length-map}
use Rattle.cnf.specs.Literal.{Literal}
use Rattle.lrat_log.specs.declared.lines.Name.{Name}
use Rattle.lrat_log.specs.Log.{HasSmallIds, LogLine}
use Rattle.lrat_log.specs.Steps.{IsLogOver, given_of}
use Rattle.lrat_log.proofs.Laws.{base_of, clauses_given, small_ids}
use Rattle.cdcl.specs.Solving.{given_to}
use Rattle.contradiction.proofs.trials.solve.Goals as goal

pub spell_refutation-requires-clause-ids : goal.spell_refutation-requires-clause-ids
spell_refutation-requires-clause-ids c = λ room.
    let cs = c.args.formula.now.clauses in
    let n = c.len-clauses.result in
    let given = c.in_ok-solver.ensures in
    let same = c.solve-answer.ensures.solves.given in
    let solver = c.solve-answer.new.self in
    let seen : given_to solver ≡ given_of cs =
    ap (λ f. given_of f.clauses ++ solver.added) (same.0 ∙ given.0)
    ∙ ap (λ x. given_of cs ++ x) (same.1 ∙ given.1) ∙ append-nil (given_of cs) in
    let many : n ≡ length (given_of cs) = c.len-clauses.ensures.len
    ∙ ap length (c.given.ensures ∙ seen) in
    let alone = length-map (given_of cs) (λ (g : Name × List Literal). g.1) in
    let base = base_of cs n (omega (arith, many, alone, ap length (clauses_given cs))) in
    let log : IsLogOver (given_of cs) solver.sink =
    subst (λ g. IsLogOver g solver.sink) seen c.solve-answer.ensures.solves.lines in
    subst (λ (ls : List LogLine). HasSmallIds n ls) (sym c.into_sink-log.ensures)
    (small_ids (given_of cs) n base solver.sink (log.steps n base)
    (omega (arith, room, ap length c.into_sink-log.ensures)))
