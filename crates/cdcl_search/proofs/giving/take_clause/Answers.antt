use Rattle.std.proofs.Common.{◌≡◌, ap, ◌∙◌, arith, subst}
use Rattle.propagate.specs.Trail.{depth_of, kept_to}
use Rattle.propagate.proofs.Laws.{kept_low}
use Rattle.lrat_log.specs.declared.lines.Name.TheVariants.{Formula}
use Rattle.cdcl_search.specs.Running.{Stores}
use Rattle.cdcl_search.proofs.Taking.{taken}
use Rattle.cdcl_search.proofs.giving.take_clause.Goals as goal

pub returns : goal.returns
returns c = λ p q ls ask gives first r.
    let low = kept_low 0 (c.args.search.now.engine).trail in
    let none : depth_of (kept_to 0 (c.args.search.now.engine).trail) ≡ 0 = omega arith in
    taken c.backtrack.new.self c.attach_clause.new.self p q (Formula c.args.number)
    c.args.lits.now ls (c.backtrack.ensures.moves.runs p ls r)
    (ap depth_of c.backtrack.ensures.moves.trail ∙ none) ask gives first
    (subst (λ n. Stores c.backtrack.new.self c.attach_clause.new.self (Formula n)
    c.args.lits.now) c.new.ensures c.in_ok-attach_clause.ensures.stored)
    c.attach_clause.ensures.additions
