use Rattle.std.proofs.Common.{◌≡◌, length, ap, ◌∙◌}
use Rattle.cnf.specs.Formula.{Cnf}
use Rattle.bound.specs.Weighted.{weighted_cnf}
use Rattle.cuts_log.proofs.Beginning.{begins_kept}
use Rattle.cuts_log.proofs.log.CutsLog.over.Goals as goal

pub invariant_of-result : goal.invariant_of-result
invariant_of-result g c =
    let p = c.args.instance.now in
    let size : c.len.result ≡ length (weighted_cnf p).clauses = c.len.ensures
    ∙ ap length (c.clauses.ensures ∙ ap (λ (f : Cnf). f.clauses) c.requires.formula) in
    begins_kept p c.len.result _ c.in_ok-book.book _ c.in_ok-book.ensures size
    c.in_ok-standing.ensures
