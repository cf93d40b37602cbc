-- The log goes on where the checker stands.
use Rattle.std.proofs.Common.{◌≡◌, false, length, subst, refl}
use Rattle.std.specs.Prelude.{IfSome}
use Rattle.bound.specs.Weighted.{weighted_cnf}
use Rattle.cuts_log.specs.declared.standing.Standing.{Standing}
use Rattle.cuts_log.specs.Logs.{MayResume}
use Rattle.cuts_log.specs.Stands.{stand_at}
use Rattle.cuts_log.proofs.Beginning.{resumes_kept}
use Rattle.cuts_log.proofs.log.CutsLog.resume.Goals as goal

pub invariant_of-result : goal.invariant_of-result
invariant_of-result g c =
    let p = c.args.instance.now in
    let s = c.args.machine.state in
    let origin = g.W.Write.contents c.args.writer in
    let h : MayResume p s origin c.in-Some.book c.in-Some.formula =
    subst (λ o. IfSome o (λ b. MayResume p s origin b.0 b.1)) c.in-Some.is
    c.in_ok-book.ensures.begun in
    let standing : Standing = record {
      forms = c.into_forms-forms.result;
      ended = false;
      formula = c.in-Some.formula;
    } in
    let same : standing ≡ stand_at p s = λ i. record {
      forms = c.into_forms-forms.ensures i;
      ended = false;
      formula = h.formula i;
    } in
    resumes_kept p s (length (weighted_cnf p).clauses) origin c.in-Some.book standing
    c.worth-cost.result h.book refl same h.start c.worth-cost.ensures.most
    c.worth-cost.ensures.worth
