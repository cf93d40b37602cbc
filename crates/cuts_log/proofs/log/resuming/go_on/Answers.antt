-- The formula is the weighted one, all of it is live, and each cut holds for some cost.
use Rattle.std.proofs.Common.{◌≡◌, ◌<◌, length, rules, arith, subst, sym, ◌∙◌, ap}
use Rattle.std.specs.Prelude.{IfSome}
use Rattle.cnf.specs.Formula.{Cnf}
use Rattle.bound.specs.Weighted.{weighted_cnf}
use Rattle.cuts_log.specs.Books.{resumed_book}
use Rattle.cuts_log.specs.Given.{all_live}
use Rattle.cuts_log.specs.Starts.{IsResumable}
use Rattle.cuts_log.proofs.Starting.{resumes_right}
use Rattle.cuts_log.proofs.log.resuming.go_on.Goals as goal

pub returns-clause-begun : goal.returns-clause-begun
returns-clause-begun g c =
    let p = c.args.instance.now in
    let s = c.args.machine.now.state in
    let cs : c.into_clauses-clauses.result ≡ (weighted_cnf p).clauses =
    c.into_clauses-clauses.ensures ∙ ap (λ (f : Cnf). f.clauses) c.in_ok-formula.ensures in
    let can = subst (λ o. IfSome o (IsResumable s c.into_clauses-clauses.result)) c.in-Some.is
    c.in_ok-lines.ensures.can in
    let whole = subst (λ d. IsResumable s d c.in-Some.lines) cs can in
    let some : 0 < s.worth = search (rules, arith) in record {
      book =
          c.in_ok-book.ensures
          ∙ ap (λ n. resumed_book p s n (g.W.Write.contents c.args.writer))
          (c.len.ensures ∙ ap length cs);
      formula = c.in_ok-formula-2.ensures ∙ ap all_live cs;
      start = resumes_right p s c.in-Some.lines c.requires.reached
          (sym c.has_ended.ensures ∙ c.if-has_ended.false) some whole;
    }
