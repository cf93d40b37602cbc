use Rattle.std.proofs.Common.{◌≡◌, true, sym, ◌∙◌, ap, rules}
use Rattle.forms.specs.Forms.{Forms, cut_line}
use Rattle.cuts_log.specs.declared.standing.Standing.{Standing}
use Rattle.cuts_log.specs.Facts.{is_worth}
use Rattle.cuts_log.specs.Stands.{with_clause}
use Rattle.cuts_log.proofs.Claims.{cut_taken}
use Rattle.cuts_log.proofs.standing.Standing.cut.Goals as goal

pub returns-clause-taken : goal.returns-clause-taken
returns-clause-taken c = λ _.
    let yes : c.is_worth.result ≡ true = search rules in
    let worth : is_worth (cut_line c.args.lits.now c.args.self.now.forms) c.args.cost ≡ true =
    ap (λ r. is_worth r c.args.cost) (sym c.cut.ensures.worth) ∙ sym c.is_worth.ensures ∙ yes in
    let with : Forms → Standing =
    λ f. with_clause c.args.lits.now (record c.args.self.now { forms = f }) in
    cut_taken c.args.self.now c.take.new.self c.args.lits.now c.args.cost c.if-self.false
    c.limits.ensures worth (c.in_ok-take.ensures.ok ∙ ap with c.cut.ensures.unchanged)
