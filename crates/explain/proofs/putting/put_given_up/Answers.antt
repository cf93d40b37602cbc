-- A line more.
use Rattle.std.proofs.Common.{◌∙◌, ◌+◌, ap, arith, drop, rules, get_or, sum_by}
use Rattle.std.proofs.lemmas.List.{drop_more}
use Rattle.std.proofs.lemmas.List.Sums.{sum_by-cons}
use Rattle.explain.specs.declared.falsified.GivenUp.{GivenUp}
use Rattle.explain.specs.Explanation.{paid_lines}
use Rattle.explain_text.proofs.Laws.{leads_on, leads_same}
use Rattle.explain.proofs.putting.put_given_up.Goals as goal

pub loop-each-preserved : goal.loop-each-preserved
loop-each-preserved g c =
    let xs = c.args.given_up.now in
    let i = c.loop-each.each-index in
    let none : GivenUp = record { place = 0; weight = 0 } in
    let e = drop_more xs i none (search rules) in
    let f = λ (g : GivenUp). g.weight in
    let weights = ap (sum_by f) e ∙ sum_by-cons f (get_or xs i none) (drop (i + 1) xs) in
    record {
      leads = leads_on c.put_paid.ensures (leads_same c.loop-each.invariant.leads
          (ap (paid_lines c.args.soft.now c.loop-each.paid) e));
      paid = omega (arith, weights, c.loop-each.invariant.paid);
    }
