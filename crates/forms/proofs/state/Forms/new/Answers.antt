use Rattle.std.proofs.Common.{◌≡◌, ◌+◌, ◌∷◌, [], ◌++◌, ◌∙◌, sym, ap, pos, take, arith}
use Rattle.std.specs.List.{sum_by}
use Rattle.std.proofs.lemmas.List.{take_more}
use Rattle.std.proofs.lemmas.List.Sums.{sum_by-append}
use Rattle.std.proofs.lemmas.Result.{IfOk-from_err}
use Rattle.adder.specs.declared.relaxations.Relaxation.{Relaxation}
use Rattle.linear.specs.Linear.{plus_literal}
use Rattle.linear.specs.Costs.{CostForm}
use Rattle.forms.proofs.Weighing.{form_push}
use Rattle.forms.proofs.state.Forms.new.Goals as goal

pub loop-weight-preserved : goal.loop-weight-preserved
loop-weight-preserved c =
    let rs = c.args.weights.now in
    let i = c.loop-weight.weight-index in
    let r = c.weight-item.result in
    let inv = c.loop-weight.invariant in
    let add : CostForm → CostForm =
    λ f. record f { cost = plus_literal (pos r.weight) r.lit f.cost } in
    let more : take (i + 1) rs ≡ take i rs ++ r ∷ [] =
    take_more rs i r c.loop-weight-test.true
    ∙ ap (λ x. take i rs ++ x ∷ []) (sym c.weight-item.is) in
    record {
      form =
          c.add_weight.ensures.form
          ∙ ap add inv.form
          ∙ sym (form_push (c.args.variables + 1) rs i r c.loop-weight-test.true c.weight-item.is);
      sum =
          omega (
            arith,
            c.add_weight.ensures.weights,
            inv.sum,
            ap (sum_by (λ (x : Relaxation). x.weight)) more,
            sum_by-append (λ (x : Relaxation). x.weight) (take i rs) (r ∷ []),
          );
      mass = c.add_weight.ensures.mass ∙ inv.mass;
    }

pub returns-in_err-bound : goal.returns-in_err-bound
returns-in_err-bound c = IfOk-from_err c.from_residual.result _ c.from_residual.ensures.0

pub returns-in_err-new : goal.returns-in_err-new
returns-in_err-new c =
    IfOk-from_err c.from_residual-in_err-new.result _ c.from_residual-in_err-new.ensures.0
