-- What the outline says is the formula of the bound.
use Rattle.std.proofs.Common.{◌≡◌, ◌++◌, List, All, length, sym, ◌∙◌, ap, subst, ℕ}
use Rattle.std.proofs.lemmas.Result.{err_from_is_err_and}
use Rattle.text.specs.Writing.{Writes}
use Rattle.cnf.specs.Formula.{Cnf}
use Rattle.cnf.specs.Problem.{Problem}
use Rattle.adder.specs.declared.cells.Cell.{Cell}
use Rattle.adder.specs.declared.profiles.Profile.{Profile}
use Rattle.adder.specs.Network.{Adders, adders_as}
use Rattle.bound.specs.declared.encoding.Outline.{Outline}
use Rattle.bound.specs.Bound.{kept, bound_as, comparator_for, dimacs_text, relaxed_clauses}
use Rattle.bound.specs.Adding.{HasVariables}
use Rattle.bound.specs.Encoding.{outlined}
use Rattle.bound.proofs.Fits.{cells_variables}
use Rattle.bound.proofs.Streams.{cells_kept, nothing_put}
use Rattle.bound.proofs.encoding.write_parts.Goals as goal

outlined_is : (profile : Profile) (p : Problem) (k : ℕ) (o : Outline)
    → o.relaxed ≡ kept (relaxed_clauses profile p) → o.network ≡ adders_as profile p
    → o.comparator ≡ comparator_for profile p k → o.vars ≡ (bound_as profile p k).variables
    → outlined p.hard o ≡ bound_as profile p k
outlined_is profile p k o er ex em ev = λ i. record {
  variables = ev i;
  clauses = kept p.hard ++ er i ++ cells_kept (ex i).cells ++ em i;
}

pub put_formula-requires-clause-cells : goal.put_formula-requires-clause-cells
put_formula-requires-clause-cells g c =
    let P : List Cell → Type 0 = λ x. All HasVariables x in
    subst P (sym (ap (λ (n : Adders). n.cells) c.in_ok-outline.ensures.network))
    (cells_variables c.args.profile c.args.instance.now c.vars.ensures.limits)

pub put_formula-requires-clause-count : goal.put_formula-requires-clause-count
put_formula-requires-clause-count g c =
    let is =
    outlined_is c.args.profile c.args.instance.now c.args.k c.in_ok-outline.outline
    c.in_ok-outline.ensures.relaxed c.in_ok-outline.ensures.network
    c.in_ok-outline.ensures.comparator c.in_ok-outline.ensures.vars in
    c.in_ok-outline.ensures.count ∙ sym (ap (λ (f : Cnf). length f.clauses) is)

pub returns-in_err-marks : goal.returns-in_err-marks
returns-in_err-marks g c =
    let p = err_from_is_err_and c.from_residual.result c.from_residual.ensures.1 in
    rw (p.1) (nothing_put _ _)

pub returns-in_err-outline : goal.returns-in_err-outline
returns-in_err-outline g c =
    let p =
    err_from_is_err_and c.from_residual-in_err-outline.result
    c.from_residual-in_err-outline.ensures.1 in
    rw (p.1) (nothing_put _ _)

pub returns : goal.returns
returns g c =
    let is =
    outlined_is c.args.profile c.args.instance.now c.args.k c.in_ok-outline.outline
    c.in_ok-outline.ensures.relaxed c.in_ok-outline.ensures.network
    c.in_ok-outline.ensures.comparator c.in_ok-outline.ensures.vars in
    subst (λ f. Writes c.put_formula.result (g.W.Write.contents c.args.writer.now) (dimacs_text f)
    (g.W.Write.contents c.put_formula.new.writer)) is c.put_formula.ensures
