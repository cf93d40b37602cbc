-- The laws of the formula, for each bound.
use Rattle.std.proofs.Common.{◌≡◌, List, All, sym, subst}
use Rattle.adder.specs.declared.cells.Cell.{Cell}
use Rattle.cnf.specs.Formula.{IsFormula}
use Rattle.adder.specs.Network.{adders_as}
use Rattle.bound.specs.Adding.{HasVariables}
use Rattle.bound.proofs.Cheaper.{says_cheaper}
use Rattle.bound.proofs.Few.{clauses_few, without_bound}
use Rattle.bound.proofs.Fits.{bound_is_formula, cells_variables}
use Rattle.bound.proofs.Parts.{formula_parts}
use Rattle.bound.proofs.formulas.formula_as.Goals as goal

pub keep_cells-requires : goal.keep_cells-requires
keep_cells-requires c =
    let cells : c.cells.result.now ≡ (adders_as c.args.profile c.args.instance.now).cells =
    cc (c.cells.ensures, c.in_ok-network.ensures.cells) in
    let P : List Cell → Type 0 = λ x. All HasVariables x in
    subst P (sym cells) (cells_variables c.args.profile c.args.instance.now c.limits.ensures)

pub new-requires : goal.new-requires
new-requires c =
    let p = c.args.instance.now in
    let same =
    formula_parts c.args.profile p c.args.k c.in_ok-last.last c.new-clauses.result
    c.keep_given.new.clauses c.keep_cells.new.clauses c.keep_comparator.new.clauses
    c.cells-2.result.now c.outputs.result.now c.new-clauses.ensures c.in_ok-last.ensures.clauses
    (rw (c.cells-2.ensures, ← c.cells.ensures) c.in_ok-keep_cells.ensures)
    c.in_ok-keep_comparator.ensures c.in_ok-last.ensures.last
    (cc (c.cells-2.ensures, c.in_ok-network.ensures.cells))
    (cc (c.outputs.ensures, c.in_ok-network.ensures.cells)) in
    subst IsFormula (sym same) (bound_is_formula c.args.profile p c.args.k c.limits.ensures)

pub returns-clause-cheaper : goal.returns-clause-cheaper
returns-clause-cheaper c =
    says_cheaper c.args.profile c.args.instance.now c.args.k c.limits.ensures

pub returns-clause-few : goal.returns-clause-few
returns-clause-few c =
    clauses_few c.args.profile c.args.instance.now c.args.k c.limits.ensures

pub returns-clause-without_bound : goal.returns-clause-without_bound
returns-clause-without_bound c =
    without_bound c.args.profile c.args.instance.now c.limits.ensures
