-- The clause is kept exactly where it has no complementary literals.
use Rattle.std.proofs.Common.{◌≡◌, true, false, sym, ◌∙◌}
use Rattle.std.proofs.lemmas.Result.{on_ok_weaker}
use Rattle.cnf.specs.Clause.{is_tautology}
use Rattle.bound.proofs.Kept.{kept_itself, kept_none}
use Rattle.bound.proofs.kept_clauses.keep.Goals as goal

pub returns-then-is_tautology_by-clause-clauses : goal.returns-then-is_tautology_by-clause-clauses
returns-then-is_tautology_by-clause-clauses c =
    let e : is_tautology c.args.lits.now ≡ true = sym c.is_tautology_by.ensures.value
    ∙ c.if-is_tautology_by.true in
    kept_none c.args.clauses.now c.args.lits.now c.requires.no_repeat e

pub returns-clause-clauses : goal.returns-clause-clauses
returns-clause-clauses c =
    let e : is_tautology c.args.lits.now ≡ false = sym c.is_tautology_by.ensures.value
    ∙ c.if-is_tautology_by.false in
    on_ok_weaker c.push.result (λ pushed. pushed
    ∙ kept_itself c.args.clauses.now c.args.lits.now c.requires.no_repeat e) c.push.ensures.ok
