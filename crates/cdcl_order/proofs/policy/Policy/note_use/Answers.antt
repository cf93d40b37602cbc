-- The literals of an attached clause have variables of the engine.
use Rattle.std.proofs.Common.{◌≡◌, ◌≤◌, sym, ◌∙◌, subst}
use Rattle.std.specs.Prelude.{All}
use Rattle.std.proofs.lemmas.Option.{same_Some}
use Rattle.cnf.specs.Literal.{Literal}
use Rattle.propagate.proofs.Laws.{within_all}
use Rattle.cdcl_order.proofs.policy.Policy.note_use.Goals as goal

pub count_lbd-requires-clause-within : goal.count_lbd-requires-clause-within
count_lbd-requires-clause-within c =
    let e = c.args.engine.now in
    let w = c.requires.fits.attached c.args.reference c.requires.attached in
    let same : w.0 ≡ c.lits.result.now =
    same_Some w.0 c.lits.result.now (sym w.1 ∙ c.lits.ensures) in
    subst (All (λ (l : Literal). l.variable ≤ e.variables)) same
    (within_all e.variables w.0 w.2.0.1)
