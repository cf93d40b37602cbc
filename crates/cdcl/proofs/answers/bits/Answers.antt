use Rattle.std.proofs.Common.{◌≡◌, ◌≤◌, length, ap, subst, sym, ◌∙◌, arith}
use Rattle.std.proofs.lemmas.List.{length-take-le}
use Rattle.reconstruction.specs.Removals.{extended}
use Rattle.reconstruction.proofs.Laws.{length-extended}
use Rattle.cdcl.specs.Solving.{SatisfyGiven}
use Rattle.cdcl_search.specs.Running.{tables_of}
use Rattle.cdcl.proofs.Satisfied.{answer_sat}
use Rattle.clauses.specs.Slots.{clause_at}
use Rattle.propagate.proofs.Laws.{no_tautology}
use Rattle.cdcl.specs.Outcomes.{IsTrueUnder}
use Rattle.cdcl.proofs.Frozen.{frozen_true}
use Rattle.cdcl.proofs.answers.bits.Goals as goal

pub read_values-requires-clause-few : goal.read_values-requires-clause-few
read_values-requires-clause-few c = c.requires.runs.1.room.few

pub set_eliminated-requires : goal.set_eliminated-requires
set_eliminated-requires c =
    c.in_ok-bits.ensures.long ∙ c.requires.runs.1.running.variables

pub returns-clause-long : goal.returns-clause-long
returns-clause-long c =
    let p = c.args.input.now in
    let read = c.in_ok-bits.bits.items in
    let n = length p.frozen.items in
    let fits : n ≤ length (extended p.stack.removed read) =
    omega (
      arith,
      length-extended p.stack.removed read,
      c.in_ok-bits.ensures.long,
      c.requires.runs.1.running.variables,
      c.requires.input.no_fewer,
    ) in
    ap length c.set_eliminated.ensures ∙ length-take-le n (extended p.stack.removed read) fits

pub returns-clause-satisfied : goal.returns-clause-satisfied
returns-clause-satisfied c =
    let s = c.args.search.now in
    let p = c.args.input.now in
    let r = c.requires.runs.1.running in
    let read = c.in_ok-bits.bits.items in
    let many : length read ≡ p.stack.variables = c.in_ok-bits.ensures.long ∙ r.variables in
    let fits : length p.frozen.items ≤ length (extended p.stack.removed read) =
    omega (arith, length-extended p.stack.removed read, many, c.requires.input.no_fewer) in
    subst (λ bits. SatisfyGiven bits p.given) (sym c.set_eliminated.ensures)
    (answer_sat s.engine s.store.slots p.stack (tables_of s) p.frozen.items p.first p.given
    c.requires.runs.0 read r c.requires.fixpoint many c.in_ok-bits.ensures.values
    c.requires.input.given_small fits)

pub returns-clause-frozen : goal.returns-clause-frozen
returns-clause-frozen c = λ l one fixed e.
    let s = c.args.search.now in
    let p = c.args.input.now in
    let r = c.requires.runs.1.running in
    let read = c.in_ok-bits.bits.items in
    let many : length read ≡ p.stack.variables = c.in_ok-bits.ensures.long ∙ r.variables in
    subst (λ bits. IsTrueUnder bits l) (sym c.set_eliminated.ensures)
    (frozen_true s.engine.trail read p.frozen.items p.stack.removed l
    (no_tautology (clause_at s.store.slots) s.engine.trail r.searches.fits.reasons)
    c.in_ok-bits.ensures.values r.recorded.not_frozen
    (let few = c.requires.input.no_fewer in omega arith) one fixed e)
