use Rattle.std.proofs.Common.{◌≡◌, ◌+◌, ◌∙◌, ◌≤◌, ◌<◌, [], ◌∷◌, ◌++◌, ap, arith, length, length-set}
use Rattle.std.proofs.Common.{set, subst, sym, take, true, false}
use Rattle.std.specs.Prelude.{All}
use Rattle.std.proofs.lemmas.List.{at_drop_all, at_drop_more, length-replicate, take_all, take_more}
use Rattle.std.proofs.lemmas.List.Elements.{All-push}
use Rattle.cnf.specs.Literal.{Literal, index_of}
use Rattle.cnf.specs.Clause.{greatest_variable, has_repeat, is_tautology}
use Rattle.cnf.specs.Marks.{IsMarked, HasPlace}
use Rattle.cdcl.proofs.Apart.{met, past, step}
use Rattle.cdcl.proofs.guided.apart.are_apart.Goals as goal

pub loop-lit-preserved : goal.loop-lit-preserved
loop-lit-preserved c =
    let l = c.lit-item.result in
    let marks = c.loop-lit.marks in
    let lits = c.args.lits.now in
    let i = c.loop-lit.lit-index in
    let inv = c.loop-lit.invariant in
    let lt = c.loop-lit-test.true in
    let n = length c.args.marks.now in
    let now : c.mark.new.self ≡ set marks (index_of l) true = c.mark.ensures in
    let same : length marks ≡ n =
    omega (arith, inv.long, ap length c.clear.ensures, length-replicate n false) in
    let low : l.variable ≤ c.args.variables = omega arith in
    let some : 0 < l.variable = omega arith in
    let place : HasPlace (length marks) l = (some, omega (arith, c.requires.room)) in
    let next =
    step marks lits i l lt c.lit-item.is place inv.marked inv.once inv.apart
    (c.is_met.ensures.own c.if-is_met.false) (c.is_met.ensures.negated c.if-is_met.false) in
    let more : take (i + 1) lits ≡ take i lits ++ l ∷ [] =
    take_more lits i l lt ∙ ap (λ x. take i lits ++ x ∷ []) (sym c.lit-item.is) in
    let named = ap (λ (k : Literal). k.variable) c.lit-item.is in
    let first = at_drop_more greatest_variable lits i l lt in
    record {
      long = ap length now ∙ length-set marks (index_of l) true ∙ inv.long;
      marked = subst (λ m. IsMarked m (take (i + 1) lits)) (sym now) next.0;
      once = next.1;
      apart = next.2;
      from_one = subst (All (λ (k : Literal). 0 < k.variable)) (sym more)
          (All-push (λ (k : Literal). 0 < k.variable) (take i lits) l inv.from_one some);
      low = λ rest. inv.low (omega (arith, first, named, rest, low));
    }

pub returns-clause-new : goal.returns-clause-new
returns-clause-new c = λ apart.
    let lits = c.args.lits.now in
    let i = c.loop-lit.lit-index in
    let inv = c.loop-lit.invariant in
    let past : length lits ≤ i = omega (arith, c.loop-lit-test.false) in
    let whole : take i lits ≡ lits = take_all i lits past in
    let low = inv.low (omega (arith, at_drop_all greatest_variable lits i past)) in
    record {
      no_repeat = subst (λ x. has_repeat x ≡ false) whole inv.once;
      no_tautology = subst (λ x. is_tautology x ≡ false) whole inv.apart;
      small = omega (arith, low, c.requires.few);
    }

pub returns-clause-within : goal.returns-clause-within
returns-clause-within c = λ apart.
    let lits = c.args.lits.now in
    let i = c.loop-lit.lit-index in
    let inv = c.loop-lit.invariant in
    let past : length lits ≤ i = omega (arith, c.loop-lit-test.false) in (
      subst (All (λ (k : Literal). 0 < k.variable)) (take_all i lits past) inv.from_one,
      inv.low (omega (arith, at_drop_all greatest_variable lits i past)),
    )

pub returns-then-variable-variables-clause-no : goal.returns-then-variable-variables-clause-no
returns-then-variable-variables-clause-no c = λ is new within.
    let above : c.args.variables < c.lit-item.result.variable = omega arith in
    past c.args.lits.now c.loop-lit.lit-index c.args.variables c.lit-item.result
    c.loop-lit-test.true c.lit-item.is above within.1

pub returns-then-is_met-clause-no : goal.returns-then-is_met-clause-no
returns-then-is_met-clause-no c = λ is new within.
    let some : 0 < c.lit-item.result.variable = omega arith in
    met c.loop-lit.marks c.args.lits.now c.loop-lit.lit-index c.lit-item.result
    c.loop-lit-test.true c.lit-item.is some c.loop-lit.invariant.marked
    (c.is_met.ensures.met c.if-is_met.true) new
