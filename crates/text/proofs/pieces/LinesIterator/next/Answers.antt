use Rattle.std.proofs.Common.{refl, sym, ap, ◌∙◌, length, arith}
use Rattle.std.proofs.lemmas.Bool.{eqb-false, eqb-true, false_from_ne_true}
use Rattle.text.proofs.FirstPieces.{lines-next, lines-end}
use Rattle.text.proofs.pieces.LinesIterator.next.Goals as goal

pub returns-in-Some-clause-steps : goal.returns-in-Some-clause-steps
returns-in-Some-clause-steps c =
    let found = c.in-Some.ensures in
    let w = c.self.inside.rest.now in
    sym c.self.view_is ∙ lines-next w c.self.inside.number c.in-Some.end found.0.high
    (eqb-true _ 10 found.1) (λ k l. false_from_ne_true _ (found.0.before k (omega arith) l))
    c.without_return.result.now _ c.without_return.ensures refl

pub returns-in-Some-clause-goes : goal.returns-in-Some-clause-goes
returns-in-Some-clause-goes c =
    record {
      on = λ _. (tt, tt, omega (arith, ap length (returns-in-Some-clause-steps c)));
      keeps = tt;
      rests = λ _. tt;
    }

pub returns-in-None-clause-steps : goal.returns-in-None-clause-steps
returns-in-None-clause-steps c =
    let w = c.self.inside.rest.now in
    let some = eqb-false (length w) 0 (sym c.is_empty.ensures ∙ c.if-is_empty.false) in
    sym c.self.view_is ∙ lines-end w c.self.inside.number (omega (arith, some))
    (λ k l. false_from_ne_true _ (c.in-None.ensures k (omega arith) l)) _ refl
