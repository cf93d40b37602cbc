use Rattle.std.proofs.Common.{refl, sym, ap, ◌∙◌, length, arith}
use Rattle.text.proofs.FirstPieces.{tokens-next, tokens-end}
use Rattle.text.proofs.pieces.TokensIterator.next.Goals as goal

pub returns-then-is_empty-clause-steps : goal.returns-then-is_empty-clause-steps
returns-then-is_empty-clause-steps c =
    let h = tokens-end c.self.inside.rest.now _ c.blanks_at.result c.blanks_at.ensures.blanks refl
    (sym c.is_empty.ensures ∙ c.if-is_empty.true) in
    (sym c.self.view_is ∙ h.0, h.1)

pub returns-clause-steps : goal.returns-clause-steps
returns-clause-steps c =
    sym c.self.view_is
    ∙ tokens-next c.self.inside.rest.now _ c.blanks_at.result c.blanks_at.ensures.blanks refl
    (sym c.is_empty.ensures ∙ c.if-is_empty.false)
    c.split_at.result.0.now c.split_at.result.1.now c.token_at.result c.token_at.ensures.token
    c.split_at.ensures.front c.split_at.ensures.back

pub returns-clause-goes : goal.returns-clause-goes
returns-clause-goes c =
    record {
      on = λ _. (tt, tt, omega (arith, ap length (returns-clause-steps c)));
      keeps = tt;
      rests = λ _. tt;
    }
