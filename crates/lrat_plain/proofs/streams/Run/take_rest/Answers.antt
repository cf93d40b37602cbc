-- What follows the last line feed is no line, or one.
use Rattle.std.proofs.Common.{◌≡◌, [], ◌∷◌, OnOk, ap, subst, sym, ◌∙◌}
use Rattle.std.specs.Prelude.{IfErr}
use Rattle.text.specs.Text.{token_lines, tokens_of}
use Rattle.text.proofs.Laws.{line_tokens-last}
use Rattle.lrat_plain.specs.Steps.{FaultOf, WritesSteps}
use Rattle.lrat_plain.proofs.Running.{goes_nowhere}
use Rattle.lrat_plain.proofs.streams.Run.take_rest.Goals as goal

pub returns-then-is_empty-clause-goes : goal.returns-then-is_empty-clause-goes
returns-then-is_empty-clause-goes g c =
    let s = c.args.self.now.steps in
    let a = g.F.Write.contents c.args.formula.now in
    let b = g.C.Write.contents c.args.certificate.now in
    subst (λ r. WritesSteps s s (token_lines r) a a b b)
    (sym (c.is_empty.ensures.empty c.if-is_empty.true)) (goes_nowhere s a b)

pub returns-clause-goes : goal.returns-clause-goes
returns-clause-goes g c =
    let s = c.args.self.now in
    let e : tokens_of c.bytes.result.now ∷ [] ≡ token_lines s.rest =
    ap (λ r. tokens_of r ∷ []) c.bytes.ensures
    ∙ sym (line_tokens-last s.rest (c.is_empty.ensures.some c.if-is_empty.false)
    c.requires.kept) in
    subst (λ l. OnOk c.take_line.result (WritesSteps s.steps c.take_line.new.self l
    (g.F.Write.contents c.args.formula.now) (g.F.Write.contents c.take_line.new.formula)
    (g.C.Write.contents c.args.certificate.now)
    (g.C.Write.contents c.take_line.new.certificate))) e c.take_line.ensures.goes

pub returns-clause-fault : goal.returns-clause-fault
returns-clause-fault g c =
    let s = c.args.self.now in
    let e : tokens_of c.bytes.result.now ∷ [] ≡ token_lines s.rest =
    ap (λ r. tokens_of r ∷ []) c.bytes.ensures
    ∙ sym (line_tokens-last s.rest (c.is_empty.ensures.some c.if-is_empty.false)
    c.requires.kept) in
    subst (λ l. IfErr c.take_line.result (FaultOf (s.steps).machine l)) e
    c.take_line.ensures.fault
