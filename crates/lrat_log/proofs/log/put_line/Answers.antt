-- The line is put as what its kind says.
use Rattle.std.proofs.Common.{◌≡◌, ◌∙◌, ap, refl, sym, true, false}
use Rattle.std.proofs.lemmas.Result.{err_from_is_err_and}
use Rattle.lrat_log.specs.Log.{LogLine, is_delete}
use Rattle.lrat_log.proofs.LineTexts.{line_deletes, line_adds, passes_as, part_as}
use Rattle.lrat_log.proofs.log.put_line.Goals as goal

pub returns-in_err-put_deletion-clause-puts : goal.returns-in_err-put_deletion-clause-puts
returns-in_err-put_deletion-clause-puts g c =
    let p = err_from_is_err_and c.from_residual.result c.from_residual.ensures.1 in
    let deletes : is_delete c.args.line.now.kind ≡ true =
    ap (λ (l : LogLine). is_delete l.kind) (sym c.line.view_is) ∙ sym c.is_delete.ensures
    ∙ c.if-is_delete.true in
    let text =
    line_deletes c.args.base c.args.last c.args.line.now
    c.line.inside.hints deletes (ap (λ (l : LogLine). l.hints) c.line.view_is) in
    let q =
    part_as (g.W.Write.contents c.args.writer.now) (g.W.Write.contents c.put_deletion.new.writer)
    c.args.block.now _ _ text c.in_err-put_deletion.ensures in
    rw (p.1) q

pub returns-in_ok-put_deletion-clause-puts : goal.returns-in_ok-put_deletion-clause-puts
returns-in_ok-put_deletion-clause-puts g c =
    let deletes : is_delete c.args.line.now.kind ≡ true =
    ap (λ (l : LogLine). is_delete l.kind) (sym c.line.view_is) ∙ sym c.is_delete.ensures
    ∙ c.if-is_delete.true in
    let text =
    line_deletes c.args.base c.args.last c.args.line.now
    c.line.inside.hints deletes (ap (λ (l : LogLine). l.hints) c.line.view_is) in
    passes_as _ _ _ _ _ _ text c.in_ok-put_deletion.ensures

pub returns-in_err-put_addition-clause-puts : goal.returns-in_err-put_addition-clause-puts
returns-in_err-put_addition-clause-puts g c =
    let p =
    err_from_is_err_and c.from_residual-in_err-put_addition.result
    c.from_residual-in_err-put_addition.ensures.1 in
    let adds : is_delete c.args.line.now.kind ≡ false =
    ap (λ (l : LogLine). is_delete l.kind) (sym c.line.view_is) ∙ sym c.is_delete.ensures
    ∙ c.if-is_delete.false in
    let text =
    line_adds c.args.base c.args.last c.args.line.now c.args.line.now.clause
    c.args.line.now.hints adds refl refl in
    let q =
    part_as (g.W.Write.contents c.args.writer.now) (g.W.Write.contents c.put_addition.new.writer)
    c.args.block.now _ _ text c.in_err-put_addition.ensures in
    rw (p.1) q

pub returns-in_ok-put_addition-clause-puts : goal.returns-in_ok-put_addition-clause-puts
returns-in_ok-put_addition-clause-puts g c =
    let adds : is_delete c.args.line.now.kind ≡ false =
    ap (λ (l : LogLine). is_delete l.kind) (sym c.line.view_is) ∙ sym c.is_delete.ensures
    ∙ c.if-is_delete.false in
    let text =
    line_adds c.args.base c.args.last c.args.line.now c.args.line.now.clause
    c.args.line.now.hints adds refl refl in
    passes_as _ _ _ _ _ _ text c.in_ok-put_addition.ensures
