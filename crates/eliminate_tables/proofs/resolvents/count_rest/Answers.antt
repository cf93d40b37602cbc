-- A literal and its negation.
use Rattle.std.proofs.Common.{◌≡◌, ◌∙◌, sym, ap, true, false, rules}
use Rattle.cnf.specs.Literal.{negation}
use Rattle.cnf.specs.Marks.{mark_of}
use Rattle.eliminate_tables.proofs.Built.{clash_at}
use Rattle.cnf.proofs.Laws.{codes_differ}
use Rattle.eliminate_tables.proofs.resolvents.count_rest.Goals as goal

pub returns-then-is_marked-clause-clash : goal.returns-then-is_marked-clause-clash
returns-then-is_marked-clause-clash c none =
    let ms = c.args.marks.now in
    let unmarked : mark_of ms c.lit-item.result ≡ false =
    sym c.is_marked.ensures ∙ c.if-not-is_marked.true in
    let clash : mark_of ms (negation c.lit-item.result) ≡ true =
    ap (mark_of ms) (sym c.negation.ensures) ∙ sym c.is_marked-then-not-is_marked.ensures
    ∙ c.if-is_marked.true in
    clash_at ms c.args.left_out c.args.lits.now c.loop-lit.lit-index c.lit-item.result
    c.loop-lit-test.true c.lit-item.is
    (codes_differ c.lit-item.result c.args.left_out (search rules)) unmarked clash
