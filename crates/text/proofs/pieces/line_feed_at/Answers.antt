use Rattle.std.proofs.Common.{arith}
use Rattle.std.proofs.lemmas.Bool.{eqb-true, false_from_ne_true}
use Rattle.text.proofs.Feeds.{first_feed}
use Rattle.text.proofs.pieces.line_feed_at.Goals as goal

pub returns-in-Some : goal.returns-in-Some
returns-in-Some c =
    let found = c.in-Some.ensures in
    first_feed c.args.text.now c.in-Some.end found.0.high (eqb-true _ 10 found.1)
    (λ k l. false_from_ne_true _ (found.0.before k (omega arith) l))
