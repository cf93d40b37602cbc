use Rattle.std.proofs.Common.{ℕ, [], refl}
use Rattle.std.specs.Prelude.{Ok}
use Rattle.std.proofs.lemmas.Result.{IfOk-weaker}
use Rattle.lrat_machine.specs.declared.verdicts.Verdict.TheVariants.{Yes}
use Rattle.lrat_check.specs.Left.{verdict_left}
use Rattle.lrat_check.proofs.Judging.{reported_verdict, reported_sound}
use Rattle.lrat_check.proofs.LeftLaws.{shows_more}
use Rattle.lrat_check.proofs.checking.read_left.Goals as goal

pub returns-in-Read-clause-verdict : goal.returns-in-Read-clause-verdict
returns-in-Read-clause-verdict c =
    let k = rw c.in-Read.is at c.in_ok-texts.ensures in
    IfOk-weaker c.read_claim-left.result _ _
    (λ left h proof. reported_verdict c.args.profile c.args.text.now c.args.answer.now proof
    c.in-Read.instance k.0 c.in-Read.report k.1 {E = ℕ} (Ok (verdict_left left proof)) (h proof))
    c.read_claim-left.ensures.verdict

pub returns-in-Read-clause-sound : goal.returns-in-Read-clause-sound
returns-in-Read-clause-sound c =
    let k = rw c.in-Read.is at c.in_ok-texts.ensures in
    IfOk-weaker c.read_claim-left.result _ _
    (λ left h. shows_more left _ _
    (λ t. reported_sound c.args.profile c.args.text.now c.args.answer.now [] c.in-Read.instance
    k.0 c.in-Read.report k.1 {E = ℕ} (Ok Yes) (λ _. t) refl) h)
    c.read_claim-left.ensures.sound
