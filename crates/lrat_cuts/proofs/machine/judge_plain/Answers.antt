-- The addition is what was read.
use Rattle.std.proofs.Common.{sym, subst}
use Rattle.std.proofs.lemmas.Result.{IfOk-weaker}
use Rattle.lrat_read.specs.Reader.{IsReadAs}
use Rattle.lrat_cuts.proofs.Judging.{addition_judged}
use Rattle.lrat_cuts.proofs.machine.judge_plain.Goals as goal

pub returns-in-Addition-false : goal.returns-in-Addition-false
returns-in-Addition-false c =
    IfOk-weaker c.add.result _ _
    (λ fault h ts cost none read. addition_judged c.args.base.now c.add.new.self c.args.line.now
    fault cost ts (sym c.in-Addition-false.ensures) none
    (subst (λ f. IsReadAs ts f c.args.line.now) c.in-Addition-false.is-0 read) h)
    c.add.ensures
