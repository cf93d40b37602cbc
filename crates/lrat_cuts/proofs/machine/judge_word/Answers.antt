-- By the line that was read.
use Rattle.std.proofs.Common.{sym, ◌∙◌}
use Rattle.std.proofs.lemmas.Result.{IfOk-weaker}
use Rattle.lrat_cuts.proofs.Judging.{word_leads, word_trails}
use Rattle.lrat_cuts.proofs.machine.judge_word.Goals as goal

pub returns-then-has_ended-clause-judged : goal.returns-then-has_ended-clause-judged
returns-then-has_ended-clause-judged c =
    λ ts. word_trails c.args.cost c.args.base.now c.args.base.now c.args.form c.args.words.now
    c.requires.word ts (sym c.has_ended.ensures ∙ c.if-has_ended.true)

pub returns-clause-judged : goal.returns-clause-judged
returns-clause-judged c =
    IfOk-weaker c.judge_held.result _ _
    (λ fault h ts. word_leads c.args.cost c.args.base.now c.judge_held.new.base c.args.form
    c.args.words.now c.requires.word ts fault (sym c.has_ended.ensures ∙ c.if-has_ended.false) h)
    c.judge_held.ensures.judged
