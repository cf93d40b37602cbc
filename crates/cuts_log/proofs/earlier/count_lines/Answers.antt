-- An addition that is live and empty is one of those that the lines add.
use Rattle.std.proofs.Common.{◌≡◌, suc, ◌+◌, ◌-◌, ◌<◌, Option, Some, None, ap, ◌∙◌, arith}
use Rattle.std.proofs.Common.{rules}
use Rattle.std.specs.Prelude.{IfNone}
use Rattle.lrat_live.specs.Listed.{listed_at}
use Rattle.cuts_log.specs.Starts.{added_at}
use Rattle.cuts_log.proofs.EarlierLines.{lines_refuted}
use Rattle.cuts_log.proofs.earlier.count_lines.Goals as goal

none_with : {T : Type 0} (o : Option T) (P : Type 0) → P → IfNone o P
none_with None P h = h
none_with (Some x) P h = tt

pub returns-in_err-lines-clause-refuted : goal.returns-in_err-lines-clause-refuted
returns-in_err-lines-clause-refuted c =
    let s = c.args.machine.now.state in
    let base = c.args.base in
    let n = c.loop-number.number in
    let less : n < s.last - base = search (rules, arith) in
    let place : base + suc n ≡ base + n + 1 = omega arith in
    none_with c.from_residual.result _
    (lines_refuted (added_at base s) (s.last - base) n less
    (ap (listed_at s.live) place ∙ c.in_err-lines.ensures.refuted))
