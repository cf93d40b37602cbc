-- The line lies behind those before.
use Rattle.std.proofs.Common.{◌≡◌, ◌+◌, ◌<◌, ◌^◌, length, refl, arith, rules}
use Rattle.std.proofs.lemmas.Result.{IfOk-from_err}
use Rattle.lrat_log.specs.Log.{LogLine}
use Rattle.lrat_log.proofs.Flat.{lines_in-push, IsFlat-push}
use Rattle.lrat_log.proofs.log.LogSink.append.Goals as goal
use Rattle.lrat_log.proofs.log.LogSink.append.Goals.{In-Ok}

abbrev line : In-Ok → LogLine
line c = record { kind = c.args.kind; clause = c.args.lits.now; hints = c.args.hints.now }

-- where the literals and the hints end
ends : (c : In-Ok)
    → (c.len-2.result + length c.args.lits.now
    ≡ length c.self.inside.lits.items + length c.args.lits.now)
    × (c.saturating_add.result ≡ length c.self.inside.hints + length c.args.hints.now)
ends c =
    let few = c.in-Ok.ensures.few in (search rules, omega (arith, c.saturating_add.ensures))

pub invariant_of-self-in-Ok : goal.invariant_of-self-in-Ok
invariant_of-self-in-Ok c =
    let heads : c.len.result ≡ length c.self.inside.heads = search rules in
    let short : length c.self.inside.heads + 1 < 2 ^ 61 = omega arith in
    let at = (goal.at.invariant_of-self-in-Ok c).In-Ok in
    let e = ends at in
    rw (
      c.in-Ok.ensures.ok,
      c.in_ok-extend_from_slice-in-Ok.ensures.items,
      c.in_ok-reserve.ensures.items,
      c.in_ok-extend.ensures.ok,
    )
    (IsFlat-push c.self.inside.heads c.self.inside.lits.items c.self.inside.hints _ (line at)
    c.self.invariant refl e.0 e.1 short c.requires.line)

pub returns-in_ok-extend_from_slice-in-Ok-clause-ok
    : goal.returns-in_ok-extend_from_slice-in-Ok-clause-ok
returns-in_ok-extend_from_slice-in-Ok-clause-ok c =
    let at = (goal.at.returns-in_ok-extend_from_slice-in-Ok-clause-ok c).In-Ok in
    let e = ends at in
    rw (
      c.in-Ok.ensures.ok,
      c.in_ok-extend_from_slice-in-Ok.ensures.items,
      c.in_ok-reserve.ensures.items,
      c.in_ok-extend.ensures.ok,
      ← c.self.view_is,
    )
    (lines_in-push c.self.inside.heads c.self.inside.lits.items c.self.inside.hints _ (line at)
    c.self.invariant refl e.0 e.1)

pub returns-in_err-reserve-clause-ok : goal.returns-in_err-reserve-clause-ok
returns-in_err-reserve-clause-ok c =
    IfOk-from_err c.from_residual.result _ c.from_residual.ensures.0

pub returns-in_err-extend-clause-ok : goal.returns-in_err-extend-clause-ok
returns-in_err-extend-clause-ok c =
    IfOk-from_err c.from_residual-in_err-extend.result _ c.from_residual-in_err-extend.ensures.0

pub returns-in_err-extend_from_slice-in-Ok-clause-ok :
    goal.returns-in_err-extend_from_slice-in-Ok-clause-ok
returns-in_err-extend_from_slice-in-Ok-clause-ok c =
    IfOk-from_err c.from_residual-in_err-extend_from_slice-in-Ok.result _
    c.from_residual-in_err-extend_from_slice-in-Ok.ensures.0
