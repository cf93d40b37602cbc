use Rattle.std.proofs.Common.{arith, ◌≡◌, ◌+◌, sym, subst}
use Rattle.lrat_read.specs.Plain.{IsPlainDigits}
use Rattle.lrat_read.proofs.PlainLaws.{plain_undashed}
use Rattle.lrat_read.proofs.plain.plain_hint.Goals as goal

pub returns-in-Some : goal.returns-in-Some
returns-in-Some c =
    let same : c.args.at ≡ c.args.at + 0 = omega arith in
    record {
      dash = sym (plain_undashed c.args.line.now c.args.at c.in-Some.digits c.in-Some.ensures);
      digits = subst (λ k. IsPlainDigits c.args.line.now k c.in-Some.digits) same c.in-Some.ensures;
    }
