use Rattle.std.proofs.Common.{arith, ◌≡◌, ◌-◌, ◌<◌, ◌^◌, get_or, sym, ◌∙◌}
use Rattle.std.proofs.Common.{ap, refl}
use Rattle.lrat_read.proofs.Scan.{digits_one, digits_step, is_digit_less}
use Rattle.lrat_read.proofs.PlainLaws.{inner_place, digits_below}
use Rattle.lrat_read.proofs.plain.plain_digits.Goals as goal

pub loop-digit-init : goal.loop-digit-init
loop-digit-init c =
    let first : c.from-first.result ≡ get_or c.args.line.now c.args.at 0 = c.from-first.ensures in
    let digit = is_digit_less c.from-first.result c.from-first.type_inv c.if-first-gt9.false in
    let one = digits_one c.args.line.now c.args.at (omega arith) (omega (arith, first, digit.0))
    (omega (arith, first, digit.1)) in
    record {
      from = omega arith;
      within = inner_place c.args.line.now c.args.at c.requires.within c.requires.feed
          (λ z. absurd (omega (arith, z, first, digit.0)));
      short = omega arith;
      digits = one.0;
      value = digit.2 ∙ ap (λ n. n - 48) first ∙ sym one.1;
      zero = λ z. omega (arith, z, digit.0, digit.2, first);
      lead = λ _. refl;
    }

pub overflow_mul-value : goal.overflow_mul-value
overflow_mul-value c =
    let inv = c.loop-digit.invariant in
    let room : c.loop-digit.value < 10 ^ 8 = digits_below c.args.line.now c.args.at
    c.loop-digit.end c.loop-digit.value inv.short inv.digits inv.value in
    omega arith

pub overflow_add-value : goal.overflow_add-value
overflow_add-value c =
    let inv = c.loop-digit.invariant in
    let room : c.loop-digit.value < 10 ^ 8 = digits_below c.args.line.now c.args.at
    c.loop-digit.end c.loop-digit.value inv.short inv.digits inv.value in
    omega arith

pub loop-digit-preserved : goal.loop-digit-preserved
loop-digit-preserved c =
    let line = c.args.line.now in
    let at = c.args.at in
    let end = c.loop-digit.end in
    let inv = c.loop-digit.invariant in
    let byte : c.from-digit.result ≡ get_or line end 0 = c.from-digit.ensures in
    let digit = is_digit_less c.from-digit.result c.from-digit.type_inv c.if-digit-gt9.false in
    let step = digits_step line at end (omega (arith, inv.from)) inv.within
    (omega (arith, byte, digit.0)) (omega (arith, byte, digit.1)) inv.digits in
    let less = digit.2 ∙ ap (λ m. m - 48) byte in
    let first : c.from-first.result ≡ get_or line at 0 = c.from-first.ensures in
    record {
      from = omega (arith, inv.from);
      within = inner_place line end inv.within c.requires.feed
          (λ z. absurd (omega (arith, z, byte, digit.0)));
      short = omega (arith, inv.short);
      digits = step.0;
      value = omega (arith, inv.value, less, step.1);
      zero = λ z. let none : c.loop-digit.value ≡ 0 = omega (arith, z) in inv.zero none;
      lead = λ z. absurd (omega (arith, z, first));
    }

pub returns : goal.returns
returns c =
    let inv = c.loop-digit.invariant in
    record {
      nonempty = inv.from;
      within = inv.within;
      short = inv.short;
      digits = inv.digits;
      value = inv.value;
      lead = inv.lead;
      zero = inv.zero;
      small = digits_below c.args.line.now c.args.at c.loop-digit.end c.loop-digit.value inv.short
          inv.digits inv.value;
    }
