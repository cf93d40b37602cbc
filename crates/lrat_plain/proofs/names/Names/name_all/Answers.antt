-- One clause more has its number.
use Rattle.std.proofs.Common.{◌∙◌, ap, arith, rules, ◌+◌, ◌<◌, ◌≡◌}
use Rattle.lrat_plain.specs.Names.{Names, named}
use Rattle.lrat_plain.proofs.Naming.{one_named}
use Rattle.lrat_plain.proofs.names.Names.name_all.Goals as goal

pub loop-preserved : goal.loop-preserved
loop-preserved c =
    let i = c.loop.invariant in
    let next : c.name.new.self ≡ named (c.loop.id + 1) c.loop.self = search rules in
    let more = ap (λ (n : Names). n.made) next in
    let lt : c.loop.counter < c.args.count = search rules in
    record {
      left = one_named c.loop.id c.args.count c.loop.counter c.loop.self c.name.new.self lt next
          ∙ i.left;
      id = omega (arith, i.id);
      small = omega (arith, i.small, more);
    }
