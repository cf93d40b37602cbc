use Rattle.std.proofs.Common.{◌≡◌, ◌+◌, ◌≤◌, ◌^◌, ◌++◌, length, map, filter, drop}
use Rattle.adder.specs.Network.{relaxing_of, relaxed_from, relaxed_as, relaxed_variables}
use Rattle.adder.specs.Parts.{relaxation_of}
use Rattle.adder.proofs.relaxations.Relaxations.of.Given as goal

-- what was built, with what the soft clauses that are left give, is the whole
abbrev pub invariant-loop-soft : goal.invariant-loop-soft
invariant-loop-soft l =
    let left = relaxed_from (relaxing_of l.fn.profile) l.fresh (drop l.soft-index l.soft_clauses) in
    record {
      small : l.fresh ≤ 2 ^ 22 + 1 + l.soft-index;
      each : l.each.items ++ map relaxation_of left ≡ map relaxation_of
          (relaxed_as l.fn.profile l.fn.instance);
      fresh : l.fresh + length (filter (λ e. e.is_fresh) left) ≡ relaxed_variables l.fn.profile
          l.fn.instance + 1;
    }
