use Rattle.std.proofs.Common.{◌≡◌, ◌-◌, ◌≤◌, ◌^◌, length, take}
use Rattle.std.specs.Prelude.{All, min}
use Rattle.cdcl_order.specs.Levels.{levels_of}
use Rattle.cdcl_order.proofs.Stamps.{AreStamped}
use Rattle.cdcl_order.proofs.levels.count_levels.Given as goal

abbrev pub invariant-loop-lit : goal.invariant-loop-lit
invariant-loop-lit l =
    let met = levels_of l.engine.trail (take l.lit-index l.lits) in
    record {
      long : length l.stamps ≡ length l.fn.stamps;
      past : All (λ n. n ≤ l.count) l.stamps;
      stamped : AreStamped l.stamps l.count met;
      counted : l.lbd ≡ min (length met) (2 ^ 32 - 1);
    }
