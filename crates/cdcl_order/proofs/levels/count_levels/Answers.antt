use Rattle.std.proofs.Common.{◌≡◌, ℕ, ◌+◌, ◌-◌, ◌<◌, ◌≤◌, ◌^◌, ◌∷◌, length, take, get_or, set}
use Rattle.std.proofs.Common.{sym, ◌∙◌, ap, subst, arith}
use Rattle.std.specs.Prelude.{All, min, unwrap_or}
use Rattle.std.proofs.lemmas.List.Elements.{All-set}
use Rattle.propagate.specs.Trail.{level_in, level_of}
use Rattle.cdcl_order.specs.Levels.{levels_of, with_level}
use Rattle.cdcl_order.proofs.Stamps.{AreStamped, stamped_more, met_first, met_before, levels_more}
use Rattle.cdcl_order.proofs.Stamps.{level_low}
use Rattle.cdcl_order.proofs.levels.count_levels.Goals as goal
use Rattle.cdcl_order.proofs.levels.count_levels.Goals.{After-unwrap_or-level}
use Rattle.cdcl_order.proofs.levels.count_levels.Goals.{then-level-gt0+then-stamps-level}
use Rattle.cdcl_order.proofs.levels.count_levels.Goals.{else-level-gt0}
use Rattle.cdcl_order.proofs.levels.count_levels.Goals.{
  else-level-gt0-via-then-level-gt0+else-stamps-level,
}
use Rattle.cdcl_order.proofs.levels.count_levels.Goals.{else-level-gt0-via-else-level-gt0}

-- the level that was looked up
level_is : (c : After-unwrap_or-level)
    → level_of c.args.engine.now.trail c.lit-item.result ≡ c.unwrap_or-level.result
level_is c =
    let T = c.args.engine.now.trail in
    ap (λ o. unwrap_or o 0) (ap (level_in T) (sym c.variable.ensures.variable)
    ∙ sym c.level.ensures) ∙ sym c.unwrap_or-level.ensures

-- it has a stamp
inside : (c : After-unwrap_or-level) → c.unwrap_or-level.result < length c.loop-lit.stamps
inside c =
    let low = level_low c.args.engine.now.trail c.lit-item.result in
    let is = level_is c in
    let room = c.requires.room in
    let many = c.assigned.ensures.len in
    let within = c.assigned.ensures.within in
    let long = c.loop-lit.invariant.long in
    omega arith

-- a count that stays at the greatest number
one_more_counted : (d n r : ℕ) → r ≡ min (d + 1) (2 ^ 32 - 1) → d ≡ min n (2 ^ 32 - 1)
    → r ≡ min (n + 1) (2 ^ 32 - 1)
one_more_counted d n r is counted = grind arith

pub bounds-stamps-level : goal.bounds-stamps-level
bounds-stamps-level c = inside (goal.at.bounds-stamps-level c).After-unwrap_or-level

pub bounds-stamps-level-then-stamps-level : goal.bounds-stamps-level-then-stamps-level
bounds-stamps-level-then-stamps-level c =
    inside (goal.at.bounds-stamps-level-then-stamps-level c).After-unwrap_or-level

pub loop-lit-preserved : goal.loop-lit-preserved
loop-lit-preserved c =
    let T = c.args.engine.now.trail in
    let k = c.lit-item.result in
    let ls = c.args.lits.now in
    let q = c.loop-lit.lit-index in
    let l = c.loop-lit in
    let met = levels_of T (take q ls) in
    let level = c.unwrap_or-level.result in
    let lt = inside (goal.at.loop-lit-preserved c).After-unwrap_or-level in
    let same : level_of T (get_or ls q k) ≡ level =
    ap (level_of T) (sym c.lit-item.is)
    ∙ level_is (goal.at.loop-lit-preserved c).After-unwrap_or-level in
    let now = levels_of T (take (q + 1) ls) in
    let more : now ≡ with_level met level =
    levels_more T ls q k c.loop-lit-test.true ∙ ap (with_level met) same in
    elim c.if-level-gt0.branch [
      | then-level-gt0+then-stamps-level w ↦
          let first : now ≡ level ∷ met = more
          ∙ met_first l.stamps c.args.count met level l.invariant.stamped lt w.if-level-gt0.true
          w.if-stamps-level.true in
          let stamped = stamped_more l.stamps c.args.count met level l.invariant.stamped lt in
          let long : length now ≡ length met + 1 = ap length first ∙ omega arith in
          record {
            long = c.if-level-gt0.auto.stamps ∙ l.invariant.long;
            past = subst (All (λ n. n ≤ c.args.count)) (sym w.stamps-is)
                (All-set (λ n. n ≤ c.args.count) l.stamps level c.args.count (omega arith)
                l.invariant.past);
            stamped =
                subst (λ ss. AreStamped ss c.args.count now) (sym w.stamps-is)
                (subst (AreStamped (set l.stamps level c.args.count) c.args.count) (sym first)
                stamped);
            counted = rw long (w.lbd-is ∙ one_more_counted l.lbd (length met)
                w.saturating_add-lbd.result w.saturating_add-lbd.ensures
                l.invariant.counted);
          }
      | else-level-gt0 w ↦
          let old : 0 < level → get_or l.stamps level 0 ≡ c.args.count = λ above.
          elim w.else-level-gt0.branch [
            | else-level-gt0-via-then-level-gt0+else-stamps-level v ↦ v.if-stamps-level.false
            | else-level-gt0-via-else-level-gt0 v ↦ absurd (omega (arith, v.if-level-gt0.false))
          ] in
          let none : now ≡ met = more
          ∙ met_before l.stamps c.args.count met level l.invariant.stamped lt old in
          record {
            long = c.if-level-gt0.auto.stamps ∙ l.invariant.long;
            past = subst (All (λ n. n ≤ c.args.count)) (sym w.stamps-is) l.invariant.past;
            stamped =
                subst (λ ss. AreStamped ss c.args.count now) (sym w.stamps-is)
                (subst (AreStamped l.stamps c.args.count) (sym none) l.invariant.stamped);
            counted = w.lbd-is ∙ l.invariant.counted
                ∙ ap (λ m. min (length m) (2 ^ 32 - 1)) (sym none);
          }
    ]
