use Rattle.std.proofs.Common.{◌≡◌, true, false, ◌+◌, arith, subst, sym, take, ◌∙◌, ap, ◌++◌, ◌∷◌}
use Rattle.std.proofs.Common.{[]}
use Rattle.std.proofs.lemmas.List.{take_all, take_more}
use Rattle.cnf.specs.Clause.{contains_literal}
use Rattle.propagate.proofs.Laws.{contains_at, within_variable}
use Rattle.cdcl_search.specs.Levelling.{Ranks}
use Rattle.cdcl_search.proofs.Ranked.{ranks_above, ranks_between, ranks_below, ranks_place, once_at}
use Rattle.cdcl_search.proofs.levelling.level_for.Goals as goal
use Rattle.cdcl_search.proofs.levelling.level_for.Goals.{then-level-highest}
use Rattle.cdcl_search.proofs.levelling.level_for.Goals.{else-level-highest+then-level-second}
use Rattle.cdcl_search.proofs.levelling.level_for.Goals.{else-level-highest+else-level-second}

pub level_false-level-requires : goal.level_false-level-requires
level_false-level-requires c =
    let x = c.lit-item.result in
    let lits = c.args.lits.now in
    let at = contains_at lits c.loop-lit.lit-index x c.loop-lit-test.true in
    (within_variable c.args.engine.now.variables lits x c.requires.within
    (subst (λ y. contains_literal y lits ≡ true) (sym c.lit-item.is) at)).1

pub loop-lit-preserved : goal.loop-lit-preserved
loop-lit-preserved c =
    let T = c.args.engine.now.trail in
    let lits = c.args.lits.now in
    let i = c.loop-lit.lit-index in
    let x = c.lit-item.result in
    let lt = c.loop-lit-test.true in
    let before = take i lits in
    let level = c.level_false-level.result in
    let highest = c.loop-lit.highest in
    let second = c.loop-lit.second in
    let new =
    subst (λ y. contains_literal y (take i lits) ≡ false) (sym c.lit-item.is)
    (once_at lits i x c.requires.once lt) in
    let more : take (i + 1) lits ≡ take i lits ++ x ∷ [] =
    take_more lits i x lt ∙ ap (λ y. take i lits ++ y ∷ []) (sym c.lit-item.is) in
    let low = c.level_false-level.ensures.low in
    let opened = c.level_false-level.ensures.open_below in
    let ranks = c.loop-lit.invariant in
    rw more (elim c.if-level-highest.branch [
      | then-level-highest w ↦
          rw (w.highest-is, w.second-is) (ranks_above T before x level highest second ranks new low
          opened (omega (arith, w.if-level-highest)))
      | else-level-highest+then-level-second w ↦
          rw (w.highest-is, w.second-is) (ranks_between T before x level highest second ranks new
          opened (omega (arith, w.if-level-highest)))
      | else-level-highest+else-level-second w ↦
          rw (w.highest-is, w.second-is) (ranks_below T before x highest second ranks)
    ])

pub returns-clause-placeable : goal.returns-clause-placeable
returns-clause-placeable c =
    let T = c.args.engine.now.trail in
    let lits = c.args.lits.now in
    let whole = take_all c.loop-lit.lit-index lits (omega (arith, c.loop-lit-test.false)) in
    ranks_place T lits c.loop-lit.highest c.loop-lit.second
    (subst (λ y. Ranks T y c.loop-lit.highest c.loop-lit.second) whole c.loop-lit.invariant)
