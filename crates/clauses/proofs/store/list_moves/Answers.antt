use Rattle.std.proofs.Common.{◌≡◌, ◌<◌, ◌∙◌, length, arith}
use Rattle.clauses.proofs.Reading.{flag_at}
use Rattle.clauses.proofs.Renaming.{listing_live, listing_dead}
use Rattle.clauses.proofs.store.list_moves.Goals as goal
use Rattle.clauses.proofs.store.list_moves.Goals.{then-is_live+in_ok-push, else-is_live}

pub loop-old-preserved : goal.loop-old-preserved
loop-old-preserved c =
    let h : c.loop-old.old < length c.args.heads.now = omega (arith, c.len-old-end.ensures) in
    let flag = flag_at _ _ _ h c.is_live.ensures in
    elim c.if-is_live.branch [
      | then-is_live+in_ok-push w ↦
          let new : w.len-new.result ≡ length c.loop-old.pairs.items =
          omega (arith, w.len-new.ensures, c.loop-old.pairs.ok.0) in
          rw (w.pairs-is, w.in_ok-push.ensures.items, new)
          (listing_live _ _ _ c.loop-old.invariant h (flag ∙ w.if-is_live.true))
      | else-is_live w ↦
          rw w.pairs-is (listing_dead _ _ _ c.loop-old.invariant h (flag ∙ w.if-is_live.false))
    ]
