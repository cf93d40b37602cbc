-- A live head has a clause, and no other place has one.
use Rattle.std.proofs.Common.{sym, ◌∙◌, refl, arith}
use Rattle.std.proofs.lemmas.Bool.{true≢false}
use Rattle.clauses.proofs.Stored.{live_by_flag, live_within, none_live}
use Rattle.clauses.proofs.store.Store.live_at.Goals as goal
use Rattle.clauses.proofs.store.Store.live_at.Goals.{
  else-place-lt-MOST_PLACES-via-then-place-lt-MOST_PLACES+else-is_live,
}
use Rattle.clauses.proofs.store.Store.live_at.Goals.{
  else-place-lt-MOST_PLACES-via-else-place-lt-MOST_PLACES,
}

pub returns-then-is_live-clause-live : goal.returns-then-is_live-clause-live
returns-then-is_live-clause-live c =
    let by_flag = live_by_flag c.self.inside.literals.items c.self.inside.heads c.args.place in
    (refl, rw (← c.self.view_is) (by_flag.0 (c.is_live.ensures.0 c.if-is_live.true)))

pub returns-else-place-lt-MOST_PLACES-clause-none :
    goal.returns-else-place-lt-MOST_PLACES-clause-none
returns-else-place-lt-MOST_PLACES-clause-none c h =
    let by_flag = live_by_flag c.self.inside.literals.items c.self.inside.heads c.args.place in
    rw (← c.self.view_is) (none_live _ c.args.place (λ live.
    elim c.else-place-lt-MOST_PLACES.branch [
      | else-place-lt-MOST_PLACES-via-then-place-lt-MOST_PLACES+else-is_live w ↦
          true≢false (sym (w.is_live.ensures.1 (by_flag.1 live)) ∙ w.if-is_live.false)
      | else-place-lt-MOST_PLACES-via-else-place-lt-MOST_PLACES w ↦
          absurd (omega (
            arith,
            w.if-place-lt-MOST_PLACES.false,
            live_within c.self.inside.literals.items c.self.inside.heads c.args.place live,
            c.self.invariant.few_heads,
          ))
    ]))
