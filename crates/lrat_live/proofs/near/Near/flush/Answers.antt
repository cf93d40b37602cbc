use Rattle.std.proofs.Common.{◌≡◌, ◌+◌, ◌++◌, ◌∙◌, length, take, drop}
use Rattle.std.proofs.Common.{subst, sym, arith, refl}
use Rattle.std.proofs.lemmas.List.{take_rest}
use Rattle.lrat_live.specs.Listed.{IsRising}
use Rattle.lrat_live.specs.Near.{NearParts}
use Rattle.lrat_live.proofs.SpanLaws.{spread_within, spread_take}
use Rattle.lrat_live.proofs.MovedLaws.{before_end, near_cut, given_cut}
use Rattle.lrat_live.proofs.near.Near.flush.Goals as goal
use Rattle.lrat_live.proofs.near.Near.flush.Goals.{After-truncate}

pub move_on-requires-clause-within : goal.move_on-requires-clause-within
move_on-requires-clause-within c =
    let s = c.self.inside in
    rw (c.deref.ensures.value, c.deref_mut.ensures.value)
    (spread_within s.given_lits _ (length s.lits.items)
    (spread_take s.given_lits (drop (s.given + 1) s.spans.items) (length s.lits.items) _
    c.self.invariant.recent))

pub move_on-requires-clause-rising : goal.move_on-requires-clause-rising
move_on-requires-clause-rising c =
    let s = c.self.inside in
    rw (
      c.deref.ensures.value,
      c.deref_mut.ensures.value,
      take_rest s.spans.items (s.given + 1),
    ) (subst (λ (m : NearParts). IsRising (c.args.far.now ++ m.recent)) (sym c.self.view_is)
    c.requires.rising)

spans_left : (c : After-truncate)
    → c.truncate.new.self.items ≡ take (c.self.inside.given + 1) c.self.inside.spans.items
spans_left c =
    let s = c.self.inside in
    c.truncate.ensures.items
    ∙ before_end s.spans.items c.deref_mut.result.now c.move_on.new.spans (s.given + 1)
    s.spans.len c.deref_mut.ensures.value c.self.invariant.covers
    (omega (arith, s.spans.ok.0)) c.in_ok-move_on.ensures.count (s.given + 1) refl

pub invariant_of-self-2 : goal.invariant_of-self-2
invariant_of-self-2 c =
    let s = c.self.inside in
    let at = (goal.at.invariant_of-self-2 c).After-truncate in
    rw (spans_left at, c.truncate-2.ensures.items)
    (near_cut s.lits.items s.spans.items s.given s.given_lits s.gap c.self.invariant
    c.saturating_sub-self-inside.result
    (omega (
      arith,
      c.saturating_sub-self-inside.ensures,
      c.ranges.id.fits,
      c.self.invariant.first_id,
    )))

pub returns-clause-given : goal.returns-clause-given
returns-clause-given c =
    let s = c.self.inside in
    let at = (goal.at.returns-clause-given c).After-truncate in
    rw (← c.self.view_is, spans_left at, c.truncate-2.ensures.items)
    (given_cut s.lits.items s.spans.items s.given s.given_lits s.gap c.self.invariant)
