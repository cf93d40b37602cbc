use Rattle.std.proofs.Common.{◌≡◌, ◌∙◌, sym, get_or}
use Rattle.std.proofs.lemmas.List.{get_or_default}
use Rattle.lrat_live.specs.Near.{nowhere, IsPlace}
use Rattle.lrat_live.proofs.NearLaws.{found_at, near_within}
use Rattle.lrat_live.proofs.near.Near.find.Goals as goal
use Rattle.lrat_live.proofs.near.Near.find.Goals.{After-index, In_ok-place}

at_place : (c : In_ok-place)
    → IsPlace c.self.inside.spans.items c.self.inside.given c.self.inside.gap c.args.id
    c.in_ok-place.place
at_place c = rw c.deref.ensures.value at c.in_ok-place.ensures

is_span : (c : After-index)
    → c.index.result.now ≡ get_or c.self.inside.spans.items c.in_ok-place.place nowhere
is_span c =
    c.index.ensures ∙ get_or_default c.self.inside.spans.items c.in_ok-place.place
    c.index.result.now nowhere (at_place (goal.at.After-index c).In_ok-place).within

pub literals_at-requires : goal.literals_at-requires
literals_at-requires c =
    let s = c.self.inside in
    let at = (goal.at.literals_at-requires c).After-index in
    let p = at_place (goal.at.After-index at).In_ok-place in
    rw (c.deref-2.ensures.value, is_span at)
    (near_within s.lits.items s.spans.items s.given s.given_lits s.gap c.in_ok-place.place
    c.self.invariant p.within p.live)

pub returns : goal.returns
returns c =
    let s = c.self.inside in
    let at = (goal.at.returns c).After-index in
    rw (← c.self.view_is, c.literals_at.ensures, c.deref-2.ensures.value, is_span at)
    (sym (found_at s.lits.items s.spans.items s.given s.gap c.self.invariant.covers c.args.id
    c.in_ok-place.place (at_place (goal.at.After-index at).In_ok-place)))
