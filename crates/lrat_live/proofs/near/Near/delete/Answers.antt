use Rattle.std.proofs.Common.{◌≡◌, ◌++◌, None, refl, sym, rules}
use Rattle.lrat_live.specs.Near.{given_in, recent_in, IsPlace}
use Rattle.lrat_live.specs.Listed.{listed_at}
use Rattle.lrat_live.proofs.NearLaws.{found_at, left_given, left_recent, near_set}
use Rattle.lrat_live.proofs.LiveLaws.{none_first, none_second}
use Rattle.lrat_live.proofs.Clauses.{without_none}
use Rattle.lrat_live.proofs.near.Near.delete.Goals as goal
use Rattle.lrat_live.proofs.near.Near.delete.Goals.{In_default, In-Some}

nothing : (c : In_default) → let s = c.self.inside in
    listed_at (given_in s.lits.items s.spans.items s.given
    ++ recent_in s.lits.items s.spans.items s.given s.gap) c.args.id ≡ None
nothing c = (rw c.deref.ensures.value at c.in_default.ensures) c.self.inside.lits.items

at_place : (c : In-Some)
    → IsPlace c.self.inside.spans.items c.self.inside.given c.self.inside.gap c.args.id
    c.in-Some.place
at_place c = rw c.deref.ensures.value at c.in-Some.ensures

pub returns-in_default-clause-found : goal.returns-in_default-clause-found
returns-in_default-clause-found c =
    rw (← c.self.view_is, nothing (goal.at.returns-in_default-clause-found c).In_default)
    (search rules)

pub returns-in_default-clause-given : goal.returns-in_default-clause-given
returns-in_default-clause-given c =
    let s = c.self.inside in
    let none = nothing (goal.at.returns-in_default-clause-given c).In_default in
    rw (← c.self.view_is) (sym (without_none c.args.id
    (given_in s.lits.items s.spans.items s.given) (none_first
    (given_in s.lits.items s.spans.items s.given)
    (recent_in s.lits.items s.spans.items s.given s.gap) c.args.id none)))

pub returns-in_default-clause-recent : goal.returns-in_default-clause-recent
returns-in_default-clause-recent c =
    let s = c.self.inside in
    let none = nothing (goal.at.returns-in_default-clause-recent c).In_default in
    rw (← c.self.view_is) (sym (without_none c.args.id
    (recent_in s.lits.items s.spans.items s.given s.gap) (none_second
    (given_in s.lits.items s.spans.items s.given)
    (recent_in s.lits.items s.spans.items s.given s.gap) c.args.id none)))

pub invariant_of-self : goal.invariant_of-self
invariant_of-self c =
    let s = c.self.inside in
    near_set s.lits.items s.spans.items s.given s.given_lits s.gap c.in-Some.place _ refl
    c.self.invariant

pub returns-clause-found : goal.returns-clause-found
returns-clause-found c =
    let s = c.self.inside in
    rw (
      ← c.self.view_is,
      found_at s.lits.items s.spans.items s.given s.gap c.self.invariant.covers c.args.id
          c.in-Some.place (at_place (goal.at.returns-clause-found c).In-Some),
    ) (search rules)

pub returns-clause-given : goal.returns-clause-given
returns-clause-given c =
    let s = c.self.inside in
    rw (← c.self.view_is) (left_given s.lits.items s.spans.items s.given s.gap
    c.self.invariant.covers c.args.id c.in-Some.place
    (at_place (goal.at.returns-clause-given c).In-Some) _ refl)

pub returns-clause-recent : goal.returns-clause-recent
returns-clause-recent c =
    let s = c.self.inside in
    rw (← c.self.view_is) (left_recent s.lits.items s.spans.items s.given s.gap
    c.self.invariant.covers c.args.id c.in-Some.place
    (at_place (goal.at.returns-clause-recent c).In-Some) _ refl)
