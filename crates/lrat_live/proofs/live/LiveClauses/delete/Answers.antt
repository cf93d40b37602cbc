use Rattle.std.proofs.Common.{◌≡◌, ◌++◌, ◌∙◌, Some, None, true, ap}
use Rattle.std.proofs.Common.{refl, sym, subst}
use Rattle.std.specs.Prelude.{IsSome}
use Rattle.std.proofs.lemmas.Bool.{false≢true}
use Rattle.lrat_live.specs.Counts.{AreCounts}
use Rattle.lrat_live.specs.Listed.{listed_at, without_id, IsRising}
use Rattle.lrat_live.specs.Pages.{count_in}
use Rattle.lrat_live.specs.Near.{all_of}
use Rattle.lrat_live.proofs.Clauses.{without_none}
use Rattle.lrat_live.proofs.Listed.{rises_from, rising_without, some_of}
use Rattle.lrat_live.proofs.LiveLaws.{near_found, far_none, far_found, near_left, all_far_left}
use Rattle.lrat_live.proofs.LiveLaws.{none_of}
use Rattle.lrat_live.proofs.live.LiveClauses.delete.Goals as goal
use Rattle.lrat_live.proofs.live.LiveClauses.delete.Goals.{Then-delete}

near_gone : (c : Then-delete)
    → all_of c.delete.new.self c.self.inside.far ≡ without_id c.args.id
    (all_of c.self.inside.near c.self.inside.far)
near_gone c =
    let s = c.self.inside in
    let n = s.near in
    let d = some_of (listed_at (n.given ++ n.recent) c.args.id)
    (c.if-delete.ensures.found.0 refl) in
    let none : listed_at s.far c.args.id ≡ None =
    far_none n.given s.far n.recent c.args.id d.0 (rises_from (all_of n s.far) c.self.invariant.0)
    d.1 in
    ap (λ x. x ++ (s.far ++ c.delete.new.self.recent)) c.if-delete.ensures.given
    ∙ ap (λ x. without_id c.args.id n.given ++ (s.far ++ x)) c.if-delete.ensures.recent
    ∙ near_left c.args.id n.given s.far n.recent (without_none c.args.id s.far none)

pub returns-then-delete-clause-found : goal.returns-then-delete-clause-found
returns-then-delete-clause-found c =
    let s = c.self.inside in
    let n = s.near in
    let d = some_of (listed_at (n.given ++ n.recent) c.args.id)
    (c.if-delete.ensures.found.0 refl) in
    let here : listed_at (all_of n s.far) c.args.id ≡ Some d.0 =
    near_found n.given s.far n.recent c.args.id d.0
    (rises_from (all_of n s.far) c.self.invariant.0) d.1 in
    rw (← c.self.view_is) ((λ _. subst (λ o. IsSome o) (sym here) refl), (λ _. refl))

pub returns-then-delete-clause-left : goal.returns-then-delete-clause-left
returns-then-delete-clause-left c =
    rw (← c.self.view_is) (near_gone (goal.at.returns-then-delete-clause-left c).Then-delete)

pub invariant_of-self : goal.invariant_of-self
invariant_of-self c =
    let s = c.self.inside in
    let es = all_of s.near s.far in
    subst (λ xs. IsRising xs
    × (s.is_counted ≡ true → AreCounts (count_in c.count_out.new.counts) xs))
    (sym (near_gone (goal.at.invariant_of-self c).Then-delete)) (
      rising_without c.args.id es c.self.invariant.0,
      λ yes. c.count_out.ensures c.self.invariant.1 yes,
    )

pub returns-clause-found : goal.returns-clause-found
returns-clause-found c =
    let s = c.self.inside in
    let n = s.near in
    let none : listed_at (n.given ++ n.recent) c.args.id ≡ None =
    none_of (listed_at (n.given ++ n.recent) c.args.id)
    (λ h. false≢true (c.if-delete.ensures.found.1 h)) in
    rw (← c.self.view_is, far_found n.given s.far n.recent c.args.id none) c.delete-2.ensures.found

pub returns-clause-left : goal.returns-clause-left
returns-clause-left c =
    let s = c.self.inside in
    rw (← c.self.view_is) (all_far_left s.near c.delete.new.self s.far c.delete-2.new.self
    c.args.id c.if-delete.ensures.given c.delete-2.ensures.left c.if-delete.ensures.recent)

pub invariant_of-self-2 : goal.invariant_of-self-2
invariant_of-self-2 c =
    let s = c.self.inside in
    let es = all_of s.near s.far in
    subst (λ xs. IsRising xs
    × (s.is_counted ≡ true → AreCounts (count_in c.count_out.new.counts) xs))
    (sym (all_far_left c.self.inside.near c.delete.new.self c.self.inside.far c.delete-2.new.self
    c.args.id c.if-delete.ensures.given c.delete-2.ensures.left c.if-delete.ensures.recent)) (
      rising_without c.args.id es c.self.invariant.0,
      λ yes. c.count_out.ensures c.self.invariant.1 yes,
    )
