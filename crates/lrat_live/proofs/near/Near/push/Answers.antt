use Rattle.std.proofs.Common.{◌≡◌, ℕ, ◌+◌, ◌<◌, ◌≤◌, ◌∷◌, [], ◌++◌, ◌∙◌, List, length, ap, arith}
use Rattle.std.proofs.Common.{inl, inr, subst, sym}
use Rattle.std.specs.Prelude.{All, Result, Ok, Err, OnErr}
use Rattle.cnf.specs.Literal.{Literal}
use Rattle.lrat_live.specs.Near.{NearParts, IsNear, padded, recent_in}
use Rattle.lrat_live.specs.declared.spans.TheConstants.{MOST_KEPT}
use Rattle.lrat_live.proofs.PushLaws.{near_padded, given_padded, recent_padded, near_last}
use Rattle.lrat_live.proofs.PushLaws.{given_last, recent_last, length-padded}
use Rattle.lrat_live.proofs.near.Near.push.Goals as goal
use Rattle.lrat_live.proofs.near.Near.push.Goals.{In-Some}

on_err : {T E P : Type 0} (r : Result T E) → P → OnErr r P
on_err (Ok x) p = tt
on_err (Err e) p = p

at_place : (c : In-Some) → c.in-Some.place + c.self.inside.gap ≡ c.args.id
at_place c = omega (arith, c.in-Some.ensures.place)

near_more : (c : In-Some) → let s = c.self.inside in
    IsNear s.lits.items (padded c.in-Some.place s.spans.items) s.given s.given_lits s.gap
near_more c =
    let s = c.self.inside in
    near_padded s.lits.items s.spans.items s.given s.given_lits s.gap c.self.invariant
    c.in-Some.place c.args.id c.in-Some.ensures.head (at_place c) c.ranges.id.fits

recent_same : (c : In-Some) → let s = c.self.inside in
    recent_in s.lits.items (padded c.in-Some.place s.spans.items) s.given s.gap
    ≡ recent_in s.lits.items s.spans.items s.given s.gap
recent_same c =
    let s = c.self.inside in
    recent_padded s.lits.items s.spans.items s.given s.given_lits s.gap c.self.invariant
    c.in-Some.place c.args.id c.in-Some.ensures.head (at_place c)
    (subst (λ (m : NearParts). All (λ (e : ℕ × List Literal). e.0 < c.args.id) m.recent)
    (sym c.self.view_is) c.requires.rising)

at_end : (c : In-Some)
    → length (padded c.in-Some.place c.self.inside.spans.items) + c.self.inside.gap ≡ c.args.id
at_end c =
    omega (arith, at_place c, length-padded c.in-Some.place c.self.inside.spans.items)

few : (c : In-Some) → length c.self.inside.lits.items + length c.args.lits.now ≤ MOST_KEPT
few c =
    omega (
      arith,
      c.if-lits-len.false,
      c.len.ensures,
      c.self.inside.lits.ok.0,
      c.self.invariant.few,
    )

pub invariant_of-self : goal.invariant_of-self
invariant_of-self c =
    let s = c.self.inside in
    let at = (goal.at.invariant_of-self c).In-Some in
    rw c.in_err-extend.ensures.lits_stay (elim c.in_err-extend.ensures.err [
      | inl e ↦ rw e c.self.invariant
      | inr e ↦ rw e (near_more at)
    ])

pub returns-in_err-extend-clause-err : goal.returns-in_err-extend-clause-err
returns-in_err-extend-clause-err c =
    let s = c.self.inside in
    let at = (goal.at.returns-in_err-extend-clause-err c).In-Some in
    let spans : recent_in s.lits.items c.extend.new.spans.items s.given s.gap
    ≡ recent_in s.lits.items s.spans.items s.given s.gap =
    elim c.in_err-extend.ensures.err [
      | inl e ↦ ap (λ ss. recent_in s.lits.items ss s.given s.gap) e
      | inr e ↦ ap (λ ss. recent_in s.lits.items ss s.given s.gap) e ∙ recent_same at
    ] in
    on_err c.from_residual.result
    (ap (λ ls. recent_in ls c.extend.new.spans.items s.given s.gap)
    c.in_err-extend.ensures.lits_stay ∙ spans ∙ ap (λ (m : NearParts). m.recent) c.self.view_is)

pub invariant_of-self-2 : goal.invariant_of-self-2
invariant_of-self-2 c =
    let s = c.self.inside in
    let at = (goal.at.invariant_of-self-2 c).In-Some in
    rw (c.in_ok-extend.ensures.lits, c.in_ok-extend.ensures.ok)
    (near_last s.lits.items (padded c.in-Some.place s.spans.items) s.given s.given_lits s.gap
    (near_more at) c.args.lits.now c.args.id (at_end at) (few at) c.ranges.id.fits)

pub returns-clause-given : goal.returns-clause-given
returns-clause-given c =
    let s = c.self.inside in
    let at = (goal.at.returns-clause-given c).In-Some in
    rw (← c.self.view_is, c.in_ok-extend.ensures.lits, c.in_ok-extend.ensures.ok)
    (given_last s.lits.items (padded c.in-Some.place s.spans.items) s.given s.given_lits s.gap
    (near_more at) c.args.lits.now c.args.id (at_end at) (few at)
    ∙ given_padded s.lits.items s.spans.items s.given s.given_lits s.gap c.self.invariant
    c.in-Some.place c.args.id c.in-Some.ensures.head (at_place at))

pub returns-clause-recent : goal.returns-clause-recent
returns-clause-recent c =
    let s = c.self.inside in
    let at = (goal.at.returns-clause-recent c).In-Some in
    rw (← c.self.view_is, c.in_ok-extend.ensures.lits, c.in_ok-extend.ensures.ok)
    (recent_last s.lits.items (padded c.in-Some.place s.spans.items) s.given s.given_lits s.gap
    (near_more at) c.args.lits.now c.args.id (at_end at) (few at)
    ∙ ap (λ es. es ++ (c.args.id, c.args.lits.now) ∷ []) (recent_same at))
