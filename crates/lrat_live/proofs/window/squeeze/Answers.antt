use Rattle.std.proofs.Common.{◌≡◌, ◌+◌, ◌<◌, ◌≤◌, ◌∙◌, true, false, length, get_or, take, refl}
use Rattle.std.proofs.Common.{sym, subst, arith, length-set, length-take, ap, drop}
use Rattle.std.proofs.lemmas.List.{take-take, take_all}
use Rattle.lrat_live.specs.Near.{is_live, AreSpread}
use Rattle.lrat_live.specs.declared.spans.LiveSpan.{LiveSpan}
use Rattle.lrat_live.proofs.SpanLaws.{zeros, spread_le}
use Rattle.lrat_live.proofs.StartLaws.{live_below}
use Rattle.lrat_live.proofs.WindowLaws.{rest_dead, front_dead, is_above, is_within, below_kept}
use Rattle.lrat_live.proofs.WindowLaws.{long_kept, front_moved, rest_moved, clauses_moved}
use Rattle.lrat_live.proofs.WindowLaws.{clauses_cut}
use Rattle.lrat_live.proofs.window.squeeze.Goals as goal
use Rattle.lrat_live.proofs.window.squeeze.Goals.{After-truncate}

pub loop-place-preserved-then-not-is_live : goal.loop-place-preserved-then-not-is_live
loop-place-preserved-then-not-is_live c =
    let inv = c.loop-place.invariant in
    let ls = c.loop-place.lits.items in
    let ss = c.loop-place.spans in
    let i = c.loop-place.place in
    let end = c.loop-place.end in
    let h : i < length ss = omega arith in
    let dead : is_live (get_or ss i zeros) ≡ false =
    sym c.is_live.ensures ∙ c.if-not-is_live.true in
    record {
      front = front_dead ls ss i end zeros h inv.rest c.args.from dead inv.front;
      rest = rest_dead ls ss i end zeros h inv.rest dead;
      below = inv.below;
      clauses = inv.clauses;
      literals = inv.literals;
      count = inv.count;
    }

pub move_down-requires-clause-within : goal.move_down-requires-clause-within
move_down-requires-clause-within c =
    is_within c.loop-place.lits.items c.loop-place.spans c.loop-place.place c.loop-place.end
    zeros (omega arith) c.loop-place.invariant.rest
    (sym c.is_live.ensures ∙ c.if-not-is_live.false)

pub loop-place-preserved : goal.loop-place-preserved
loop-place-preserved c =
    let inv = c.loop-place.invariant in
    let ls = c.loop-place.lits.items in
    let ms = c.move_down.new.lits.items in
    let ss = c.loop-place.spans in
    let i = c.loop-place.place in
    let end = c.loop-place.end in
    let from = c.args.from in
    let h : i < length ss = omega arith in
    let s = get_or ss i zeros in
    let n = s.length in
    let x : LiveSpan = record { start = end; length = (get_or ss i zeros).length } in
    let live : is_live (get_or ss i zeros) ≡ true =
    sym c.is_live.ensures ∙ c.if-not-is_live.false in
    let up : end ≤ (get_or ss i zeros).start = is_above ls ss i end zeros h inv.rest live in
    let within : (get_or ss i zeros).start + (get_or ss i zeros).length ≤ length ls =
    is_within ls ss i end zeros h inv.rest live in
    let lives : is_live x ≡ true =
    live_below end (get_or ss i zeros).length
    (omega (arith, up, within, inv.literals, c.requires.few)) in
    let moved = c.move_down.ensures.moved in
    record {
      front =
          front_moved ls ss i end zeros h inv.rest live ms n x refl moved refl refl lives from
          inv.front;
      rest = rest_moved ls ss i end zeros h inv.rest live ms n x refl moved refl refl lives;
      below =
          below_kept ls ss i end zeros h inv.rest live ms n x refl moved refl refl lives from
          (spread_le from (take i ss) end inv.front)
          ∙ inv.below;
      clauses = λ m. clauses_moved ls ss i end zeros h inv.rest live ms n x refl moved refl refl
          lives from m inv.front ∙ inv.clauses m;
      literals =
          long_kept ls ss i end zeros h inv.rest live ms n x refl moved refl refl lives
          ∙ inv.literals;
      count = length-set ss i x ∙ inv.count;
    }

all_spread : (c : After-truncate) → AreSpread c.args.from c.loop-place.spans c.loop-place.end
all_spread c =
    subst (λ xs. AreSpread c.args.from xs c.loop-place.end)
    (take_all c.loop-place.place c.loop-place.spans (omega arith)) c.loop-place.invariant.front

pub returns-clause-spread : goal.returns-clause-spread
returns-clause-spread c =
    let l = c.loop-place in
    let within : l.end ≤ length l.lits.items =
    spread_le l.end (drop l.place l.spans) (length l.lits.items) l.invariant.rest in
    let long : length c.truncate.new.self.items ≡ l.end =
    ap length c.truncate.ensures.items
    ∙ omega (arith, within, length-take l.end l.lits.items) in
    subst (AreSpread c.args.from l.spans) (sym long)
    (all_spread (goal.at.returns-clause-spread c).After-truncate)

pub returns-clause-below : goal.returns-clause-below
returns-clause-below c =
    let inv = c.loop-place.invariant in
    rw c.truncate.ensures.items
    (take-take c.args.from c.loop-place.end c.loop-place.lits.items
    (spread_le c.args.from (take c.loop-place.place c.loop-place.spans) c.loop-place.end inv.front)
    ∙ inv.below)

pub returns-clause-clauses : goal.returns-clause-clauses
returns-clause-clauses c =
    let inv = c.loop-place.invariant in
    λ n. rw c.truncate.ensures.items
    (clauses_cut c.loop-place.lits.items c.loop-place.spans c.args.from c.loop-place.end n
    (all_spread (goal.at.returns-clause-clauses c).After-truncate) ∙ inv.clauses n)
