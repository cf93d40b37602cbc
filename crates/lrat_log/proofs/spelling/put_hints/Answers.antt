-- Where a fault came, a beginning of the hints was put.
use Rattle.std.proofs.Common.{◌≡◌, ◌+◌, ◌-◌, ◌<◌, ◌≤◌, ◌^◌, [], length, arith, sym, ap, subst}
use Rattle.std.proofs.Common.{length-append}
use Rattle.std.proofs.lemmas.Result.{err_from_is_err_and}
use Rattle.text.proofs.Laws.{all_taken, items_more}
use Rattle.lrat_log.specs.declared.lines.Hint.{Hint}
use Rattle.lrat_log.specs.Log.{id_of, name_of}
use Rattle.lrat_log.specs.Texts.{hint_text}
use Rattle.lrat_log.proofs.LineTexts.{item_fault}
use Rattle.lrat_log.proofs.Parts.{Stands, stands_first, stands_last}
use Rattle.lrat_log.proofs.spelling.put_hints.Goals as goal
use Rattle.lrat_log.proofs.spelling.put_hints.Goals.{After-narrow-item, After-wide-item}
use Rattle.lrat_log.proofs.spelling.put_hints.Given.{Over}

narrow : (g : Over) (c : After-narrow-item g)
    → Stands c.args.hints.now c.loop-narrow.narrow-index c.narrow-item.result
narrow g c =
    stands_first c.hints.inside.narrow.now c.hints.inside.wide.now c.args.hints.now c.hints.view_is
    c.loop-narrow.narrow-index c.narrow-item.result (omega arith) c.narrow-item.is

wide : (g : Over) (c : After-wide-item g)
    → Stands c.args.hints.now
    (length c.args.hints.now - length c.hints.inside.wide.now + c.loop-wide.wide-index)
    c.wide-item.result
wide g c =
    stands_last c.hints.inside.narrow.now c.hints.inside.wide.now c.args.hints.now c.hints.view_is
    c.loop-wide.wide-index c.wide-item.result (omega arith) c.wide-item.is

pub returns-in_err-put_hint : goal.returns-in_err-put_hint
returns-in_err-put_hint g c =
    let p = err_from_is_err_and c.from_residual.result c.from_residual.ensures.1 in
    let s = narrow g (goal.at.returns-in_err-put_hint g c).After-narrow-item in
    rw (p.1) (item_fault (hint_text c.args.base) _ _ _ _ _ c.args.hints.now
    c.loop-narrow.narrow-index c.narrow-item.result s.within s.here c.loop-narrow.invariant
    (rw c.widen.ensures at c.in_err-put_hint.ensures))

pub loop-narrow-preserved : goal.loop-narrow-preserved
loop-narrow-preserved g c =
    let s = narrow g (goal.at.loop-narrow-preserved g c).After-narrow-item in
    items_more (hint_text c.args.base) _ _ _ _ _ _ [] c.args.hints.now c.loop-narrow.narrow-index
    c.narrow-item.result s.within s.here c.loop-narrow.invariant
    (rw c.widen.ensures at c.in_ok-put_hint.ensures)

pub loop-wide-init : goal.loop-wide-init
loop-wide-init g c =
    let n = length-append c.hints.inside.narrow.now c.hints.inside.wide.now in
    let whole = ap length c.hints.view_is in
    let e : length c.args.hints.now - length c.hints.inside.wide.now + 0
    ≡ c.loop-narrow.narrow-index = omega arith in
    rw e c.loop-narrow.invariant

pub put_hint-requires-in-loop-wide : goal.put_hint-requires-in-loop-wide
put_hint-requires-in-loop-wide g c =
    let s = wide g (goal.at.put_hint-requires-in-loop-wide g c).After-wide-item in
    subst (λ (h : Hint). id_of c.args.base (name_of h) < 2 ^ 62) (sym s.here)
    (c.requires _ c.wide-item.result s.within)

pub returns-in_err-put_hint-2 : goal.returns-in_err-put_hint-2
returns-in_err-put_hint-2 g c =
    let p =
    err_from_is_err_and c.from_residual-in_err-put_hint-2.result
    c.from_residual-in_err-put_hint-2.ensures.1 in
    let s = wide g (goal.at.returns-in_err-put_hint-2 g c).After-wide-item in
    rw (p.1) (item_fault (hint_text c.args.base) _ _ _ _ _ c.args.hints.now _ c.wide-item.result
    s.within s.here c.loop-wide.invariant c.in_err-put_hint-2.ensures)

pub loop-wide-preserved : goal.loop-wide-preserved
loop-wide-preserved g c =
    let s = wide g (goal.at.loop-wide-preserved g c).After-wide-item in
    let place = length c.args.hints.now - length c.hints.inside.wide.now in
    let e : place + (c.loop-wide.wide-index + 1) ≡ place + c.loop-wide.wide-index + 1 =
    omega arith in
    rw e (items_more (hint_text c.args.base) _ _ _ _ _ _ [] c.args.hints.now _ c.wide-item.result
    s.within s.here c.loop-wide.invariant c.in_ok-put_hint-2.ensures)

pub returns : goal.returns
returns g c =
    let n = length-append c.hints.inside.narrow.now c.hints.inside.wide.now in
    let whole = ap length c.hints.view_is in
    let k = length c.args.hints.now - length c.hints.inside.wide.now + c.loop-wide.wide-index in
    let done : length c.args.hints.now ≤ k = omega arith in
    rw (all_taken (hint_text c.args.base) c.args.hints.now k done) at c.loop-wide.invariant
