use Rattle.std.proofs.Common.{◌≡◌, ◌<◌, length, take, ◌++◌, ◌∷◌, [], refl, ap, ◌∙◌, arith, sym}
use Rattle.std.proofs.Common.{subst}
use Rattle.std.proofs.lemmas.List.{length-set}
use Rattle.cnf.specs.Literal.{index_of}
use Rattle.cnf.proofs.Laws.{on_err_at, on_ok_at}
use Rattle.propagate_watches.specs.declared.table.Attachment.TheVariants.{Watching}
use Rattle.propagate_watches.specs.Pool.{row_at, with_row}
use Rattle.propagate.specs.Watches.{EngineState, engine_state}
use Rattle.propagate.specs.Steps.{entry_of}
use Rattle.propagate_trail.proofs.Laws.{index-within}
use Rattle.propagate.proofs.Attaching.{engine_set}
use Rattle.propagate.proofs.Watching.{unpushed}
use Rattle.propagate.proofs.engine.Engine.watch.Goals as goal

pub returns-then-is_err-clause-err : goal.returns-then-is_err-clause-err
returns-then-is_err-clause-err c =
    let i = c.self.inside in
    let k = index_of c.args.one in
    let variables = ap (λ (x : EngineState). x.variables) c.self.view_is in
    let lt : k < length i.pool =
    omega (
      arith,
      c.self.invariant.rows,
      index-within i.trail.variables c.args.one (
        c.requires.one.0,
        omega (arith, c.requires.one.1),
      ),
    ) in
    let e1 : c.push-2.new.self ≡ with_row i.pool k
    (row_at i.pool k ++ entry_of c.args.reference c.args.other ∷ []) =
    on_err_at c.push-2.result c.if-is_err.ensures.value c.push-2.ensures.err
    ∙ c.in_ok-push.ensures.ok
    ∙ ap (λ j. with_row i.pool j (row_at i.pool j ++ entry_of c.args.reference c.args.other ∷ []))
    c.index-2.ensures.index in
    let n = c.len-len.ensures ∙ ap (λ j. length (row_at i.pool j)) c.index.ensures.index in
    let pool : c.truncate.new.self ≡ i.pool =
    c.truncate.ensures
    ∙ ap (λ j. with_row c.push-2.new.self j (take c.len-len.result (row_at c.push-2.new.self j)))
    c.index-then-is_err.ensures.index
    ∙ unpushed i.pool c.push-2.new.self k c.len-len.result (entry_of c.args.reference c.args.other)
    lt n e1 in
    ap (λ p. engine_state i.trail i.table p i.waiting.items i.stable_qhead i.qhead i.failed) pool
    ∙ c.self.view_is

pub invariant_of-self-2 : goal.invariant_of-self-2
invariant_of-self-2 c =
    let i = c.self.inside in
    let r = c.args.reference in
    let e = engine_state i.trail i.table i.pool i.waiting.items i.stable_qhead i.qhead i.failed in
    let variables = ap (λ (x : EngineState). x.variables) c.self.view_is in
    let lt : r < length i.table =
    subst (λ (x : EngineState). r < length x.watches.table) (sym c.self.view_is) c.requires.place in
    let long : length c.push-2.new.self ≡ length i.pool =
    ap length (on_ok_at c.push-2.result c.if-is_err.ensures.value c.push-2.ensures.ok)
    ∙ length-set _ _ _ ∙ ap length c.in_ok-push.ensures.ok ∙ length-set _ _ _ in
    rw (c.set.ensures, c.index-4.ensures)
    (engine_set e r (Watching c.args.one c.args.other c.gather_rest-rest.result) c.push-2.new.self
    i.waiting.items c.self.invariant long lt
    (λ one other at.
    let a : one ≡ c.args.one = cc in
    let b : other ≡ c.args.other = cc in
    rw (a, b) (
      (c.requires.one.0, omega (arith, c.requires.one.1)),
      (c.requires.other.0, omega (arith, c.requires.other.1)),
    )))

pub returns-clause-ok : goal.returns-clause-ok
returns-clause-ok c =
    let i = c.self.inside in
    let second = on_ok_at c.push-2.result c.if-is_err.ensures.value c.push-2.ensures.ok in (
      c.gather_rest-rest.result,
      c.gather_rest-rest.ensures,
      rw (
        c.set.ensures,
        c.index-4.ensures,
        second,
        c.in_ok-push.ensures.ok,
        c.index-2.ensures.index,
        c.index-3.ensures.index,
        ← c.self.view_is,
      ) refl,
    )
