use Rattle.std.proofs.Common.{◌≡◌, ◌+◌, ◌++◌, ◌∷◌, [], arith, refl}
use Rattle.std.proofs.lemmas.Result.{IfOk-from_err}
use Rattle.cnf.specs.Literal.{positive}
use Rattle.adder.proofs.Queue.{two_at, three_at, has_room, adds_cell}
use Rattle.adder.proofs.columns.Adder.add_up.Goals.{in-len2+in_ok-add-in-len2}
use Rattle.adder.proofs.columns.Adder.add_up.Goals.{in-len3-up+in_ok-add-in-len3-up}
use Rattle.adder.proofs.columns.Adder.add_up.Goals as goal

pub add-requires : goal.add-requires
add-requires c =
    let next =
    two_at _ _ c.loop-front.front _ _ c.a-item.result c.deref.ensures.value c.in-len2.len_at_least
    c.in-len2.len_below c.a-item.is c.b-item.is in
    omega (
      arith,
      has_room c.loop-front.self.fresh _ _ _ _ _ next.0,
      c.loop-front.invariant.adding.fresh_is,
    )

pub add-requires-in-len3-up : goal.add-requires-in-len3-up
add-requires-in-len3-up c =
    let next =
    three_at _ _ c.loop-front.front _ _ _ c.a-item-in-loop-front.result c.deref.ensures.value
    c.in-len3-up.len_at_least c.a-item-in-loop-front.is c.b-item-in-loop-front.is
    c.third-item.is in
    omega (
      arith,
      has_room c.loop-front.self.fresh _ _ _ _ _ next.0,
      c.loop-front.invariant.adding.fresh_is,
    )

pub loop-front-preserved : goal.loop-front-preserved
loop-front-preserved c = elim c.if-this-lt3.branch [
  | in-len2+in_ok-add-in-len2 w ↦
      let next =
      two_at _ _ c.loop-front.front _ _ (positive c.loop-front.self.fresh) c.deref.ensures.value
      w.in-len2.len_at_least w.in-len2.len_below w.a-item.is w.b-item.is in
      let taken : c.if-this-lt3.sum.1 ≡ 2 = rw w.sum-is refl in
      let sum : c.if-this-lt3.sum.0 ≡ positive c.loop-front.self.fresh =
      rw w.sum-is w.in_ok-add-in-len2.ensures.sum in
      let pushed : c.push.new.self.items ≡ c.loop-front.column.items
      ++ positive c.loop-front.self.fresh ∷ [] = rw sum at c.in_ok-push.ensures.items in
      let fresh : c.if-this-lt3.self.fresh ≡ c.loop-front.self.fresh + 2 =
      rw w.self-is w.in_ok-add-in-len2.ensures.fresh in
      record {
        within = rw (taken, pushed) next.1;
        adding =
            adds_cell c.loop-front.invariant.adding next.0
            (rw w.self-is w.in_ok-add-in-len2.ensures.cells)
            (rw w.self-is w.in_ok-add-in-len2.ensures.carries) fresh (rw (taken, pushed) next.2);
      }
  | in-len3-up+in_ok-add-in-len3-up w ↦
      let next =
      three_at _ _ c.loop-front.front _ _ _ (positive c.loop-front.self.fresh)
      c.deref.ensures.value w.in-len3-up.len_at_least w.a-item-in-loop-front.is
      w.b-item-in-loop-front.is w.third-item.is in
      let taken : c.if-this-lt3.sum.1 ≡ 3 = rw w.sum-is refl in
      let sum : c.if-this-lt3.sum.0 ≡ positive c.loop-front.self.fresh =
      rw w.sum-is w.in_ok-add-in-len3-up.ensures.sum in
      let pushed : c.push.new.self.items ≡ c.loop-front.column.items
      ++ positive c.loop-front.self.fresh ∷ [] = rw sum at c.in_ok-push.ensures.items in
      let fresh : c.if-this-lt3.self.fresh ≡ c.loop-front.self.fresh + 2 =
      rw w.self-is w.in_ok-add-in-len3-up.ensures.fresh in
      record {
        within = rw (taken, pushed) next.1;
        adding =
            adds_cell c.loop-front.invariant.adding next.0
            (rw w.self-is w.in_ok-add-in-len3-up.ensures.cells)
            (rw w.self-is w.in_ok-add-in-len3-up.ensures.carries) fresh (rw (taken, pushed) next.2);
      }
]

pub returns-in_err-add-in-len2 : goal.returns-in_err-add-in-len2
returns-in_err-add-in-len2 c = IfOk-from_err c.from_residual.result _ c.from_residual.ensures.0

pub returns-in_err-add-in-len3-up : goal.returns-in_err-add-in-len3-up
returns-in_err-add-in-len3-up c =
    IfOk-from_err c.from_residual-in_err-add-in-len3-up.result _
    c.from_residual-in_err-add-in-len3-up.ensures.0

pub returns-in_err-push : goal.returns-in_err-push
returns-in_err-push c =
    IfOk-from_err c.from_residual-in_err-push.result _ c.from_residual-in_err-push.ensures.0
