-- One variable more has its value.
use Rattle.std.proofs.Common.{◌≡◌, ◌-◌, ◌<◌, ◌≤◌, length, arith, ap, ◌∙◌}
use Rattle.cnf.specs.Literal.{Assignment}
use Rattle.cnf.specs.Bits.{assignment_of}
use Rattle.reconstruction.specs.declared.removals.Gone.{Gone}
use Rattle.reconstruction.specs.Removals.{becomes_true}
use Rattle.reconstruction.specs.Flat.{one_removed}
use Rattle.reconstruction.proofs.Needed.{extend_step, gone_small, gone_from_one}
use Rattle.reconstruction.proofs.removals.Removals.extend.Goals as goal

pub bounds-bits-gone : goal.bounds-bits-gone
bounds-bits-gone c =
    let i = c.len-count.result - 1 - c.loop-back.back in
    let s = c.self.inside in
    let long : c.len-count.result ≡ length s.gone.items =
    omega (arith, c.len-count.ensures, s.gone.ok.0) in
    let few : c.index-gone.result.now.variable ≤ length c.args.bits.now =
    gone_small s.gone.items s.pieces.items s.literals.items c.args.self.now (length c.args.bits.now)
    i c.index-gone.result.now c.self.view_is c.requires (omega arith) c.index-gone.ensures in
    let same : length c.loop-back.bits ≡ length c.args.bits.now =
    omega (arith, c.loop-back.auto.bits) in
    let some : 0 < c.index-gone.result.now.variable =
    gone_from_one s.gone.items (length s.pieces.items) i c.index-gone.result.now
    c.self.invariant.each_gone (omega arith) c.index-gone.ensures in
    omega arith

pub loop-back-preserved : goal.loop-back-preserved
loop-back-preserved c =
    let i = c.len-count.result - 1 - c.loop-back.back in
    let s = c.self.inside in
    let g : Gone = c.index-gone.result.now in
    let t : Assignment = assignment_of c.loop-back.bits in
    let long : c.len-count.result ≡ length s.gone.items =
    omega (arith, c.len-count.ensures, s.gone.ok.0) in
    let value : c.some_needed-value.result ≡ becomes_true t
    (one_removed s.pieces.items s.literals.items g) =
    c.some_needed-value.ensures
    ∙ ap (λ ps. becomes_true t (one_removed ps c.deref-in-loop-back.result.now g))
    c.deref.ensures.value
    ∙ ap (λ ls. becomes_true t (one_removed s.pieces.items ls g)) c.deref-in-loop-back.ensures.value
    in
    extend_step s.gone.items s.pieces.items s.literals.items c.args.self.now c.args.bits.now
    c.loop-back.bits c.some_needed-value.result c.loop-back.back i g c.self.view_is (omega arith)
    c.index-gone.ensures c.loop-back.invariant value
