use Rattle.std.proofs.Common.{◌≡◌, ◌+◌, ◌≤◌, arith, inl, inr, get_or, false, sym}
use Rattle.std.proofs.Common.{◌∙◌, ap}
use Rattle.std.proofs.lemmas.Bool.{cases_lt}
use Rattle.std.proofs.lemmas.List.{get_or_default}
use Rattle.lrat_live.specs.Near.{is_live, nowhere}
use Rattle.lrat_live.proofs.SpanLaws.{zeros}
use Rattle.lrat_live.proofs.NearLaws.{gone_low, gone_between, gone_high, beyond}
use Rattle.lrat_live.proofs.near.place_of.Goals as goal
use Rattle.lrat_live.proofs.near.place_of.Goals.{then-id-given-2, else-id-given-2}

pub returns-then-id-given : goal.returns-then-id-given
returns-then-id-given c = λ ls.
    elim (cases_lt c.args.given c.args.id) [
      | inl h ↦
          gone_between ls c.args.spans.now c.args.given c.args.gap c.requires.covers c.args.id h
          (omega (arith, c.if-id-given.true, c.requires.gap, c.ranges.id.fits))
      | inr h ↦ absurd (omega (arith, c.if-id-given.true, c.requires.gap))
    ]

pub returns-then-place-spans : goal.returns-then-place-spans
returns-then-place-spans c = λ ls.
    elim c.if-id-given-2.branch [
      | then-id-given-2 w ↦
          let up : c.args.given + 1 + c.args.gap ≤ c.args.id =
          omega (arith, c.if-id-given.false, w.if-id-given-2.true, c.ranges.id.fits) in
          gone_high ls c.args.spans.now c.args.given c.args.gap c.requires.covers c.args.id
          c.if-id-given-2.place (omega (arith, up, w.place-is)) (omega (arith, up, w.place-is))
          (beyond c.args.spans.now c.if-id-given-2.place (omega (arith, c.if-place-spans.true)))
      | else-id-given-2 w ↦
          absurd (omega (
            arith,
            c.requires.covers,
            w.place-is,
            w.if-id-given-2.false,
            c.if-place-spans.true,
          ))
    ]

pub returns-else-is_live : goal.returns-else-is_live
returns-else-is_live c = λ ls.
    let ss = c.args.spans.now in
    let p = c.if-id-given-2.place in
    let dead : is_live (get_or ss p nowhere) ≡ false =
    ap is_live (get_or_default ss p nowhere zeros (omega (arith, c.if-place-spans.false)))
    ∙ sym c.if-is_live.ensures in
    elim c.if-id-given-2.branch [
      | then-id-given-2 w ↦
          let up : c.args.given + 1 + c.args.gap ≤ c.args.id =
          omega (arith, c.if-id-given.false, w.if-id-given-2.true, c.ranges.id.fits) in
          gone_high ls ss c.args.given c.args.gap c.requires.covers c.args.id p
          (omega (arith, up, w.place-is)) (omega (arith, up, w.place-is)) dead
      | else-id-given-2 w ↦
          gone_low ls ss c.args.given c.args.gap c.requires.covers c.args.id
          (omega (arith, w.if-id-given-2.false))
          (ap (λ m. is_live (get_or ss m nowhere)) (sym w.place-is) ∙ dead)
    ]
