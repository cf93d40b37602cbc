use Rattle.std.proofs.Common.{◌∙◌, ℕ, ◌<◌, List, length, slice_set, ap, sym, arith, rules, subst}
use Rattle.std.proofs.lemmas.List.{length-replicate}
use Rattle.flat_rows.proofs.Filling.{replicate_set, filled_more}
use Rattle.flat_rows.proofs.block.FlatBlock.new.Goals as goal

pub loop-place-init : goal.loop-place-init
loop-place-init g c =
    let r = c.in_ok-base.ensures in
    record { at = r.0; same = r.1; full = λ k lt. absurd (omega arith) }

pub put-requires : goal.put-requires
put-requires g c =
    let i = c.loop-place.invariant in (
      sym i.at,
      subst (λ (n : ℕ). c.loop-place.place < n)
          (sym (ap length i.same ∙ length-replicate c.args.count c.args.fill.now)) (omega arith),
    )

pub loop-place-preserved : goal.loop-place-preserved
loop-place-preserved g c =
    let i = c.loop-place.invariant in let p = c.put.ensures in
    record {
      at = p.0 ∙ i.at;
      same = p.1 ∙ ap (λ (xs : List g.row.T.Denot). slice_set xs c.loop-place.place c.args.fill.now)
          i.same ∙ replicate_set c.args.count c.loop-place.place c.args.fill.now;
      full = rw p.2 (filled_more c.loop-place.places.filled c.loop-place.place
          (omega (
            arith,
            c.loop-place.places.even,
            ap length i.same,
            length-replicate c.args.count
                c.args.fill.now,
          )) i.full);
    }

pub invariant_of-result : goal.invariant_of-result
invariant_of-result g c =
    let i = c.loop-place.invariant in let r = c.in_ok-base.ensures in
    record {
      at = i.at;
      long = ap length i.same ∙ length-replicate c.args.count c.args.fill.now;
      small = (c.may_hold.ensures (search rules)).1;
      full = λ k lt. i.full k (omega arith);
      deed_at = r.2;
      deed_len = r.3;
      deed_heap = r.4;
    }

pub returns : goal.returns
returns g c = c.loop-place.invariant.same
