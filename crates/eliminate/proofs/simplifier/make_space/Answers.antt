-- One row more may be cleaned.
use Rattle.std.proofs.Common.{ℕ, ◌∙◌, length, arith, ap, subst, sym}
use Rattle.eliminate_tables.specs.Rows.{Roomed, AreRows}
use Rattle.eliminate.proofs.Gathering.{rows_spaced}
use Rattle.eliminate.proofs.simplifier.make_space.Goals as goal
use Rattle.eliminate.proofs.simplifier.make_space.Goals.{then-row-count+in_ok-make_space}
use Rattle.eliminate.proofs.simplifier.make_space.Goals.{else-row-count}

pub returns-in_err-make_space-clause-rows : goal.returns-in_err-make_space-clause-rows
returns-in_err-make_space-clause-rows c a =
    (rows_spaced c.loop-lit.rows.rows c.make_space.new.self.rows c.args.store.now.slots
    c.index-row.result (omega (arith, c.if-row-count.true, c.count.ensures))
    c.make_space.ensures.rows).0
    (c.loop-lit.invariant.rows a)

pub loop-lit-preserved : goal.loop-lit-preserved
loop-lit-preserved c = elim c.if-row-count.branch [
  | then-row-count+in_ok-make_space w ↦
      let spaced =
      rows_spaced c.loop-lit.rows.rows w.make_space.new.self.rows c.args.store.now.slots
      c.index-row.result (omega (arith, w.if-row-count.true, c.count.ensures))
      w.make_space.ensures.rows in
      record {
        rows = λ a. subst (λ (rs : Roomed ℕ). AreRows rs.rows c.args.store.now.slots)
            (sym w.rows-is) (spaced.0 (c.loop-lit.invariant.rows a));
        places = ap (λ (rs : Roomed ℕ). length rs.rows) w.rows-is ∙ spaced.1
            ∙ c.loop-lit.invariant.places;
      }
  | else-row-count w ↦ record {
    rows = λ a. subst (λ (rs : Roomed ℕ). AreRows rs.rows c.args.store.now.slots)
        (sym w.rows-is) (c.loop-lit.invariant.rows a);
    places = ap (λ (rs : Roomed ℕ). length rs.rows) w.rows-is ∙ c.loop-lit.invariant.places;
  }
]
