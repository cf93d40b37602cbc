-- What was put is what is written.
use Rattle.std.proofs.Common.{sym}
use Rattle.explain_text.specs.Sheets.{Displays}
use Rattle.explain.specs.Explained.{listing_text}
use Rattle.explain_text.proofs.Laws.{more, written}
use Rattle.explain.proofs.explaining.write_listing.Given.{Over}
use Rattle.explain.proofs.explaining.write_listing.Goals as goal
use Rattle.explain.proofs.explaining.write_listing.Goals.{After-put_names}

-- one part after another
put : (g : Over) (c : After-put_names g)
    → Displays (g.W.Write.contents c.args.writer.now) c.new-sheet.result
    (listing_text c.args.text.now c.args.bits.now c.args.costs.cost c.args.costs.told
    c.args.costs.soft c.args.findings.now)
    (g.W.Write.contents c.put_names.new.writer) c.put_names.new.sheet
put g c =
    rw (
      sym c.as_slice-given_up.ensures.value,
      sym c.as_slice-soft.ensures.value,
      sym c.as_slice-hard.ensures.value,
    )
    (more c.put_cost.ensures (more c.put_count.ensures
    (more c.put_given_up.ensures (more c.put_broken.ensures c.put_names.ensures))))

pub returns : goal.returns
returns g c =
    let whole = put g (goal.at.returns g c).After-put_names in
    written c.finish.result _ c.new-sheet.ensures.empty c.new-sheet.ensures.whole whole
    c.finish.ensures.ok c.finish.ensures.fault
