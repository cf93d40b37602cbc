use Rattle.std.proofs.Common.{◌∙◌, sym}
use Rattle.lrat_live.proofs.Listed.{rises_from}
use Rattle.lrat_live.proofs.LiveLaws.{near_found, far_found}
use Rattle.lrat_live.specs.Near.{all_of}
use Rattle.lrat_live.proofs.live.lookup.Goals as goal

pub returns-in-Some : goal.returns-in-Some
returns-in-Some c =
    let n = c.args.near.now in
    sym (near_found n.given c.args.far.now n.recent c.args.id c.in-Some.clause.now
    (rises_from (all_of n c.args.far.now) c.requires) (sym c.in-Some.ensures))

pub returns-in-None : goal.returns-in-None
returns-in-None c =
    let n = c.args.near.now in
    c.find-in-None.ensures
    ∙ sym (far_found n.given c.args.far.now n.recent c.args.id (sym c.in-None.ensures))
