use Rattle.std.proofs.Common.{◌≡◌, ◌∙◌, ap, sym, length, arith}
use Rattle.cnf.proofs.Cutting.{length-cut}
use Rattle.cnf.proofs.clause_list.ClauseList.len.Goals as goal

pub returns : goal.returns
returns c =
    let n : length c.args.self.now ≡ length c.self.inside.ends.items =
    ap length (sym c.self.view_is)
    ∙ length-cut 0 c.self.inside.lits.items c.self.inside.ends.items in
    omega (arith, n, c.len.ensures, c.self.inside.ends.ok.0)
