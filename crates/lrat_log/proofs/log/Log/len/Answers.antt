-- There is a line for each head.
use Rattle.std.proofs.Common.{◌≡◌, length, ◌∙◌, sym, rules}
use Rattle.lrat_log.proofs.Flat.{length-lines_from}
use Rattle.lrat_log.proofs.log.Log.len.Goals as goal

pub returns-clause-len : goal.returns-clause-len
returns-clause-len c =
    let heads : c.len.result ≡ length c.self.inside.heads = search rules in
    rw (← c.self.view_is) (heads
    ∙ sym (length-lines_from 0 0 c.self.inside.heads c.self.inside.lits.items
    c.self.inside.hints))
