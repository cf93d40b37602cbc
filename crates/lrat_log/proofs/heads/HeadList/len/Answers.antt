-- There is a head for each word, and for each three.
use Rattle.std.proofs.Common.{◌≡◌, length, rules, arith}
use Rattle.lrat_log.proofs.NearWords.{lengths}
use Rattle.lrat_log.proofs.heads.HeadList.len.Goals as goal

pub returns : goal.returns
returns c =
    let n = lengths c.self.inside.bases.items c.self.inside.near.items c.self.inside.far.items
    c.args.self.now c.self.view_is in
    let near : c.len.result ≡ length c.self.inside.near.items = search rules in
    let far : c.len-2.result ≡ length c.self.inside.far.items = search rules in
    omega arith
