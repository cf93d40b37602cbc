-- The head is that of a word, or of three.
use Rattle.std.proofs.Common.{◌≡◌, length, rules, arith}
use Rattle.lrat_log.proofs.NearWords.{far_at, lengths, near_at}
use Rattle.lrat_log.proofs.heads.HeadList.get.Goals as goal

pub index-requires-else-place-count : goal.index-requires-else-place-count
index-requires-else-place-count c =
    let n = lengths c.self.inside.bases.items c.self.inside.near.items c.self.inside.far.items
    c.args.self.now c.self.view_is in
    let count : c.len-count.result ≡ length c.self.inside.near.items = search rules in
    omega (arith, c.self.inside.far.ok.0)

pub returns-then-place-count : goal.returns-then-place-count
returns-then-place-count c =
    let count : c.len-count.result ≡ length c.self.inside.near.items = search rules in
    rw c.read_near.ensures (near_at c.self.inside.bases.items c.self.inside.near.items
    c.self.inside.far.items c.args.self.now c.self.view_is c.args.place c.index.result.now
    c.index-then-place-count.result.now (omega arith) c.self.invariant c.index.ensures
    c.index-then-place-count.ensures)

pub returns-else-place-count : goal.returns-else-place-count
returns-else-place-count c =
    let count : c.len-count.result ≡ length c.self.inside.near.items = search rules in
    rw c.head.ensures (far_at c.self.inside.bases.items c.self.inside.near.items
    c.self.inside.far.items c.args.self.now c.self.view_is c.args.place
    c.index-else-place-count.result.now (omega arith) c.requires
    (rw count at c.index-else-place-count.ensures))
