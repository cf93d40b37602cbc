-- The first items of both lists together are the first of each.
use Rattle.std.proofs.Common.{◌≡◌, length, rules, refl}
use Rattle.lrat_log.proofs.Parts.{take_split}
use Rattle.lrat_log.proofs.hints.HintList.truncate.Goals as goal

pub returns : goal.returns
returns c =
    let count : c.len.result ≡ length c.self.inside.narrow.items = search rules in
    rw (
      ← c.self.view_is,
      take_split c.self.inside.narrow.items c.self.inside.wide.items c.args.count,
      ← count,
      c.truncate.ensures.items,
      c.truncate-2.ensures.items,
      c.saturating_sub-wide.ensures,
    ) refl
