-- A part of both lists together is one of each.
use Rattle.std.proofs.Common.{◌≡◌, length, refl, rules}
use Rattle.lrat_log.proofs.Parts.{range_split}
use Rattle.lrat_log.proofs.hints.HintList.part.Goals as goal

pub returns : goal.returns
returns c =
    let count : c.len-count.result ≡ length c.self.inside.narrow.items = search rules in
    let r = range_split c.self.inside.narrow.items c.self.inside.wide.items c.args.start c.args.end
    c.requires.0 in
    rw (
      ← c.self.view_is,
      r,
      ← count,
      c.deref.ensures.value,
      c.deref-2.ensures.value,
      c.min.ensures,
      c.min-2.ensures,
      c.saturating_sub.ensures,
      c.saturating_sub-2.ensures,
    ) refl
