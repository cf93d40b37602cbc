-- No stamp is the next one.
use Rattle.std.proofs.Common.{◌≡◌, ◌∙◌, ap, length, replicate, false, arith}
use Rattle.std.specs.Prelude.{◌==◌}
use Rattle.std.proofs.lemmas.List.{length-map, with_items_is}
use Rattle.cnf.proofs.Unstamped.{none_stamped}
use Rattle.cnf.proofs.marks.Marks.clear.Goals as goal

pub returns : goal.returns
returns c =
    let same : length c.next_stamp-self-inside.new.stamps ≡ length c.args.self.now =
    omega (
      arith,
      ap length c.self.view_is,
      length-map c.self.inside.stamps.items (λ s. s == c.self.inside.present),
    ) in
    let long : length c.next_stamp-self-inside.new.stamps ≡ c.self.inside.stamps.len =
    omega (
      arith,
      same,
      ap length c.self.view_is,
      length-map c.self.inside.stamps.items (λ s. s == c.self.inside.present),
      c.self.inside.stamps.ok.0,
    ) in
    rw (with_items_is c.self.inside.stamps c.next_stamp-self-inside.new.stamps long)
    (none_stamped c.next_stamp-self-inside.result c.next_stamp-self-inside.new.stamps
    c.next_stamp-self-inside.ensures.above ∙ ap (λ n. replicate n false) same)
