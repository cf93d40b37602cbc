-- A number more, and what ends them.
use Rattle.std.proofs.Common.{arith, drop}
use Rattle.text.specs.Text.{tokens_of}
use Rattle.lrat_read.proofs.Ends.{done_at}
use Rattle.lrat_read.proofs.IdLaws.{ids_break, ids_end, ids_next}
use Rattle.lrat_read.proofs.blocks.read_ids.Goals as goal

pub returns-then-id-eq0 : goal.returns-then-id-eq0
returns-then-id-eq0 c =
    let line = c.args.line.now in
    let id = c.in-Some.id in
    let found = c.in-Some.ensures in
    let end = c.skip_blanks.ensures in
    ids_end line c.args.at c.loop-id.ids.items (tokens_of (drop c.loop-id.place line))
    (tokens_of (drop id.end line)) found.0 id.value _ c.loop-id.invariant.ids found.1 found.2
    c.if-id-eq0.true (done_at line c.skip_blanks.result id.end end.tokens end.within end.stops)

pub loop-id-preserved : goal.loop-id-preserved
loop-id-preserved c =
    let line = c.args.line.now in
    let id = c.in-Some.id in
    let found = c.in-Some.ensures in
    record {
      within = found.5;
      ids =
          ids_next _ c.loop-id.ids.items c.push.new.self.items
          (tokens_of (drop c.loop-id.place line)) (tokens_of (drop id.end line)) found.0 id.value
          c.loop-id.invariant.ids found.1 found.2 (omega (arith, c.if-id-eq0.false))
          c.in_ok-push.ensures.items;
    }

pub returns : goal.returns
returns c =
    ids_break _ c.loop-id.ids.items (tokens_of (drop c.loop-id.place c.args.line.now))
    c.loop-id.invariant.ids c.in_default.ensures
