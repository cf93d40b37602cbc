-- What is left at the end.
use Rattle.eliminate.proofs.Endings.{ended, moved_fit, refused}
use Rattle.eliminate.proofs.ending.define_where_open.Goals as goal

pub define_pairs-requires-clause-fit : goal.define_pairs-requires-clause-fit
define_pairs-requires-clause-fit g c =
    moved_fit c.requires.0 c.args.simplifier.now c.args.store.now.slots
    c.move_together.new.store.slots c.move_together.new.names (g.S.Sink.lines c.args.sink.now)
    c.requires.2
    (record {
      slots_are = c.move_together.ensures.slots;
      names_are = c.move_together.ensures.names;
    })

pub returns-clause-result : goal.returns-clause-result
returns-clause-result g c =
    ended c.define_pairs.result c.args.frozen.now c.args.simplifier.now c.args.store.now.slots
    c.move_together.new.store.slots c.define_pairs.new.store.slots c.move_together.new.names
    c.define_pairs.new.names
    (g.S.Sink.lines c.args.sink.now) (g.S.Sink.lines c.define_pairs.new.sink) c.if-simplifier.false
    (record {
      slots_are = c.move_together.ensures.slots;
      names_are = c.move_together.ensures.names;
    })
    c.define_pairs.ensures

pub returns-clause-err : goal.returns-clause-err
returns-clause-err g c =
    refused c.define_pairs.result c.args.frozen.now c.args.simplifier.now c.args.store.now.slots
    c.move_together.new.store.slots c.define_pairs.new.store.slots c.move_together.new.names
    c.define_pairs.new.names
    (g.S.Sink.lines c.args.sink.now) (g.S.Sink.lines c.define_pairs.new.sink) c.if-simplifier.false
    (record {
      slots_are = c.move_together.ensures.slots;
      names_are = c.move_together.ensures.names;
    })
    c.define_pairs.ensures
