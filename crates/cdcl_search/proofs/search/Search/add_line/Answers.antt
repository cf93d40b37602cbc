use Rattle.cdcl_search.proofs.Placing.{adding_line}
use Rattle.cdcl_search.proofs.search.Search.add_line.Goals as goal

pub append-requires : goal.append-requires
append-requires g c = record {
  line = adding_line c.args.kind c.args.lits.now c.args.hints.now
      (c.args.self.now.engine).variables c.requires.adds c.requires.can.ready.room.few
      c.requires.can.within c.requires.hints;
}
