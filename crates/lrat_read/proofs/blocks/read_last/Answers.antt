use Rattle.lrat_read.proofs.Prefixes.{last_read}
use Rattle.lrat_read.proofs.blocks.read_last.Goals as goal

pub returns : goal.returns
returns c =
    last_read c.args.line.now c.args.at c.skip_blanks.result c.in-Some.end
    c.read_hints.new.hints.items c.in_ok-end.field-0 c.in_ok-end.ensures c.in-Some.is
    c.skip_blanks.ensures.tokens c.skip_blanks.ensures.within c.skip_blanks.ensures.stops
