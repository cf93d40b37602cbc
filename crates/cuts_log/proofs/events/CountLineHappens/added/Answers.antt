use Rattle.std.proofs.Common.{sym, ◌∙◌}
use Rattle.cuts_log.proofs.EventLines.{added_axioms}
use Rattle.cuts_log.proofs.events.CountLineHappens.added.Goals as goal

pub returns : goal.returns
returns c = c.len.ensures ∙ sym (added_axioms c.args.self.now.made.now)
