-- What is left to name comes to what all ids do.
use Rattle.std.proofs.Common.{◌≡◌, ◌+◌, ◌-◌, ◌≤◌}
use Rattle.cnf.specs.declared.limits.TheConstants.{NUMBER_LIMIT}
use Rattle.lrat_plain.specs.Names.{named_all}
use Rattle.lrat_plain.proofs.names.Names.name_all.Given as goal

abbrev pub invariant-loop : goal.invariant-loop
invariant-loop l = record {
  left : named_all l.id (l.count - l.counter) l.self ≡ named_all l.last l.count l.fn.self;
  id : l.id ≡ l.last + l.counter;
  small : l.id ≤ NUMBER_LIMIT + (l.self).made;
}
