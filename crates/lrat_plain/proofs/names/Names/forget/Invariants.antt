-- What is left to forget comes to what all ids do.
use Rattle.std.proofs.Common.{◌≡◌, ◌+◌, ◌≤◌, drop, map}
use Rattle.cnf.specs.declared.limits.TheConstants.{NUMBER_LIMIT}
use Rattle.lrat_plain.specs.Names.{Names, forgotten}
use Rattle.lrat_plain.proofs.names.Names.forget.Given as goal

abbrev pub invariant-loop-id : goal.invariant-loop-id
invariant-loop-id l =
    let now : Names = record {
      given = (l.self-inside).given;
      all = (l.self-inside).all;
      made = (l.self-inside).made;
      places = ((l.self-inside).places).entries;
    } in
    record {
      left : forgotten (map (λ i. i.1) (drop l.id-index l.ids)) now
          ≡ forgotten (map (λ i. i.1) l.ids) l.fn.self;
      within : (l.self-inside).given + (l.self-inside).made ≤ (l.self-inside).all;
      small : (l.self-inside).all ≤ NUMBER_LIMIT;
    }
