use Rattle.std.proofs.Common.{◌≡◌, ◌+◌, arith, rules}
use Rattle.lrat_live.specs.Chains.{place_of}
use Rattle.lrat_live.specs.Table.{entry_spans, keys_of}
use Rattle.lrat_live.proofs.Lookup.{nothing_listed, nothing_left_out, entry_within, dead_listed}
use Rattle.lrat_live.proofs.Lookup.{live_listed, dead_left, deleted_clauses, deleted_table}
use Rattle.lrat_live.proofs.added.Added.delete.Goals as goal
use Rattle.lrat_live.proofs.added.Added.delete.Goals.{In_default, In-Some}

nowhere : (c : In_default)
    → place_of c.args.id (keys_of (entry_spans c.self.inside.entries.items)) ≡ 0
nowhere c = rw c.deref-2.ensures.value at c.in_default.ensures

at_place : (c : In-Some) → place_of c.args.id (keys_of (entry_spans c.self.inside.entries.items))
    ≡ c.in-Some.place + 1
at_place c = rw c.deref-2.ensures.value at c.in-Some.ensures

pub returns-in_default-clause-found : goal.returns-in_default-clause-found
returns-in_default-clause-found c =
    let s = c.self.inside in
    rw (
      ← c.self.view_is,
      nothing_listed s.lits.items s.entries.items s.heads.items c.self.invariant
          c.args.id (nowhere c),
    ) (search rules)

pub returns-in_default-clause-left : goal.returns-in_default-clause-left
returns-in_default-clause-left c =
    let s = c.self.inside in
    rw (← c.self.view_is) (nothing_left_out s.lits.items s.entries.items s.heads.items
    c.self.invariant c.args.id (nowhere c))

pub index_mut-entry-requires : goal.index_mut-entry-requires
index_mut-entry-requires c =
    omega (
      arith,
      c.self.inside.entries.ok.0,
      entry_within c.self.inside.lits.items c.self.inside.entries.items c.self.inside.heads.items
          c.self.invariant c.args.id c.in-Some.place
          (at_place (goal.at.index_mut-entry-requires c).In-Some),
    )

pub returns-then-not-entry-clause-found : goal.returns-then-not-entry-clause-found
returns-then-not-entry-clause-found c =
    let s = c.self.inside in
    rw (
      ← c.self.view_is,
      dead_listed s.lits.items s.entries.items s.heads.items c.self.invariant
          c.args.id c.in-Some.place
          (at_place (goal.at.returns-then-not-entry-clause-found c).In-Some)
          _ c.index_mut-entry.ensures.value c.if-not-entry.true,
    ) (search rules)

pub returns-then-not-entry-clause-left : goal.returns-then-not-entry-clause-left
returns-then-not-entry-clause-left c =
    let s = c.self.inside in
    rw (← c.self.view_is) (dead_left s.lits.items s.entries.items s.heads.items c.self.invariant
    c.args.id c.in-Some.place (at_place (goal.at.returns-then-not-entry-clause-left c).In-Some)
    _ c.index_mut-entry.ensures.value c.if-not-entry.true)

pub returns-clause-found : goal.returns-clause-found
returns-clause-found c =
    let s = c.self.inside in
    rw (
      ← c.self.view_is,
      live_listed s.lits.items s.entries.items s.heads.items c.self.invariant
          c.args.id c.in-Some.place (at_place (goal.at.returns-clause-found c).In-Some) _
          c.index_mut-entry.ensures.value c.if-not-entry.false,
    ) (search rules)

pub returns-clause-left : goal.returns-clause-left
returns-clause-left c =
    let s = c.self.inside in
    rw (← c.self.view_is)
    (deleted_clauses s.lits.items s.entries.items s.heads.items c.self.invariant c.args.id
    c.in-Some.place (at_place (goal.at.returns-clause-left c).In-Some) _
    c.index_mut-entry.ensures.value)

pub invariant_of-self-2 : goal.invariant_of-self-2
invariant_of-self-2 c =
    let s = c.self.inside in
    deleted_table s.lits.items s.entries.items s.heads.items c.self.invariant c.args.id
    c.in-Some.place (at_place (goal.at.invariant_of-self-2 c).In-Some) _
    c.index_mut-entry.ensures.value
