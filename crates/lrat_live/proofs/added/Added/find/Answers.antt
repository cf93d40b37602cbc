use Rattle.std.proofs.Common.{◌≡◌, ◌+◌, ◌≤◌, arith, sym, length, rules}
use Rattle.std.proofs.lemmas.Bool.{not-true, not-false}
use Rattle.lrat_live.specs.Chains.{place_of}
use Rattle.lrat_live.specs.Table.{entry_spans, keys_of}
use Rattle.lrat_live.proofs.Lookup.{nothing_listed, entry_within, entry_ends, dead_listed}
use Rattle.lrat_live.proofs.Lookup.{live_listed}
use Rattle.lrat_live.proofs.added.Added.find.Goals as goal
use Rattle.lrat_live.proofs.added.Added.find.Goals.{In_ok-place}

at_place : (c : In_ok-place)
    → place_of c.args.id (keys_of (entry_spans c.self.inside.entries.items))
    ≡ c.in_ok-place.place + 1
at_place c = rw c.deref-2.ensures.value at c.in_ok-place.ensures

pub returns-in_err-place : goal.returns-in_err-place
returns-in_err-place c =
    let s = c.self.inside in
    let none : place_of c.args.id (keys_of (entry_spans s.entries.items)) ≡ 0 =
    rw c.deref-2.ensures.value at c.in_err-place.ensures in
    rw (c.from_residual.ensures, ← c.self.view_is)
    (sym (nothing_listed s.lits.items s.entries.items s.heads.items c.self.invariant
    c.args.id none))

pub index-entry-requires : goal.index-entry-requires
index-entry-requires c =
    omega (
      arith,
      c.self.inside.entries.ok.0,
      entry_within c.self.inside.lits.items c.self.inside.entries.items c.self.inside.heads.items
          c.self.invariant c.args.id c.in_ok-place.place (at_place c),
    )

pub returns-then-not-entry : goal.returns-then-not-entry
returns-then-not-entry c =
    let s = c.self.inside in
    rw (← c.self.view_is)
    (sym (dead_listed s.lits.items s.entries.items s.heads.items c.self.invariant c.args.id
    c.in_ok-place.place (at_place (goal.at.returns-then-not-entry c).In_ok-place) _
    c.index-entry.ensures (not-true _ c.if-not-entry.true)))

pub slice_bounds-result-end : goal.slice_bounds-result-end
slice_bounds-result-end c =
    let s = c.self.inside in
    let ends : c.index-entry.result.now.start + c.index-entry.result.now.length
    ≤ length s.lits.items =
    entry_ends s.lits.items s.entries.items s.heads.items c.self.invariant c.args.id
    c.in_ok-place.place (at_place (goal.at.slice_bounds-result-end c).In_ok-place) _
    c.index-entry.ensures in
    let bound : c.index-entry.result.now.start + c.index-entry.result.now.length
    ≤ length c.deref-3.result.now = rw c.deref-3.ensures.value ends in
    search rules

pub returns : goal.returns
returns c =
    let s = c.self.inside in
    rw (← c.self.view_is, c.deref-3.ensures.value)
    (sym (live_listed s.lits.items s.entries.items s.heads.items c.self.invariant c.args.id
    c.in_ok-place.place (at_place (goal.at.returns c).In_ok-place) _ c.index-entry.ensures
    (not-false _ c.if-not-entry.false)))
