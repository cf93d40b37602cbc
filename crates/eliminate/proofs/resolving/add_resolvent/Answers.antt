-- The resolvent is there, or has complementary literals.
use Rattle.std.proofs.Common.{◌≡◌, ◌∙◌, ◌++◌, ◌∷◌, [], List, Some, true, ap, sym, subst}
use Rattle.std.proofs.Common.{inl, inr, length}
use Rattle.std.proofs.lemmas.Bool.{not-true}
use Rattle.std.proofs.lemmas.Result.{MatchResult-from_err}
use Rattle.cnf.specs.Literal.{Literal, negation}
use Rattle.cnf.specs.Clause.{contains_literal}
use Rattle.clauses.specs.Slots.{Slots, clause_at}
use Rattle.lrat_log.specs.Log.{LogLine}
use Rattle.eliminate.specs.declared.simplifier.Simplifier.{Simplifier}
use Rattle.eliminate_tables.specs.Resolvents.{resolvent}
use Rattle.eliminate.specs.State.{Start}
use Rattle.eliminate.specs.Simplifier.{IsSimplified}
use Rattle.eliminate.specs.Variables.{GrowsWithout}
use Rattle.eliminate.proofs.Resolvable.{resolvent_addable, resolvent_kind, literals_placed}
use Rattle.eliminate.proofs.Resolvable.{literals_plain, is_named, same_at, pair_added}
use Rattle.eliminate.proofs.Growing.{grows_one, resolvent-lacks}
use Rattle.eliminate.proofs.Simplified.{log_of}
use Rattle.eliminate.proofs.Tables.{leaves_beside, simplified_beside}
use Rattle.eliminate.proofs.resolving.add_resolvent.Given.{Over}
use Rattle.eliminate.proofs.resolving.add_resolvent.Goals as goal
use Rattle.eliminate.proofs.resolving.add_resolvent.Goals.{After-resolve}

pub resolve-requires-clause-first : goal.resolve-requires-clause-first
resolve-requires-clause-first g c =
    literals_placed c.args.simplifier.now c.args.store.now.slots (g.S.Sink.lines c.args.sink.now)
    c.requires.is_open.simplified c.args.clash.now.first c.lits.result.now c.lits.ensures

pub resolve-requires-clause-second : goal.resolve-requires-clause-second
resolve-requires-clause-second g c =
    literals_placed c.args.simplifier.now c.args.store.now.slots (g.S.Sink.lines c.args.sink.now)
    c.requires.is_open.simplified c.args.clash.now.second c.lits-2.result.now c.lits-2.ensures

pub resolve-requires-clause-plain_first : goal.resolve-requires-clause-plain_first
resolve-requires-clause-plain_first g c =
    literals_plain c.args.simplifier.now c.args.store.now.slots (g.S.Sink.lines c.args.sink.now)
    c.requires.is_open.simplified c.args.clash.now.first c.lits.result.now c.lits.ensures

pub resolve-requires-clause-plain_second : goal.resolve-requires-clause-plain_second
resolve-requires-clause-plain_second g c =
    literals_plain c.args.simplifier.now c.args.store.now.slots (g.S.Sink.lines c.args.sink.now)
    c.requires.is_open.simplified c.args.clash.now.second c.lits-2.result.now c.lits-2.ensures

pub parents-hints-requires-clause-first : goal.parents-hints-requires-clause-first
parents-hints-requires-clause-first g c =
    is_named c.args.simplifier.now c.args.store.now.slots (g.S.Sink.lines c.args.sink.now)
    c.requires.is_open.simplified c.args.clash.now.first c.lits.result.now c.lits.ensures

pub parents-hints-requires-clause-second : goal.parents-hints-requires-clause-second
parents-hints-requires-clause-second g c =
    is_named c.args.simplifier.now c.args.store.now.slots (g.S.Sink.lines c.args.sink.now)
    c.requires.is_open.simplified c.args.clash.now.second c.lits-2.result.now c.lits-2.ensures

pub add-requires-clause-line : goal.add-requires-clause-line
add-requires-clause-line g c start h =
    let s : Simplifier = c.args.simplifier.now in
    let t : Simplifier = record s { marks = c.resolve.new.marks; clause = c.resolve.new.out } in
    let slots : Slots = c.args.store.now.slots in
    let p = c.args.clash.now.pivot in
    let d = c.lits.result.now in
    let e = c.lits-2.result.now in
    let plain = c.in_ok-is_plain.ensures.plain in
    let is_plain = c.if-not-is_plain.false in
    let kind = resolvent_kind c.deref.result.now c.kind_of-kind.result c.kind_of-kind.ensures in
    let has : contains_literal p d ≡ true =
    subst (λ (x : List Literal). contains_literal p x ≡ true)
    (same_at slots c.args.clash.now.first c.requires.first.0 d c.requires.first.1 c.lits.ensures)
    c.requires.first.2 in
    let has_not : contains_literal (negation p) e ≡ true =
    subst (λ (x : List Literal). contains_literal (negation p) x ≡ true)
    (same_at slots c.args.clash.now.second c.requires.second.0 e c.requires.second.1
    c.lits-2.ensures)
    c.requires.second.2 in
    resolvent_addable start t slots (g.S.Sink.lines c.args.sink.now) p d e c.args.clash.now.first
    c.args.clash.now.second h c.lits.ensures c.lits-2.ensures c.kind_of-kind.result
    c.resolve.new.out.items
    c.parents-hints.result
    kind.0 kind.1 has has_not (not-true _ (sym plain ∙ is_plain))
    (c.in_ok-is_plain.ensures.built is_plain) c.parents-hints.ensures

pub returns-in_err-reference-clause-passes : goal.returns-in_err-reference-clause-passes
returns-in_err-reference-clause-passes g c =
    MatchResult-from_err _ _ _ c.from_residual-in_err-reference.ensures.0
    (λ _. leaves_beside c.args.simplifier.now c.resolve.new.marks c.resolve.new.out
    c.args.store.now.slots (g.S.Sink.lines c.args.sink.now) (g.S.Sink.lines c.add.new.sink)
    c.resolve.ensures.len c.in_err-reference.ensures.passes)

pub returns-clause-grows : goal.returns-clause-grows
returns-clause-grows g c =
    let s : Simplifier = c.args.simplifier.now in
    let slots : Slots = c.args.store.now.slots in
    let ls : List LogLine = g.S.Sink.lines c.args.sink.now in
    let p = c.args.clash.now.pivot in
    let d = c.lits.result.now in
    let e = c.lits-2.result.now in
    let has : contains_literal p d ≡ true =
    subst (λ (x : List Literal). contains_literal p x ≡ true)
    (same_at slots c.args.clash.now.first c.requires.first.0 d c.requires.first.1 c.lits.ensures)
    c.requires.first.2 in
    let has_not : contains_literal (negation p) e ≡ true =
    subst (λ (x : List Literal). contains_literal (negation p) x ≡ true)
    (same_at slots c.args.clash.now.second c.requires.second.0 e c.requires.second.1
    c.lits-2.ensures)
    c.requires.second.2 in
    let lacks =
    resolvent-lacks p d e (literals_plain s slots ls c.requires.is_open.simplified
    c.args.clash.now.first d
    c.lits.ensures) (literals_plain s slots ls c.requires.is_open.simplified c.args.clash.now.second
    e
    c.lits-2.ensures) has has_not in
    subst (GrowsWithout p slots)
    (sym (c.in_ok-reference.ensures.adds.slots
    ∙ ap (λ (xs : List Literal). slots ++ Some xs ∷ [])
    (c.in_ok-is_plain.ensures.built c.if-not-is_plain.false)))
    (grows_one p slots (resolvent p d e) lacks)

pub returns-clause-resolved : goal.returns-clause-resolved
returns-clause-resolved g c x y ex ey =
    inr (
      length c.args.store.now.slots,
      pair_added c.args.clash.now.pivot c.args.store.now.slots c.add.new.store.slots
          c.args.clash.now.first
          c.args.clash.now.second c.lits.result.now c.lits-2.result.now c.resolve.new.out.items
          c.in_ok-reference.ensures.adds.slots
          (c.in_ok-is_plain.ensures.built c.if-not-is_plain.false)
          c.lits.ensures c.lits-2.ensures x y ex ey,
    )

pub returns-clause-added : goal.returns-clause-added
returns-clause-added g c = (
  c.in_ok-reference.ensures.adds.reference,
  λ x y ex ey.
      ap (clause_at c.add.new.store.slots) c.in_ok-reference.ensures.adds.reference
      ∙ pair_added c.args.clash.now.pivot c.args.store.now.slots c.add.new.store.slots
      c.args.clash.now.first
      c.args.clash.now.second c.lits.result.now c.lits-2.result.now c.resolve.new.out.items
      c.in_ok-reference.ensures.adds.slots (c.in_ok-is_plain.ensures.built c.if-not-is_plain.false)
      c.lits.ensures c.lits-2.ensures x y ex ey,
)

pub returns-in_err-is_plain-clause-passes : goal.returns-in_err-is_plain-clause-passes
returns-in_err-is_plain-clause-passes g c =
    MatchResult-from_err _ _ _ c.from_residual.ensures.0
    (λ _ start h. log_of start c.args.simplifier.now c.args.store.now.slots
    (g.S.Sink.lines c.args.sink.now) h)

-- the resolvent was built, and nothing else changed
built : (g : Over) (c : After-resolve g) (start : Start)
    → IsSimplified start c.args.simplifier.now c.args.store.now.slots
    (g.S.Sink.lines c.args.sink.now)
    → IsSimplified start (record c.args.simplifier.now {
      marks = c.resolve.new.marks;
      clause = c.resolve.new.out;
    }) c.args.store.now.slots (g.S.Sink.lines c.args.sink.now)
built g c start h =
    simplified_beside start c.args.simplifier.now c.resolve.new.marks c.resolve.new.out
    c.args.simplifier.now.schedule c.args.store.now.slots (g.S.Sink.lines c.args.sink.now)
    c.resolve.ensures.len h

pub returns-then-not-is_plain-clause-passes : goal.returns-then-not-is_plain-clause-passes
returns-then-not-is_plain-clause-passes g c =
    built g (goal.at.returns-then-not-is_plain-clause-passes g c).After-resolve

pub returns-then-not-is_plain-clause-grows : goal.returns-then-not-is_plain-clause-grows
returns-then-not-is_plain-clause-grows g c = record {
  kept = λ _ _ e. e;
  came = λ _ _ e. inl e;
}

pub returns-then-not-is_plain-clause-none : goal.returns-then-not-is_plain-clause-none
returns-then-not-is_plain-clause-none g c _ = c.requires.is_open.going

pub add-requires-clause-is_open : goal.add-requires-clause-is_open
add-requires-clause-is_open g c =
    let h = c.requires.is_open.simplified in
    record {
      simplified = (
        h.0,
        built g (goal.at.add-requires-clause-is_open g c).After-resolve h.0 h.1,
      );
      going = c.requires.is_open.going;
    }

pub returns-clause-passes : goal.returns-clause-passes
returns-clause-passes g c start h =
    c.in_ok-reference.ensures.passes start
    (built g (goal.at.returns-clause-passes g c).After-resolve start h)
