use Rattle.std.proofs.Common.{sym, ◌∙◌, subst}
use Rattle.propagate.specs.Fits.{HasTrue, IsWithin}
use Rattle.cdcl_search.specs.Invariant.{zero_of}
use Rattle.cdcl_search.specs.Cores.{HasSubset, HasNoSubset}
use Rattle.cdcl_search.proofs.CoreLines.{core_within, core_from, core_negated, core_untrue}
use Rattle.cdcl_search.proofs.search.Search.explain.Goals as goal

pub find-requires-clause-within : goal.find-requires-clause-within
find-requires-clause-within c =
    let s = c.args.self.now in
    subst (IsWithin s.engine.variables) (sym c.as_slice-lits.ensures.value)
    (core_within s.engine s.store.slots c.args.falsified c.args.reason c.in_ok-clause.clause
    c.requires.ready.searches.fits c.requires.falsified c.requires.small
    c.in_ok-clause.ensures.learns)

pub find-requires-clause-untrue : goal.find-requires-clause-untrue
find-requires-clause-untrue c =
    let s = c.args.self.now in
    subst (λ x. HasTrue x (zero_of s.engine.trail) → ⊥) (sym c.as_slice-lits.ensures.value)
    (core_untrue s.store.slots s.engine.trail c.args.falsified c.args.reason c.in_ok-clause.clause
    c.requires.ready.searches.fits.reasons c.requires.falsified c.in_ok-clause.ensures.learns)

pub returns-then-branch-clause-refusal : goal.returns-then-branch-clause-refusal
returns-then-branch-clause-refusal c =
    let s = c.args.self.now in
    let lits = c.as_slice-lits.result.now in
    let core = c.in_ok-core.core.items in
    record {
      assumed = core_from s.store.slots s.engine.trail c.args.falsified c.args.reason
          c.in_ok-clause.clause c.args.assumptions.now lits core c.in_ok-clause.ensures.learns
          c.requires.assumed c.as_slice-lits.ensures.value
          (c.are_assumed.ensures c.if-not-are_assumed.false) c.in_ok-core.ensures;
      shown = subst (HasSubset s.store.slots) (sym (core_negated lits core c.in_ok-core.ensures))
          (c.in_ok-find.ensures.some c.if-branch.true);
    }

pub returns-clause-refusal : goal.returns-clause-refusal
returns-clause-refusal c =
    let s = c.args.self.now in
    let lits = c.as_slice-lits.result.now in
    let core = c.in_ok-core.core.items in
    record {
      assumed = core_from s.store.slots s.engine.trail c.args.falsified c.args.reason
          c.in_ok-clause.clause c.args.assumptions.now lits core c.in_ok-clause.ensures.learns
          c.requires.assumed c.as_slice-lits.ensures.value
          (c.are_assumed.ensures c.if-not-are_assumed.false) c.in_ok-core.ensures;
      lesson = record {
        literal = c.args.falsified;
        reason = c.args.reason;
        falsified = c.requires.falsified;
        small = c.requires.small;
        final = c.in_ok-clause.ensures.learns;
        new = subst (HasNoSubset s.store.slots) c.as_slice-lits.ensures.value
            (c.in_ok-find.ensures.none c.if-branch.false);
      };
      negated = core_negated lits core c.in_ok-core.ensures ∙ c.as_slice-lits.ensures.value;
    }
