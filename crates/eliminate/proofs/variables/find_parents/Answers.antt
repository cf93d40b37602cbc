-- The clauses with the variable are live.
use Rattle.std.proofs.Common.{◌∙◌, List, ℕ, length, sym, subst}
use Rattle.std.specs.Prelude.{All}
use Rattle.cnf.specs.Literal.{Literal}
use Rattle.cnf.specs.Marks.{HasPlace}
use Rattle.clauses.specs.Slots.{IsLive}
use Rattle.eliminate.specs.declared.simplifier.Simplifier.{Simplifier}
use Rattle.eliminate_tables.specs.Bins.{ArePlaced}
use Rattle.eliminate.specs.Simplifier.{KeepsForm}
use Rattle.eliminate.specs.Variables.{AreThoseWith}
use Rattle.eliminate.proofs.Growing.{those_live}
use Rattle.eliminate.proofs.Tables.{simplified_beside}
use Rattle.eliminate.proofs.variables.find_parents.Goals as goal
use Rattle.eliminate.proofs.variables.find_parents.Goals.{After-gather-2}

pub is_worthwhile-is_worthwhile-requires-clause-live
    : goal.is_worthwhile-is_worthwhile-requires-clause-live
is_worthwhile-is_worthwhile-requires-clause-live c =
    subst (λ (rs : List ℕ). All (IsLive c.args.store.now.slots) rs) (sym c.deref.ensures.value)
    (those_live c.args.parents.now.pivot c.args.store.now.slots c.gather.new.references.items
    c.in_ok-gather.ensures.gathered)

pub is_worthwhile-is_worthwhile-requires-clause-live_too
    : goal.is_worthwhile-is_worthwhile-requires-clause-live_too
is_worthwhile-is_worthwhile-requires-clause-live_too c =
    subst (λ (rs : List ℕ). All (IsLive c.args.store.now.slots) rs) (sym c.deref-2.ensures.value)
    (those_live c.negation.result c.args.store.now.slots c.gather-2.new.references.items
    c.in_ok-gather-2.ensures.gathered)

-- the form after both were gathered
gathered : (c : After-gather-2) → KeepsForm c.args.simplifier.now c.gather-2.new.simplifier
    c.args.store.now.slots
gathered c =
    let one = c.gather.ensures.form in
    let both = c.gather-2.ensures.form in
    record {
      stays = λ lines start h. both.stays lines start (one.stays lines start h);
      refuted = both.refuted ∙ one.refuted;
    }

pub gather-requires-2-clause-place : goal.gather-requires-2-clause-place
gather-requires-2-clause-place c =
    subst (λ n. HasPlace n c.negation.result) (sym c.gather.ensures.places)
    (subst (HasPlace (length c.args.simplifier.now.occurrences.rows)) (sym c.negation.ensures)
    c.requires.place)

pub returns-in_err-gather-2-clause-form : goal.returns-in_err-gather-2-clause-form
returns-in_err-gather-2-clause-form c =
    gathered (goal.at.returns-in_err-gather-2-clause-form c).After-gather-2

pub is_worthwhile-is_worthwhile-requires-clause-placed
    : goal.is_worthwhile-is_worthwhile-requires-clause-placed
is_worthwhile-is_worthwhile-requires-clause-placed c =
    subst (λ n. ArePlaced n c.args.store.now.slots)
    (sym (c.gather-2.ensures.marks ∙ c.gather.ensures.marks)) c.requires.placed

pub returns-clause-form : goal.returns-clause-form
returns-clause-form c =
    let k = gathered (goal.at.returns-clause-form c).After-gather-2 in
    let s : Simplifier = c.gather-2.new.simplifier in
    record {
      stays = λ lines start h. simplified_beside start s c.is_worthwhile-is_worthwhile.new.marks
          s.clause s.schedule c.args.store.now.slots lines
          c.is_worthwhile-is_worthwhile.ensures.len (k.stays lines start h);
      refuted = k.refuted;
    }

pub returns-clause-positive : goal.returns-clause-positive
returns-clause-positive c good = c.in_ok-gather.ensures.gathered

pub returns-clause-negative : goal.returns-clause-negative
returns-clause-negative c good =
    subst (λ (l : Literal). AreThoseWith l c.args.store.now.slots
    c.gather-2.new.references.items) c.negation.ensures c.in_ok-gather-2.ensures.gathered
