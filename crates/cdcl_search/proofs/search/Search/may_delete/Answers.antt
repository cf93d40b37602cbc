use Rattle.std.proofs.Common.{◌≡◌, ℕ, Bool, Some, true, false, not, length, get_or, refl, sym, ◌∙◌}
use Rattle.std.proofs.Common.{ap, arith}
use Rattle.std.proofs.lemmas.Bool.{ltb-true}
use Rattle.std.proofs.lemmas.List.Elements.{recursion_from_All}
use Rattle.cnf.specs.Literal.{Literal}
use Rattle.clauses.specs.Slots.{clause_at}
use Rattle.propagate.specs.Trail.{reason_in}
use Rattle.propagate.proofs.Laws.{attached_within, within_all}
use Rattle.analyze.proofs.Laws.{no_reason}
use Rattle.lrat_log.specs.declared.lines.Name.{Name}
use Rattle.cdcl_search.specs.Invariant.{is_kept_name}
use Rattle.cdcl_search.proofs.Places.{live_within}
use Rattle.cdcl_search.proofs.Deleting.{named_at}
use Rattle.cdcl_search.proofs.search.Search.may_delete.Goals as goal
use Rattle.cdcl_search.proofs.search.Search.may_delete.Goals.{then-lits-gt2, else-lits-gt2}

pub is_reason-requires : goal.is_reason-requires
is_reason-requires c =
    let s = c.args.self.now in
    let lits = c.lits-lits.result.now in
    let live = c.lits-lits.ensures in
    let within =
    attached_within s.engine s.store.slots c.args.reference lits c.requires.searches.fits
    (c.requires.searches.all_attached c.args.reference (lits, live)) live in
    within_all s.engine.variables lits within.1

not_true : (b : Bool) → not b ≡ true → b ≡ false
not_true true e = absurd (cc)
not_true false e = refl

pub returns-then-not-is_kept : goal.returns-then-not-is_kept
returns-then-not-is_kept c e =
    let s = c.args.self.now in
    let lits = c.lits-lits.result.now in
    let live = c.lits-lits.ensures in
    let r = c.args.reference in
    let none = c.is_reason.ensures (not_true c.is_reason.result e) in
    let free =
    no_reason (clause_at s.store.slots) s.engine.trail r lits c.requires.searches.fits.reasons
    live (recursion_from_All (λ (l : Literal). reason_in s.engine.trail l.variable ≡ Some r
    → ⊥) lits none) in
    let room = live_within s.store.slots r lits live in
    let name =
    λ (i : ℕ) (n : Name) (e : i ≡ r) (f : n ≡ get_or s.names.items i n). named_at s.names.items i
    r n e f (omega (arith, c.requires.named)) in
    elim c.if-lits-gt2.branch [
      | then-lits-gt2 w ↦ record {
        clause = lits;
        live = live;
        long = omega (arith, w.if-lits-gt2.true);
        learned =
            ap (is_kept_name s.kept)
            (sym (w.name.ensures ∙ name w.index.result w.index-then-lits-gt2.result.now
            w.index.ensures w.index-then-lits-gt2.ensures)) ∙ sym w.is_kept.ensures
            ∙ not_true w.is_kept.result (sym w.value-is ∙ c.if-not-is_kept.true);
        no_reason = free;
      }
      | else-lits-gt2 w ↦
          absurd (let over = ltb-true 2 (length lits) (sym (sym c.if-not-is_kept.true ∙ w.value-is))
          in omega (arith, w.if-lits-gt2.false))
    ]
