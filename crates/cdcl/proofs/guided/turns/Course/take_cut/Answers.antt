use Rattle.std.proofs.Common.{◌≡◌, ◌+◌, ◌<◌, List, [], ◌∷◌, ◌++◌, length, refl, sym, ◌∙◌, subst}
use Rattle.std.proofs.Common.{arith}
use Rattle.std.proofs.lemmas.Bool.{eqb-true, eqb-false}
use Rattle.std.proofs.lemmas.List.{nil_from_length}
use Rattle.cnf.specs.Literal.{Literal}
use Rattle.propagate.specs.Fits.{IsWithin}
use Rattle.lrat_log.specs.Log.{axiom_line}
use Rattle.lrat_log.specs.Axioms.{IsNewClause}
use Rattle.cdcl_search.specs.Running.{IsEnded, Runs, StaysOpen}
use Rattle.cdcl_search.proofs.Laws.{axiom_ends, axiom_stays}
use Rattle.cdcl.specs.Guiding.{PaysOpen}
use Rattle.cdcl.proofs.Rounds.{goes_paid, open_log}
use Rattle.cdcl.proofs.Guiding.{cut_refused, cut_fails, paid_axiom, paid_nothing}
use Rattle.cdcl.proofs.Guiding.{waived_of}
use Rattle.cdcl.proofs.guided.turns.Course.take_cut.Goals as goal

pub returns-in_err-make_room-clause-taking : goal.returns-in_err-make_room-clause-taking
returns-in_err-make_room-clause-taking g c =
    let o = c.args.self.now in
    let s = o.search.now in
    let p = o.input.now in
    let b = o.budget.now in
    let ls = g.S.Sink.lines o.sink.now in
    cut_fails c.from_residual.result s s p ls ls b b c.from_residual.ensures.0
    (open_log s p ls c.requires.runs) (paid_nothing p.given ls b) refl

pub returns-then-not-are_apart-clause-taking : goal.returns-then-not-are_apart-clause-taking
returns-then-not-are_apart-clause-taking g c =
    let o = c.args.self.now in
    let ls = g.S.Sink.lines o.sink.now in
    cut_refused o.search.now o.input.now ls ls o.budget.now refl

pub returns-in_err-taken-clause-taking : goal.returns-in_err-taken-clause-taking
returns-in_err-taken-clause-taking g c =
    let o = c.args.self.now in
    let s = o.search.now in
    let p = o.input.now in
    let b = o.budget.now in
    let ls = g.S.Sink.lines o.sink.now in
    let more = g.S.Sink.lines c.cut.new.self in
    let same = c.in_err-taken.ensures.err in
    cut_fails c.from_residual-in_err-taken.result s s p ls more b b
    c.from_residual-in_err-taken.ensures.0
    (subst (StaysOpen p) (sym same) (open_log s p ls c.requires.runs))
    (subst (λ x. PaysOpen p.given ls x b b) (sym same) (paid_nothing p.given ls b)) refl

pub returns-then-not-taken-clause-taking : goal.returns-then-not-taken-clause-taking
returns-then-not-taken-clause-taking g c =
    let o = c.args.self.now in
    cut_refused o.search.now o.input.now (g.S.Sink.lines o.sink.now)
    (g.S.Sink.lines c.cut.new.self) o.budget.now
    (c.in_ok-taken.ensures.refused c.if-not-taken.true)

pub returns-then-is_empty-clause-taking : goal.returns-then-is_empty-clause-taking
returns-then-is_empty-clause-taking g c =
    let o = c.args.self.now in
    let s = o.search.now in
    let p = o.input.now in
    let ls = g.S.Sink.lines o.sink.now in
    let lits = c.args.lits.now in
    let lines = c.in_ok-taken.ensures.taken c.if-not-taken.false in
    let b = o.budget.now in
    let none : lits ≡ [] =
    nil_from_length lits
    (eqb-true (length lits) 0 (sym c.is_empty.ensures ∙ c.if-is_empty.true)) in
    let new = c.are_apart.ensures.new c.if-not-are_apart.false in
    record {
      takes =
          subst (IsEnded p) (sym lines)
          (subst (λ (x : List Literal). IsEnded p (ls ++ axiom_line x ∷ [])) (sym none)
          (axiom_ends s p ls c.requires.runs (subst IsNewClause none new)));
      pays =
          paid_axiom p.given ls (g.S.Sink.lines c.cut.new.self) lits b
          c.count_learned.new.self lines c.count_learned.ensures;
      kept = waived_of b c.count_learned.new.self (b.learned + 1) c.count_learned.ensures;
      err = tt;
    }

pub returns-in_err-take_axiom-clause-taking : goal.returns-in_err-take_axiom-clause-taking
returns-in_err-take_axiom-clause-taking g c =
    let o = c.args.self.now in
    let s = o.search.now in
    let p = o.input.now in
    let ls = g.S.Sink.lines o.sink.now in
    let more = g.S.Sink.lines c.cut.new.self in
    let lits = c.args.lits.now in
    let lines = c.in_ok-taken.ensures.taken c.if-not-taken.false in
    let long = eqb-false (length lits) 0 (sym c.is_empty.ensures ∙ c.if-is_empty.false) in
    let some : 0 < length lits = omega (arith, long) in
    cut_fails c.from_residual-in_err-take_axiom.result s c.take_axiom.new.search p ls more
    o.budget.now c.count_learned.new.self c.from_residual-in_err-take_axiom.ensures.0
    (subst (StaysOpen p) (sym lines) (axiom_stays s p ls lits c.requires.runs some
    (c.are_apart.ensures.new c.if-not-are_apart.false)))
    (paid_axiom p.given ls more lits o.budget.now c.count_learned.new.self lines
    c.count_learned.ensures)
    (waived_of o.budget.now c.count_learned.new.self (o.budget.now.learned + 1)
    c.count_learned.ensures)

pub returns-clause-taking : goal.returns-clause-taking
returns-clause-taking g c =
    let o = c.args.self.now in
    let s = o.search.now in
    let p = o.input.now in
    let b = o.budget.now in
    let ls = g.S.Sink.lines o.sink.now in
    let more = g.S.Sink.lines c.cut.new.self in
    let lines = c.in_ok-taken.ensures.taken c.if-not-taken.false in
    let e = c.in_ok-take_axiom.ensures in
    record {
      takes =
          goes_paid s c.take_axiom.new.search p more b c.count_learned.new.self
          (subst (Runs c.take_axiom.new.search p) (sym lines) (e.takes p ls c.requires.runs))
          e.variables c.count_learned.ensures c.requires.left;
      pays =
          paid_axiom p.given ls more c.args.lits.now b c.count_learned.new.self lines
          c.count_learned.ensures;
      kept = waived_of b c.count_learned.new.self (b.learned + 1) c.count_learned.ensures;
      err = tt;
    }

pub take_axiom-requires-clause-new : goal.take_axiom-requires-clause-new
take_axiom-requires-clause-new g c = c.are_apart.ensures.new c.if-not-are_apart.false

pub take_axiom-requires-clause-some : goal.take_axiom-requires-clause-some
take_axiom-requires-clause-some g c =
    let long =
    eqb-false (length c.args.lits.now) 0 (sym c.is_empty.ensures ∙ c.if-is_empty.false) in
    omega (arith, long)

pub take_axiom-requires-clause-can : goal.take_axiom-requires-clause-can
take_axiom-requires-clause-can g c =
    let runs = c.requires.runs in
    record {
      ready = record {
        searches = runs.running.searches;
        room = runs.room;
        named = runs.running.recorded.names.as_many;
      };
      within =
          subst (λ v. IsWithin v c.args.lits.now) c.variables-variables.ensures
          (c.are_apart.ensures.within c.if-not-are_apart.false);
    }
