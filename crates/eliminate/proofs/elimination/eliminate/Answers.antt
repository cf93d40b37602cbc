-- The store that is left is a simplified form of the formula.
use Rattle.std.proofs.Common.{◌≡◌, ◌∙◌, false, List, Bool, Some, length, map, sym, ap, subst, refl}
use Rattle.std.specs.Prelude.{[], All, Contains}
use Rattle.cnf.specs.Literal.{Literal}
use Rattle.cnf.specs.Formula.{IsFormulaClause}
use Rattle.cnf.specs.Bits.{assignment_of}
use Rattle.clauses.specs.Slots.{Slots, live_clauses}
use Rattle.clauses.proofs.Laws.{live_map, all_live}
use Rattle.lrat_log.specs.Log.{LogLine}
use Rattle.lrat_log.specs.Steps.{given_of, StaysLogOver, log_live, learned_count}
use Rattle.eliminate_names.specs.Work.{NamesState}
use Rattle.eliminate_pairs.specs.Pairs.{stage_of}
use Rattle.eliminate.specs.Elimination.{AreFreeOf, SatisfiesAll}
use Rattle.reconstruction.specs.Removals.{is_eliminated}
use Rattle.eliminate.specs.Ending.{IsResult}
use Rattle.eliminate.specs.State.{Start}
use Rattle.eliminate.specs.Simplifier.{IsSimplified}
use Rattle.eliminate.proofs.Listed.{together_holds}
use Rattle.eliminate.proofs.Starting.{stays_start}
use Rattle.eliminate.proofs.elimination.eliminate.Given.{Over}
use Rattle.eliminate.proofs.elimination.eliminate.Goals as goal
use Rattle.eliminate.proofs.elimination.eliminate.Goals.{In_ok-simplifier, In-Ok}
use Rattle.eliminate.proofs.elimination.eliminate.Goals.{After-move_together}

abbrev start_of : Slots → List Bool → Start
start_of slots frozen = record { clauses = live_clauses slots; frozen = frozen }

-- the tables are a simplified form at first
tables : (g : Over) (c : In_ok-simplifier g)
    → IsSimplified (start_of c.args.store.now.slots c.args.frozen.now) c.in_ok-simplifier.simplifier
    c.args.store.now.slots (g.S.Sink.lines c.args.sink.now)
tables g c =
    subst (λ (ls : List LogLine). IsSimplified (start_of c.args.store.now.slots c.args.frozen.now)
    c.in_ok-simplifier.simplifier c.args.store.now.slots ls) (sym c.requires.empty)
    (c.in_ok-simplifier.ensures.simplified c.args.frozen.now refl)

-- and what the passes leave is a result
ended : (g : Over) (c : In-Ok g)
    → IsResult (start_of c.args.store.now.slots c.args.frozen.now)
    c.run_passes.new.simplifier.removals
    (stage_of c.in-Ok.vars c.run_passes.new.store.slots
    c.run_passes.new.simplifier.names (g.S.Sink.lines c.run_passes.new.sink))
ended g c = c.in-Ok.ensures.result (start_of c.args.store.now.slots c.args.frozen.now) refl
    (tables g (goal.at.In-Ok g c).In_ok-simplifier)

pub run_passes-requires : goal.run_passes-requires
run_passes-requires g c = record {
  simplified = (
    start_of c.args.store.now.slots c.args.frozen.now,
    refl,
    tables g (goal.at.run_passes-requires g c).In_ok-simplifier,
  );
  going = c.in_ok-simplifier.ensures.going;
}

pub returns-in_err-simplifier-clause-lines : goal.returns-in_err-simplifier-clause-lines
returns-in_err-simplifier-clause-lines g c =
    subst (StaysLogOver (length c.args.frozen.now) (given_of (live_clauses c.args.store.now.slots)))
    (sym c.requires.empty)
    (stays_start (length c.args.frozen.now) (given_of (live_clauses c.args.store.now.slots)))

pub returns-in_err-simplifier-clause-none_learned
    : goal.returns-in_err-simplifier-clause-none_learned
returns-in_err-simplifier-clause-none_learned g c = ap learned_count c.requires.empty

pub returns-in-Err-clause-lines : goal.returns-in-Err-clause-lines
returns-in-Err-clause-lines g c =
    (c.in-Err.ensures.err (start_of c.args.store.now.slots c.args.frozen.now) refl
    (tables g (goal.at.returns-in-Err-clause-lines g c).In_ok-simplifier)).0

pub returns-in-Err-clause-none_learned : goal.returns-in-Err-clause-none_learned
returns-in-Err-clause-none_learned g c =
    (c.in-Err.ensures.err (start_of c.args.store.now.slots c.args.frozen.now) refl
    (tables g (goal.at.returns-in-Err-clause-none_learned g c).In_ok-simplifier)).1

pub returns-clause-lines : goal.returns-clause-lines
returns-clause-lines g c = (ended g (goal.at.returns-clause-lines g c).In-Ok).work.log

pub returns-clause-none_learned : goal.returns-clause-none_learned
returns-clause-none_learned g c =
    (ended g (goal.at.returns-clause-none_learned g c).In-Ok).work.none_learned

pub move_together-requires : goal.move_together-requires
move_together-requires g c =
    (ended g (goal.at.move_together-requires g c).In-Ok).work.named.long

pub returns-in-Err-into_packed-clause-lines : goal.returns-in-Err-into_packed-clause-lines
returns-in-Err-into_packed-clause-lines g c =
    (ended g (goal.at.returns-in-Err-into_packed-clause-lines g c).In-Ok).work.log

pub returns-in-Err-into_packed-clause-none_learned
    : goal.returns-in-Err-into_packed-clause-none_learned
returns-in-Err-into_packed-clause-none_learned g c =
    (ended g (goal.at.returns-in-Err-into_packed-clause-none_learned g c).In-Ok).work.none_learned

-- what was left has its clauses still
same_clauses : (g : Over) (c : After-move_together g)
    → live_clauses c.move_together.new.store.slots ≡ live_clauses
    c.run_passes.new.store.slots
same_clauses g c = ap live_clauses c.move_together.ensures.slots
    ∙ live_map (live_clauses c.run_passes.new.store.slots)

pub returns-clause-leaves : goal.returns-clause-leaves
returns-clause-leaves g c =
    let k = ended g (goal.at.returns-clause-leaves g c).In-Ok in
    let removed = c.run_passes.new.simplifier.removals in
    let slots = c.run_passes.new.store.slots in
    let same = same_clauses g (goal.at.returns-clause-leaves g c).After-move_together in
    rw (c.new-2.ensures, c.into_left-names.ensures.removals)
    record {
      together = c.move_together.ensures.slots ∙ ap (map Some) (sym same);
      live =
          λ base above. together_holds slots c.move_together.new.store.slots
          c.run_passes.new.simplifier.names.names c.in-Ok-into_packed.names.items base _
          (log_live (given_of (live_clauses c.args.store.now.slots)) base
          (g.S.Sink.lines c.run_passes.new.sink)) k.work.named.numbers k.work.named.long
          c.move_together.ensures.slots
          (c.in-Ok-into_packed.ensures ∙ ap (λ (n : NamesState). n.names)
          (c.into_left-names.ensures.names ∙ c.move_together.ensures.names))
          (k.work.named.live base above);
      left =
          subst (All (IsFormulaClause c.in-Ok.vars)) (sym same)
          (all_live (IsFormulaClause c.in-Ok.vars) slots k.work.clauses);
      variables = (k.more, k.fresh);
      free =
          subst (AreFreeOf removed) (sym same)
          (all_live (λ (d : List Literal). All
          (λ (l : Literal). is_eliminated removed l.variable ≡ false) d) slots k.free);
      not_frozen = k.not_frozen;
      back =
          λ bits few all. k.back bits few
          (subst (SatisfiesAll (assignment_of bits)) same all);
      refuted =
          λ works. subst (λ (cs : List (List Literal)). Contains cs []) (sym same)
          (c.in-Ok.ensures.refuted works);
    }

pub new-requires-2 : goal.new-requires-2
new-requires-2 g c = rw c.into_left-names.ensures.removals
    (ended g (goal.at.new-requires-2 g c).In-Ok).within
