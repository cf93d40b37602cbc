-- The ends of a search over the hard clauses alone.
use Rattle.std.proofs.Common.{◌≡◌, ℕ, ◌+◌, Bool, List, [], ◌∷◌, ◌++◌, length, inl, refl, sym, ◌∙◌}
use Rattle.std.proofs.Common.{ap, subst, arith}
use Rattle.std.specs.Prelude.{All}
use Rattle.std.proofs.lemmas.List.{length-map}
use Rattle.std.proofs.lemmas.List.Elements.{All-map}
use Rattle.cnf.specs.Literal.{Literal, Assignment}
use Rattle.cnf.specs.Clause.{Satisfies}
use Rattle.cnf.specs.Bits.{Extends, assignment_of}
use Rattle.cnf.specs.Problem.{Problem, IsFeasible}
use Rattle.cnf.specs.Refute.{IsRefutedByHints}
use Rattle.cnf.specs.Lrat.{Addition, start_of, with_clause}
use Rattle.cnf.proofs.Laws.{certificate_sound, extends_own}
use Rattle.lrat_log.specs.declared.lines.Name.{Name}
use Rattle.lrat_log.specs.Log.{LogLine, numbered_lines, clauses_in}
use Rattle.lrat_log.specs.Steps.{IsLogOver, IsAcceptedLog, IsBaseOf, AddsNoEmptyClause, LearnsNew}
use Rattle.lrat_log.specs.Steps.{nothing_exempt, learned_count}
use Rattle.lrat_log.proofs.Laws.{base_of, clauses_given, accepts_of_log, steps_of_log, first_new}
use Rattle.adder.specs.declared.profiles.Profile.{Profile}
use Rattle.bound.specs.Bound.{hard_cnf}
use Rattle.bound.proofs.Laws.{feasible, hard_few}
use Rattle.cdcl.specs.Solving.{given_to, SatisfyGiven, SameGiven, IsPlainlyRefuted, lines_since}
use Rattle.improve.specs.Improving.{IsHardLog, IsRightFound}
use Rattle.improve_found.specs.Solutions.{AreFeasible}
use Rattle.improve.specs.Bounds.{LogSolver, IsOverHard}
use Rattle.improve_found.specs.declared.found.Work.{Work}
use Rattle.improve_found.specs.declared.found.Found.TheVariants.{Unsat, Nothing}
use Rattle.improve.proofs.CheaperBits.{same_given, learned_more}

-- a log without lines is one
pub hard_none : (p : Problem) (log : List LogLine) → log ≡ [] → IsHardLog p log
hard_none p log e =
    subst (IsHardLog p) (sym e) (record { steps = refl; open_end = tt }, tt)

-- hints that refute would make a certificate of one line
hints_refute : (cs : List (List Literal)) → IsRefutedByHints cs → (t : Assignment)
    → All (Satisfies t) cs → ⊥
hints_refute cs h =
    certificate_sound cs (Addition (length cs + 1) [] h.0 [] ∷ []) (record {
      front = [];
      final = Addition (length cs + 1) [] h.0 [];
      split = refl;
      ends = refl;
      not_before = tt;
      left = with_clause (start_of cs) (length cs + 1) [];
      chain = (
        with_clause (start_of cs) (length cs + 1) [],
        (
          record {
            rising = omega arith;
            no_repeat = refl;
            no_tautology = refl;
            small = omega arith;
          },
          inl (refl, h.1),
          refl,
        ),
        refl,
      );
    })

-- hints do not refute what a solution satisfies
pub solved_open : (p : Problem) (bits : List Bool) → AreFeasible p bits
    → IsRefutedByHints (hard_cnf p).clauses → ⊥
solved_open p bits h r =
    hints_refute (hard_cnf p).clauses r (assignment_of bits)
    ((feasible p (assignment_of bits)).1 (h.1 (assignment_of bits) (extends_own bits)))

module _ (p : Problem) (old : LogSolver) (h : IsOverHard p old) where
  pub hard_feasible : (bits : List Bool) → SatisfyGiven bits (given_to old) → (t : Assignment)
      → Extends bits t → IsFeasible p t
  hard_feasible bits sat t x =
      (feasible p t).0 (subst (All (Satisfies t)) (ap clauses_in h.given
      ∙ clauses_given (hard_cnf p).clauses)
      (All-map (Satisfies t) (λ (g : Name × List Literal). g.1) (given_to old) (sat t x)))

  pub hard_log : (new : LogSolver) → SameGiven old new → IsLogOver (given_to new) new.sink
      → AddsNoEmptyClause new.sink → new.sink ≡ old.sink ++ lines_since old.sink new.sink
      → ((base : ℕ) → IsBaseOf (given_to old) base
      → LearnsNew nothing_exempt (given_to old) base old.sink (lines_since old.sink new.sink))
      → IsHardLog p new.sink
  hard_log new same log free grows fresh =
      let cs : List (List Literal) = (hard_cnf p).clauses in
      let base : IsBaseOf (given_to old) (length (hard_cnf p).clauses) =
      subst (λ g. IsBaseOf g (length (hard_cnf p).clauses)) (sym h.given)
      (base_of cs (length cs) (omega arith)) in (
        record {
          steps = steps_of_log cs new.sink
              (subst (λ g. IsLogOver g new.sink) (sym (same_given old new same) ∙ h.given) log);
          open_end = free;
        },
        subst (λ g. LearnsNew nothing_exempt g (length (hard_cnf p).clauses) [] new.sink) h.given
            (first_new nothing_exempt (given_to old) (length cs) old.sink
            (lines_since old.sink new.sink) new.sink h.learned grows (fresh (length cs) base)),
      )

  pub right_unsat : (profile : Profile) (log : List LogLine) (count : ℕ)
      → IsAcceptedLog (given_to old) log → count ≡ length (given_to old)
      → IsRightFound profile p [] (Unsat log count)
  right_unsat profile log count a e =
      let accepted =
      accepts_of_log (hard_cnf p).clauses log (subst (λ g. IsAcceptedLog g log) h.given a) in
      record {
        none_told = refl;
        inconsistent =
            λ t f. certificate_sound (hard_cnf p).clauses
            (numbered_lines (length (hard_cnf p).clauses) log) accepted t ((feasible p t).1 f);
        accepted = accepted;
        counted = (same, omega (arith, same, hard_few p h.instance));
      }
    where
      same : count ≡ length (hard_cnf p).clauses
      same =
          e ∙ sym (length-map (given_to old) (λ (g : Name × List Literal). g.1))
          ∙ ap length (ap clauses_in h.given ∙ clauses_given (hard_cnf p).clauses)

  pub plainly_open : (IsPlainlyRefuted old → ⊥) → IsRefutedByHints (hard_cnf p).clauses → ⊥
  plainly_open free r =
      free (inl (subst IsRefutedByHints (sym (ap (λ f. f.clauses) h.formula)) r))

  -- what was learned in the first search
  pub hard_learned : (new : List LogLine) (before after : ℕ)
      → new ≡ old.sink ++ lines_since old.sink new
      → after ≡ before + learned_count (lines_since old.sink new)
      → after ≡ before + learned_count new
  hard_learned new before after e l =
      omega (arith, learned_more old.sink new before after e l, h.learned)

-- nothing was found
pub right_nothing : (profile : Profile) (p : Problem) (work : Work) → work.bound ≡ []
    → IsHardLog p work.hard → (IsRefutedByHints (hard_cnf p).clauses → ⊥)
    → IsRightFound profile p [] (Nothing work)
right_nothing profile p work none log free =
    record { none_told = refl; not_refuted = free; hard = log; no_bound = none }
