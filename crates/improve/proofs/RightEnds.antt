-- An end is right: an accepted log over the formula for the last bound shows an optimum.
use Rattle.std.proofs.Common.{◌≡◌, ℕ, ◌+◌, ◌<◌, Bool, List, [], ◌∷◌, ◌++◌, length, map, refl, sym}
use Rattle.std.proofs.Common.{◌∙◌, ap, subst, arith, inl, inr}
use Rattle.std.specs.List.{flat_map}
use Rattle.std.proofs.lemmas.Bool.{cases_lt}
use Rattle.std.proofs.lemmas.List.{length-map}
use Rattle.std.specs.declared.vec.Vec.{Vec}
use Rattle.std.specs.declared.alloc.Global.{Global}
use Rattle.cnf.specs.Literal.{Assignment}
use Rattle.cnf.specs.Bits.{Extends}
use Rattle.cnf.specs.Problem.{Problem, IsOptimal}
use Rattle.cnf.specs.Instance.{IsInstance}
use Rattle.cnf.proofs.Laws.{certificate_sound}
use Rattle.lrat_log.specs.Log.{LogLine, numbered_lines}
use Rattle.lrat_log.specs.Steps.{IsAcceptedLog, AddsNoEmptyClause, LearnsNew, is_later, given_of}
use Rattle.lrat_log.specs.Rebase.{weaker_line, moved_line, rebased}
use Rattle.lrat_log.proofs.Laws.{accepts_of_log, steps_of_log}
use Rattle.adder.specs.declared.profiles.Profile.{Profile}
use Rattle.bound.specs.Bound.{bound_as, fixed_clauses, comparator_for}
use Rattle.bound.proofs.Laws.{says_cheaper, clauses_few}
use Rattle.cdcl.specs.Solving.{given_to}
use Rattle.improve_found.specs.Solutions.{IsSolution}
use Rattle.improve_found.specs.Progress.{EndsWith, AreFalling}
use Rattle.improve.specs.Improving.{IsAcceptedOver, IsHardLog, IsRightFound, BeginsWithWeaker}
use Rattle.improve.specs.Improving.{but_last, weaker_for}
use Rattle.improve.specs.Weaker.{first_subset, weaker_among}
use Rattle.improve.specs.Bounds.{IsOver, BoundLog}
use Rattle.improve.specs.declared.bounds.Bounds.{Bounds}
use Rattle.improve_found.specs.declared.found.Found.TheVariants.{Optimum, Best}
use Rattle.improve_found.specs.declared.found.Work.{Work}

but_last-end : (before : List ℕ) (c : ℕ) → but_last (before ++ c ∷ []) ≡ before
but_last-end [] c = refl
but_last-end (d ∷ []) c = refl
but_last-end (d ∷ e ∷ ds) c = ap (λ x. d ∷ x) (but_last-end (e ∷ ds) c)

weaker_for-last : (profile : Profile) (p : Problem) (costs before : List ℕ) (c : ℕ)
    → costs ≡ before ++ c ∷ []
    → weaker_for profile p costs c ≡ weaker_among (length (fixed_clauses profile p) + 1)
    (comparator_for profile p c) (flat_map (comparator_for profile p) before)
weaker_for-last profile p costs before c e =
    ap (λ x. weaker_among (length (fixed_clauses profile p) + 1) (comparator_for profile p c)
    (flat_map (comparator_for profile p) x)) (ap but_last e ∙ but_last-end before c)

begins : (profile : Profile) (p : Problem) (costs before : List ℕ) (c : ℕ) (sink log : List LogLine)
    → costs ≡ before ++ c ∷ []
    → log ≡ rebased (length (fixed_clauses profile p))
    (weaker_among (length (fixed_clauses profile p) + 1) (comparator_for profile p c)
    (flat_map (comparator_for profile p) before)) sink
    → BeginsWithWeaker profile p costs c log
begins profile p costs before c sink log e is =
    let W = weaker_among (length (fixed_clauses profile p) + 1) (comparator_for profile p c)
    (flat_map (comparator_for profile p) before) in
    let moved = map (moved_line (length (fixed_clauses profile p)) (length W)) sink in (
      moved,
      is ∙ ap (λ w. map weaker_line w ++ moved)
          (sym (weaker_for-last profile p costs before c e)),
    )

weaker_count : (profile : Profile) (p : Problem) (costs before : List ℕ) (c : ℕ)
    → costs ≡ before ++ c ∷ [] → length (flat_map (comparator_for profile p) before)
    ≡ length (weaker_for profile p costs c)
weaker_count profile p costs before c e =
    sym (length-map (flat_map (comparator_for profile p) before)
    (λ x. (
      x,
      first_subset (length (fixed_clauses profile p) + 1)
          (comparator_for profile p c) x,
    )))
    ∙ sym (ap length (weaker_for-last profile p costs before c e))

optimal : (profile : Profile) (p : Problem) → IsInstance p
    → (bits : List Bool) (c : ℕ) (log : List LogLine) → IsSolution p bits c
    → IsAcceptedOver (bound_as profile p c).clauses log
    → (t : Assignment) → Extends bits t → IsOptimal p t c
optimal profile p h bits c log s accepted t x = record {
  feasible = (s.1 t x).0;
  exact = (s.1 t x).1;
  least = λ u f. elim (cases_lt _ c) [
    | inl lt ↦ (let w = (says_cheaper profile p c h).from u f lt in
        absurd (certificate_sound (bound_as profile p c).clauses
        (numbered_lines (length (bound_as profile p c).clauses) log) accepted w.0 w.2))
    | inr le ↦ le
  ];
}

pub right_optimum : (p : Problem) (b : Bounds) (cost : ℕ) (bits : Vec Bool Global)
    (log : List LogLine) (count : ℕ) → IsOver p b → BoundLog p b log
    → IsAcceptedLog (given_to b.solver) (b.solver).sink
    → IsSolution p bits.items cost → EndsWith (b.costs).items cost → AreFalling (b.costs).items
    → ((before : List ℕ) (c : ℕ) → (b.costs).items ≡ before ++ c ∷ []
    → count ≡ length (bound_as b.profile p c).clauses)
    → IsRightFound b.profile p (b.costs).items (Optimum cost bits log count)
right_optimum p b cost bits log count over is refuted s ends falling counts =
    let accepted =
    accepts_of_log (bound_as b.profile p cost).clauses log
    (is.accepted ends.0 cost ends.1 falling refuted) in
    let same = counts ends.0 cost ends.1 in
    record {
      solution = s;
      told = ends;
      optimal = optimal b.profile p over.instance bits.items cost log s accepted;
      refutation = record {
        accepted = accepted;
        begins =
            begins b.profile p (b.costs).items ends.0 cost (b.solver).sink log ends.1
            (is.lines ends.0 cost ends.1);
        counted = (same, omega (arith, same, clauses_few b.profile p cost over.instance));
      };
    }

pub right_best : (p : Problem) (b : Bounds) (cost : ℕ) (bits : Vec Bool Global)
    (work : Work) → IsOver p b → BoundLog p b work.bound
    → AddsNoEmptyClause (b.solver).sink
    → IsSolution p bits.items cost → 0 < cost → EndsWith (b.costs).items cost
    → AreFalling (b.costs).items → IsHardLog p work.hard
    → IsRightFound b.profile p (b.costs).items (Best cost bits work)
right_best p b cost bits work over is free s above ends falling hard =
    let log = work.bound in
    let cs = (bound_as b.profile p cost).clauses in
    record {
      solution = s;
      told = ends;
      above_zero = above;
      hard = hard;
      bound = record {
        work = record {
          steps = steps_of_log cs log (is.is_log ends.0 cost ends.1 falling);
          open_end = is.open_end ends.0 cost ends.1 falling free;
        };
        begins =
            begins b.profile p (b.costs).items ends.0 cost (b.solver).sink log ends.1
            (is.lines ends.0 cost ends.1);
        new =
            subst (λ n. LearnsNew (is_later (length (fixed_clauses b.profile p)) (length cs + n))
            (given_of cs) (length cs) [] log)
            (weaker_count b.profile p (b.costs).items ends.0 cost ends.1)
            (is.new ends.0 cost ends.1 falling);
      };
    }
