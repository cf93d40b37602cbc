-- The log of a solver over several bounds, told as one over the last of them.
use Rattle.std.proofs.Common.{◌≡◌, ℕ, suc, ◌+◌, ◌<◌, true, false, ◌||◌, List, [], ◌∷◌, ◌++◌, length}
use Rattle.std.proofs.Common.{map, Some, refl, sym, ◌∙◌, ap, subst, arith, All, append_assoc}
use Rattle.std.proofs.Common.{append-nil, length-append}
use Rattle.std.specs.Prelude.{if◌then◌else◌}
use Rattle.std.specs.List.{AllByRecursion, flat_map, list_any, slice_get}
use Rattle.std.proofs.lemmas.Grind.{flat_map-append}
use Rattle.std.proofs.lemmas.Bool.{false≢true}
use Rattle.std.proofs.lemmas.List.Elements.{recursion_from_All, All-from_recursion}
use Rattle.std.proofs.lemmas.List.{length-map}
use Rattle.cnf.specs.Literal.{Literal}
use Rattle.cnf.specs.Clause.{is_subset, IsCovered, is_empty_clause}
use Rattle.cnf.specs.Formula.{Cnf, IsFormulaClause}
use Rattle.cnf.specs.Problem.{Problem}
use Rattle.cnf.specs.Instance.{IsInstance}
use Rattle.lrat_log.specs.declared.lines.Name.{Name}
use Rattle.lrat_log.specs.Log.{LogLine, clauses_in}
use Rattle.lrat_log.specs.Steps.{IsLogOver, IsAcceptedLog, AddsNoEmptyClause, LearnsNew, is_later}
use Rattle.lrat_log.specs.Steps.{learned_count, given_of}
use Rattle.lrat_log.specs.Rebase.{WeakerList, rebased, IsWeakerOf, IsSomeClause, KeepsLog}
use Rattle.lrat_log.specs.Rebase.{weaker_list}
use Rattle.adder.specs.declared.profiles.Profile.{Profile}
use Rattle.adder.specs.Network.{adders_as}
use Rattle.bound.specs.Bound.{bound_as, fixed_clauses, comparator_for}
use Rattle.bound.proofs.Laws.{covers_larger, without_bound, bound_is_formula}
use Rattle.lrat_log.proofs.Laws.{numbered_right, open_rebased, learned_rebased}
use Rattle.cdcl.specs.Solving.{given_to}
use Rattle.improve_found.specs.Progress.{AreFalling}
use Rattle.improve.specs.Weaker.{first_subset, weaker_among}
use Rattle.improve.specs.Bounds.{IsOver, BoundLog}
use Rattle.improve.specs.declared.bounds.Bounds.{Bounds}
use Rattle.cnf.specs.Lrat.{IsId}
use Rattle.cnf.proofs.Laws.{all_right, all_append, all_weaker, all_both, all_mapped}
use Rattle.std.specs.declared.vec.Vec.{Vec}
use Rattle.std.specs.declared.alloc.Global.{Global}
use Rattle.improve.proofs.Comparators.{compared_some}
use Rattle.improve.proofs.GivenParts.{clause_ids, entries_are, entry_literals}

-- the first subset is one
first_found : (n : ℕ) (ds : List (List Literal)) (x : List Literal)
    → list_any (λ d. is_subset d x) ds ≡ true
    → (k : ℕ) × (d : List Literal) × (first_subset n ds x ≡ n + k) × (slice_get ds k ≡ Some d)
    × (is_subset d x ≡ true)
first_found n [] x h = absurd (false≢true h)
first_found n (d ∷ ds) x h =
    elim (is_subset d x) as (λ b. is_subset d x ≡ b → (b || list_any (λ d. is_subset d x) ds) ≡ true
    → (k : ℕ) × (y : List Literal) × ((if b then n else first_subset (n + 1) ds x) ≡ n + k)
    × (slice_get (d ∷ ds) k ≡ Some y) × (is_subset y x ≡ true)) [
      | true ↦ λ e g. (0, d, omega arith, refl, e)
      | false ↦ λ e g. (let r = first_found (n + 1) ds x g in
          (suc r.0, r.1, omega (arith, r.2), r.3, r.4))
    ] refl h

all_flat : {X : Type 0} (P : X → Type 0) (f : ℕ → List X) (ns : List ℕ)
    → AllByRecursion (λ n. AllByRecursion P (f n)) ns → AllByRecursion P (flat_map f ns)
all_flat P f [] h = tt
all_flat P f (n ∷ ns) h = all_append P (f n) (flat_map f ns) h.0 (all_flat P f ns h.1)

-- falling costs are above the last one
falling_above : (ds : List ℕ) (c : ℕ) → AreFalling (ds ++ c ∷ []) → AllByRecursion (λ d. c < d) ds
falling_above [] c h = tt
falling_above (d ∷ []) c h = (h.0, tt)
falling_above (d ∷ e ∷ ds) c h =
    let r = falling_above (e ∷ ds) c h.1 in (omega (arith, h.0, r.0), r)

same_clauses : (n : ℕ) (C B : List (List Literal)) → map (λ e. e.0) (weaker_among n C B) ≡ B
same_clauses n C [] = refl
same_clauses n C (x ∷ B) = ap (λ y. x ∷ y) (same_clauses n C B)

module _ (profile : Profile) (p : Problem) (h : IsInstance p) (before : List ℕ) (c : ℕ)
    (falling : AreFalling (before ++ c ∷ [])) where
  abbrev pub fixed : List (List Literal)
  fixed = fixed_clauses profile p

  abbrev pub last : List (List Literal)
  last = comparator_for profile p c

  abbrev pub earlier : List (List Literal)
  earlier = flat_map (comparator_for profile p) before

  abbrev pub weaker : WeakerList
  weaker = weaker_among (length fixed + 1) last earlier

  abbrev Fits : List Literal → Type 0
  Fits x = IsFormulaClause (bound_as profile p c).variables x × IsCovered last x
      × (is_empty_clause x ≡ false)

  fits_at : (d : ℕ) → c < d → AllByRecursion Fits (comparator_for profile p d)
  fits_at d lt =
      let formula =
      recursion_from_All (IsFormulaClause (bound_as profile p d).variables)
      (bound_as profile p d).clauses (bound_is_formula profile p d h).clauses in
      let cs = comparator_for profile p d in
      let a = all_right (IsFormulaClause (bound_as profile p d).variables) fixed cs formula in
      let b =
      recursion_from_All (IsCovered last) cs (covers_larger (adders_as profile p).outputs c d
      (omega arith)) in
      let e = compared_some (adders_as profile p).outputs d (omega arith) in
      all_weaker (λ x. IsFormulaClause (bound_as profile p d).variables x
      × (IsCovered last x × (is_empty_clause x ≡ false))) Fits cs (λ x y. (y.0, y.1.0, y.1.1))
      (all_both (IsFormulaClause (bound_as profile p d).variables) (λ x. IsCovered last x
      × (is_empty_clause x ≡ false)) cs a
      (all_both (IsCovered last) (λ x. is_empty_clause x ≡ false) cs b e))

  fits : AllByRecursion Fits earlier
  fits =
      all_flat Fits (comparator_for profile p) before
      (all_weaker (λ d. c < d) (λ d. AllByRecursion Fits (comparator_for profile p d)) before
      fits_at
      (falling_above before c falling))

  weaker_one : (x : List Literal) → Fits x
      → IsWeakerOf (fixed ++ last) (x, first_subset (length fixed + 1) last x)
  weaker_one x f =
      let r = first_found (length fixed + 1) last x f.1 in
      let few = (bound_is_formula profile p c h).few in (
        f.0.no_repeat,
        f.0.no_tautology,
        omega (arith, f.0.small, few),
        r.1,
        numbered_right fixed last (first_subset (length fixed + 1) last x) r.0 (omega (arith, r.2))
            ∙ r.3,
        r.4,
      )

  pub weaker_fits : All (IsWeakerOf (fixed ++ last)) weaker
  weaker_fits = All-from_recursion (IsWeakerOf (fixed ++ last)) weaker
      (all_mapped (IsWeakerOf (fixed ++ last)) (λ x. (x, first_subset (length fixed + 1) last x))
      earlier (all_weaker Fits
      (λ x. IsWeakerOf (fixed ++ last) (x, first_subset (length fixed + 1) last x)) earlier
      weaker_one fits))

  pub earlier_ids : AllByRecursion (λ x. All (λ l. IsId l.variable) x) earlier
  earlier_ids =
      let few = (bound_is_formula profile p c h).few in
      all_weaker Fits (λ x. All (λ l. IsId l.variable) x)
      earlier (λ x f. clause_ids (bound_as profile p c).variables x (omega arith) f.0) fits

  some_each : AllByRecursion IsSomeClause weaker
  some_each = all_mapped IsSomeClause (λ x. (x, first_subset (length fixed + 1) last x)) earlier
      (all_weaker Fits (λ x. is_empty_clause x ≡ false) earlier (λ x f. f.2) fits)

  pub weaker_some : All IsSomeClause weaker
  weaker_some = All-from_recursion IsSomeClause weaker some_each

  pub given_parts : fixed ++ map (λ e. e.0) weaker ++ last
      ≡ fixed ++ flat_map (comparator_for profile p) (before ++ c ∷ [])
  given_parts =
      ap (λ x. (fixed ++ x) ++ last) (same_clauses (length fixed + 1) last earlier)
      ∙ append_assoc fixed earlier last
      ∙ ap (λ x. fixed ++ (earlier ++ x)) (sym (append-nil last))
      ∙ ap (λ x. fixed ++ x) (sym (flat_map-append (comparator_for profile p) before (c ∷ [])))

  module _ (sink : List LogLine) (keeps : KeepsLog (length fixed) weaker sink)
      (cs : List (List Literal)) (is : cs ≡ fixed ++ flat_map (comparator_for profile p)
      (before ++ c ∷ [])) where
    pub last_log : IsLogOver (given_of cs) sink
        → IsLogOver (given_of (bound_as profile p c).clauses) (rebased (length fixed) weaker sink)
    last_log log =
        keeps.log fixed last refl weaker_fits weaker_some
        (subst (λ x. IsLogOver (given_of x) sink) (is ∙ sym given_parts) log)

    pub last_accepted : IsLogOver (given_of cs) sink → IsAcceptedLog (given_of cs) sink
        → IsAcceptedLog (given_of (bound_as profile p c).clauses)
        (rebased (length fixed) weaker sink)
    last_accepted log accepted =
        keeps.accepted fixed last refl weaker_fits weaker_some
        (subst (λ x. IsLogOver (given_of x) sink) (is ∙ sym given_parts) log)
        (subst (λ x. IsAcceptedLog (given_of x) sink) (is ∙ sym given_parts) accepted)

  weaker_count : length weaker ≡ length earlier
  weaker_count = sym (length-map weaker (λ e. e.0))
      ∙ ap length (same_clauses (length fixed + 1) last earlier)

  -- how many clauses were given over the bounds
  count_given : length (fixed ++ map (λ e. e.0) weaker ++ last)
      ≡ length (fixed ++ last) + length earlier
  count_given =
      omega (
        arith,
        length-append (fixed ++ map (λ e. e.0) weaker) last,
        length-append fixed (map (λ e. e.0) weaker),
        length-append fixed last,
        length-map weaker (λ e. e.0),
        weaker_count,
      )

  pub last_new : (sink : List LogLine) → KeepsLog (length fixed) weaker sink
      → (cs : List (List Literal))
      → cs ≡ fixed ++ flat_map (comparator_for profile p) (before ++ c ∷ [])
      → IsLogOver (given_of cs) sink
      → LearnsNew (is_later (length fixed) (length cs)) (given_of cs) (length cs) [] sink
      → LearnsNew (is_later (length fixed) (length (fixed ++ last) + length earlier))
      (given_of (fixed ++ last)) (length (fixed ++ last)) [] (rebased (length fixed) weaker sink)
  last_new sink keeps cs is log h =
      let all : List (List Literal) = fixed ++ map (λ e. e.0) weaker ++ last in
      let parts : cs ≡ fixed ++ map (λ e. e.0) weaker ++ last = is ∙ sym given_parts in
      subst (λ n. LearnsNew (is_later (length fixed) n) (given_of (fixed ++ last))
      (length (fixed ++ last)) [] (rebased (length fixed) weaker sink)) count_given
      (keeps.new fixed last refl weaker_fits (subst (λ x. IsLogOver (given_of x) sink) parts log)
      (length all) refl
      (subst (λ x. LearnsNew (is_later (length fixed) (length x)) (given_of x) (length x) [] sink)
      parts h))

  pub last_open : (sink : List LogLine) → AddsNoEmptyClause sink
      → AddsNoEmptyClause (rebased (length fixed) weaker sink)
  last_open sink o = open_rebased (length fixed) weaker sink weaker_some o

-- the literals of the clauses of the bounds before
pub entries_spelled : (p : Problem) (b : Bounds) (before : List ℕ) (c : ℕ) → IsOver p b
    → (b.costs).items ≡ before ++ c ∷ [] → AreFalling (b.costs).items
    → (ws : List (Vec Literal Global × ℕ))
    → weaker_list ws ≡ weaker_among (b.fixed + 1) (comparator_for b.profile p c)
    (flat_map (comparator_for b.profile p) before)
    → All (λ e. All (λ l. IsId l.variable) (e.0).items) ws
entries_spelled p b before c h e falling ws are =
    entry_literals ws (b.fixed + 1) (comparator_for b.profile p c)
    (flat_map (comparator_for b.profile p) before) are
    (earlier_ids b.profile p h.instance before c (subst AreFalling e falling))

-- the log that `rebase` gives
pub bound_log : (p : Problem) (b : Bounds) (ws : List (Vec Literal Global × ℕ)) (log : List LogLine)
    → IsOver p b
    → ((x y z : List (List Literal)) → clauses_in (given_to b.solver) ≡ x ++ (y ++ z)
    → length x ≡ b.fixed → length z ≡ b.last → weaker_list ws ≡ weaker_among (b.fixed + 1) z y)
    → log ≡ rebased b.fixed (weaker_list ws) (b.solver).sink
    → KeepsLog b.fixed (weaker_list ws) (b.solver).sink → BoundLog p b log
bound_log p b ws log h parts e keeps = record {
  lines = is_rebased;
  is_log = λ before c x f. subst (IsLogOver (given_of (bound_as b.profile p c).clauses))
      (sym (is_rebased before c x))
      (last_log b.profile p h.instance before c (falls before c x f) sink (kept before c x) cs
      (given before c x) log_over);
  accepted = λ before c x f a. subst (IsAcceptedLog (given_of (bound_as b.profile p c).clauses))
      (sym (is_rebased before c x))
      (last_accepted b.profile p h.instance before c (falls before c x f) sink (kept before c x) cs
      (given before c x) log_over (subst (λ g. IsAcceptedLog g sink) (h.usable).numbered a));
  open_end =
      λ before c x f o. subst AddsNoEmptyClause (sym (is_rebased before c x))
      (last_open b.profile p h.instance before c (falls before c x f) sink o);
  new = λ before c x f.
      subst (LearnsNew (is_later (length (fixed_clauses b.profile p))
      (length (bound_as b.profile p c).clauses + length
      (flat_map (comparator_for b.profile p) before)))
      (given_of (bound_as b.profile p c).clauses) (length (bound_as b.profile p c).clauses) [])
      (sym (is_rebased before c x))
      (last_new b.profile p h.instance before c (falls before c x f) sink (kept before c x) cs
      (given before c x) log_over new_over_all);
  learned = ap learned_count e ∙ learned_rebased b.fixed (weaker_list ws) sink;
}
  where
    sink : List LogLine
    sink = (b.solver).sink

    cs : List (List Literal)
    cs = clauses_in (given_to b.solver)

    log_over : IsLogOver (given_of (clauses_in (given_to b.solver))) (b.solver).sink
    log_over = subst (λ g. IsLogOver g (b.solver).sink) (h.usable).numbered (h.usable).log

    -- the clauses of the formula are the fixed ones
    formula_count : length (b.solver).formula.clauses ≡ length (fixed_clauses b.profile p)
    formula_count =
        ap (λ (f : Cnf). length f.clauses) h.formula
        ∙ ap (λ x. length (fixed_clauses b.profile p ++ x)) (without_bound b.profile p h.instance)
        ∙ ap length (append-nil (fixed_clauses b.profile p))

    new_over_all : LearnsNew (is_later (length (fixed_clauses b.profile p)) (length cs))
        (given_of cs) (length cs) [] sink
    new_over_all =
        subst (λ n. LearnsNew (is_later n (length cs)) (given_of cs) (length cs) [] sink)
        formula_count
        (subst (λ g. LearnsNew (is_later (length (b.solver).formula.clauses) (length cs)) g
        (length cs) [] sink) (h.usable).numbered
        ((h.usable).new (length cs)
        (omega (arith, length-map (given_to b.solver) (λ (g : Name × List Literal). g.1)))))

    given : (before : List ℕ) (c : ℕ) → (b.costs).items ≡ before ++ c ∷ []
        → clauses_in (given_to b.solver)
        ≡ fixed_clauses b.profile p ++ flat_map (comparator_for b.profile p) (before ++ c ∷ [])
    given before c x =
        h.clauses ∙ ap (λ y. fixed_clauses b.profile p ++ flat_map (comparator_for b.profile p) y) x

    falls : (before : List ℕ) (c : ℕ) → (b.costs).items ≡ before ++ c ∷ []
        → AreFalling (b.costs).items → AreFalling (before ++ c ∷ [])
    falls before c x f = subst AreFalling x f

    numbers : (before : List ℕ) (c : ℕ) → (b.costs).items ≡ before ++ c ∷ []
        → weaker_list ws
        ≡ weaker_among (length (fixed_clauses b.profile p) + 1) (comparator_for b.profile p c)
        (flat_map (comparator_for b.profile p) before)
    numbers before c x =
        entries_are p b before c h x (given_to b.solver) refl ws parts
        ∙ ap (λ n. weaker_among (n + 1) (comparator_for b.profile p c)
        (flat_map (comparator_for b.profile p) before)) h.fixed

    is_rebased : (before : List ℕ) (c : ℕ) → (b.costs).items ≡ before ++ c ∷ []
        → log
        ≡ rebased (length (fixed_clauses b.profile p))
        (weaker_among (length (fixed_clauses b.profile p) + 1) (comparator_for b.profile p c)
        (flat_map (comparator_for b.profile p) before)) (b.solver).sink
    is_rebased before c x =
        e ∙ ap (λ n. rebased n (weaker_list ws) (b.solver).sink) h.fixed
        ∙ ap (λ w. rebased (length (fixed_clauses b.profile p)) w (b.solver).sink)
        (numbers before c x)

    kept : (before : List ℕ) (c : ℕ) → (b.costs).items ≡ before ++ c ∷ []
        → KeepsLog (length (fixed_clauses b.profile p))
        (weaker_among (length (fixed_clauses b.profile p) + 1) (comparator_for b.profile p c)
        (flat_map (comparator_for b.profile p) before)) (b.solver).sink
    kept before c x =
        subst (λ w. KeepsLog (length (fixed_clauses b.profile p)) w (b.solver).sink)
        (numbers before c x)
        (subst (λ n. KeepsLog n (weaker_list ws) (b.solver).sink) h.fixed keeps)
