-- What final analysis knows of the marks, and the clause that is read off them.
use Rattle.std.proofs.Common.{◌≡◌, ◌≢◌, ℕ, ◌+◌, ◌<◌, Bool, true, List, [], ◌∷◌, ◌++◌, length}
use Rattle.std.proofs.Common.{Option, Some, None, ◌⊎◌, inl, inr, refl, sym, ◌∙◌, ap, subst, arith}
use Rattle.std.specs.Prelude.{unwrap_or, All}
use Rattle.std.specs.List.{AllByRecursion}
use Rattle.std.proofs.lemmas.Bool.{cases_eq, false≢true}
use Rattle.std.proofs.lemmas.List.{get_or-set_other, length-set, take_all}
use Rattle.std.proofs.lemmas.List.Elements.{All-contains, All-from_recursion, recursion_from_All}
use Rattle.cnf.specs.Literal.{Literal, negation}
use Rattle.cnf.specs.Clause.{contains_literal}
use Rattle.cnf.specs.Refute.{IsFalseUnder}
use Rattle.cnf.proofs.Laws.{all_at, all_from}
use Rattle.clauses.specs.Slots.{Slots, clause_at}
use Rattle.propagate.specs.Trail.{Assigned, literals_of, depth_of, level_in, level_of, reason_in}
use Rattle.propagate.specs.Trail.{HasReasons}
use Rattle.analyze.specs.Analyzer.{IsMarked, IsExplained, IsCovered, IsFalsified, IsFinal, decided}
use Rattle.analyze.specs.Analyzer.{IsAsserting, IsRefutedBy, greatest_level, chosen_reasons}
use Rattle.analyze.specs.declared.analyzer.FinalClause.{FinalClause}
use Rattle.analyze.specs.declared.marks.Mark.{Mark}
use Rattle.analyze.specs.declared.marks.Mark.TheVariants.{Clear, Kept, Resolved}
use Rattle.analyze.specs.Marks.{mark_at, is_kept, is_resolved, kept_of, resolved_of, IsAbove}
use Rattle.analyze.specs.Marks.{Resolves, IsReduced, IsMet, MarksClause}
use Rattle.analyze.specs.Marks.{HasVariable, IsBefore, ReducesBefore, level_at_variable}
use Rattle.analyze.specs.Marks.{learned_from, others_in}
use Rattle.analyze.proofs.Resolving.{marked_resolve, kept_is_not_clear, clear_or}
use Rattle.analyze.proofs.Reducing.{resolved_kept}
use Rattle.analyze.proofs.Marked.{marked_refutes}
use Rattle.analyze.proofs.Collecting.{start_above, learned_asserting, learned_collected}
use Rattle.analyze.proofs.Decided.{decided_reasons, decided_has, decided_deep}
use Rattle.analyze.proofs.Decided.{decided_level, decided_same, decided_low, decided_bare}
use Rattle.analyze.proofs.Decided.{reason_member, decided_wrong, decided_closed, has_none}
use Rattle.analyze.proofs.Decided.{decided_chosen, decided_others, decided_all, AreAhead}

-- A variable before the literal's is resolved.

-- what was marked anew stands in the clause of its reason
stands_before : (slots : Slots) (T : List Assigned) (l : Literal) (v r w : ℕ) (c : List Literal)
    → HasReasons (clause_at slots) [] T → reason_in T v ≡ Some r → clause_at slots r ≡ Some c
    → HasVariable (literals_of (decided l T)) v → v ≢ l.variable → IsAbove T c w
    → HasVariable (literals_of (decided l T)) w
stands_before slots T l v r w c h e f has ne k =
    let Q : Literal → Type 0 = λ x. HasVariable [] x.variable
    ⊎ HasVariable (literals_of (decided l T)) x.variable in
    let all : AllByRecursion Q c = decided_closed (clause_at slots) [] T l v r c h e f has ne in
    subst (HasVariable (literals_of (decided l T))) k.named
    (elim (All-contains Q c k.literal (All-from_recursion Q c all) k.stands)
    as (λ _. HasVariable (literals_of (decided l T)) (k.literal).variable) [
      | inl n ↦ absurd (has_none (k.literal).variable n)
      | inr m ↦ m
    ])

before_resolved : (slots : Slots) (T : List Assigned) (l : Literal) (v r : ℕ) (M N : List Mark)
    → HasReasons (clause_at slots) [] T → mark_at M v ≡ Kept → v ≢ l.variable → v < length M
    → reason_in T v ≡ Some r → Resolves slots T v r M N → IsBefore T l M → IsBefore T l N
before_resolved slots T l v r M N h kept ne room here d i =
    let long : length d.between ≡ length M = d.marks.long in
    let within : v < length d.between = omega arith in
    let has = i.before v (kept_is_not_clear (mark_at M v) kept) in
    record {
      above = λ w e. elim (resolved_kept slots T v r M N d within w e).1 [
        | inl k ↦ i.above w k
        | inr k ↦ subst (λ y. 0 < level_at_variable T y) k.named k.above
      ];
      kept = ap (λ x. mark_at x l.variable) d.resolved
          ∙ get_or-set_other d.between v l.variable Resolved Clear (λ s. ne (sym s))
          ∙ d.marks.stays l.variable (kept_is_not_clear (mark_at M l.variable) i.kept) ∙ i.kept;
      before = λ w new. elim (cases_eq w v) [
        | inl s ↦ subst (HasVariable (literals_of (decided l T))) (sym s) has
        | inr o ↦
            let same : mark_at N w ≡ mark_at d.between w =
            ap (λ x. mark_at x w) d.resolved
            ∙ get_or-set_other d.between v w Resolved Clear o in
            elim (clear_or (mark_at M w)) [
              | inr y ↦ i.before w y
              | inl z ↦
                  stands_before slots T l v r w d.clause h here d.live has ne
                  (d.marks.fresh w z (λ q. new (same ∙ q))).1
            ]
      ];
    }

pub before_reduces : (slots : Slots) (T : List Assigned) (l : Literal) (first M N : List Mark)
    (v r : ℕ) → HasReasons (clause_at slots) [] T → mark_at M v ≡ Kept → v ≢ l.variable
    → v < length M → reason_in T v ≡ Some r → Resolves slots T v r M N
    → ReducesBefore slots T l first M → ReducesBefore slots T l first N
before_reduces slots T l first M N v r h kept ne room here d w =
    let long : length d.between ≡ length M = d.marks.long in
    let within : v < length d.between = omega arith in
    record {
      long = ap length d.resolved ∙ length-set d.between v Resolved ∙ d.marks.long ∙ w.long;
      known = λ wrong m. subst (λ x. IsMarked (clause_at slots) T wrong (kept_of x) (resolved_of x))
          (sym d.resolved)
          (marked_resolve (clause_at slots) T wrong d.clause M d.between v r h here d.live
          (w.state.above v kept) kept within d.marks (w.known wrong m));
      state = before_resolved slots T l v r M N h kept ne room here d w.state;
    }

pub before_none : (slots : Slots) (T : List Assigned) (l : Literal) (M : List Mark)
    → IsBefore T l M → ReducesBefore slots T l M M
before_none slots T l M i = record { long = refl; known = λ wrong m. m; state = i }

-- Where only the clause of the reason was marked.

pub before_start : (slots : Slots) (T : List Assigned) (l : Literal) (r : ℕ) (c : List Literal)
    (old new : List Mark) → HasReasons (clause_at slots) [] T → IsFalsified T l r
    → clause_at slots r ≡ Some c → ((v : ℕ) → mark_at old v ≡ Clear) → MarksClause T c old new
    → IsBefore T l new
before_start slots T l r c old new h i live clear m =
    let at = clause_at slots in
    let member = reason_member at [] T l r c h i.reason_is live i.negated in
    let met =
    all_at (IsMet T new) c (negation l)
    (recursion_from_All (IsMet T new) c
    (subst (All (IsMet T new)) (take_all (length c) c (omega arith)) m.met)) member in
    let Q : Literal → Type 0 = λ k. HasVariable (literals_of (decided l T)) k.variable in
    let all : AllByRecursion Q c =
    all_from Q c (λ k k_in.
    elim (decided_wrong at [] T l r c h i.reason_is live i.negated k k_in)
    as (λ _. HasVariable (literals_of (decided l T)) k.variable) [
      | inl n ↦ absurd (false≢true n)
      | inr w ↦ (negation k, w, refl)
    ]) in
    record {
      above = start_above T c old new clear m;
      kept = elim met [
        | inl z ↦
            let zero : level_of T l ≡ 0 = z in
            let up = i.above in absurd (omega arith)
        | inr y ↦ (m.fresh l.variable (clear l.variable) y).0
      ];
      before = λ v new_v.
          let k = (m.fresh v (clear v) new_v).1 in
          subst (HasVariable (literals_of (decided l T))) k.named
          (All-contains Q c k.literal (All-from_recursion Q c all) k.stands);
    }

-- The marks on the other trail.

least_of : (o : Option ℕ) (d : ℕ) → 0 < d → ((m : ℕ) → o ≡ Some m → m < d) → unwrap_or o 0 < d
least_of None d some f = some
least_of (Some m) d some f = f m refl

module _ (slots : Slots) (T : List Assigned) (l : Literal) (r : ℕ) (M : List Mark)
    (reasons : HasReasons (clause_at slots) [] T) (i : IsFalsified T l r)
    (b : IsBefore T l M) where
  has : HasVariable (literals_of T) l.variable
  has = (negation l, i.negated, refl)

  same_level : (v : ℕ) → v ≢ l.variable → mark_at M v ≢ Clear
      → level_at_variable (decided l T) v ≡ level_at_variable T v
  same_level v ne marked =
      ap (λ o. unwrap_or o 0) (decided_same 0 l T v ne (b.before v marked))

  own_level : level_of (decided l T) l ≡ depth_of (decided l T)
  own_level =
      let e : level_of (decided l T) l ≡ 0 + depth_of (decided l T) =
      ap (λ o. unwrap_or o 0) (decided_level 0 l T has) in
      omega arith

  pub decided_reduced : IsReduced (decided l T) M l
  decided_reduced = record {
    on_trail = decided_has l T has;
    kept = b.kept;
    current = own_level;
    above = λ v e. elim (cases_eq v l.variable) [
      | inl s ↦
          let deep = decided_deep l T has in
          let own = own_level in
          let here : level_at_variable (decided l T) v ≡ level_of (decided l T) l =
          ap (level_at_variable (decided l T)) s in
          omega arith
      | inr ne ↦
          subst (λ n. 0 < n) (sym (same_level v ne (kept_is_not_clear (mark_at M v) e)))
          (b.above v e)
    ];
    others = λ v e ne.
        let d = depth_of (decided l T) in
        least_of (level_in (decided l T) v) d (decided_deep l T has) (λ m at.
        let low : m < 0 + depth_of (decided l T) = decided_low 0 l T v m ne has at in
        omega arith);
  }

  covered : (c : List Literal) → IsCovered T (kept_of M) (resolved_of M) c
      → IsCovered (decided l T) (kept_of M) (resolved_of M) c
  covered c f k m = elim (f k m) [
    | inr e ↦ inr e
    | inl z ↦ elim (cases_eq k.variable l.variable) [
      | inl s ↦ inr (inl (ap (kept_of M) s ∙ ap is_kept b.kept))
      | inr ne ↦ inl (decided_bare 0 l T k.variable ne z)
    ]
  ]

  not_own : (v : ℕ) → resolved_of M v ≡ true → v ≢ l.variable
  not_own v e s =
      false≢true (sym (ap is_resolved (ap (mark_at M) s ∙ b.kept)) ∙ e)

  is_marked : (v : ℕ) → resolved_of M v ≡ true → mark_at M v ≢ Clear
  is_marked v e z = false≢true (sym (ap is_resolved z) ∙ e)

  pub decided_marked : (wrong : List Literal)
      → IsMarked (clause_at slots) T wrong (kept_of M) (resolved_of M)
      → IsMarked (clause_at slots) (decided l T) wrong (kept_of M) (resolved_of M)
  decided_marked wrong m =
      let Old : Assigned → Type 0 =
      λ a. (resolved_of M a.literal.variable ≡ true
      → IsExplained (clause_at slots) (IsCovered T (kept_of M) (resolved_of M)) a) in
      let New : Assigned → Type 0 =
      λ a. (resolved_of M a.literal.variable ≡ true
      → IsExplained (clause_at slots) (IsCovered (decided l T) (kept_of M) (resolved_of M)) a) in
      record {
        starts = covered wrong m.starts;
        reasons = decided_all Old New l T (λ a f e.
            let w = f e in
            record {
              reference = w.reference;
              clause = w.clause;
              reason = w.reason;
              live = w.live;
              holds = covered w.clause w.holds;
            }) (λ e. absurd (not_own l.variable e refl)) m.reasons;
        apart = m.apart;
        above_zero = λ k e.
            subst (λ n. 0 < n)
            (sym (same_level k.variable (not_own k.variable e) (is_marked k.variable e)))
            (m.above_zero k e);
      }

  -- what is read off the marks
  pub final_from : (wrong : List Literal) (final : FinalClause) → clause_at slots r ≡ Some wrong
      → IsMarked (clause_at slots) T wrong (kept_of M) (resolved_of M)
      → final.lits.items ≡ learned_from T M l
      → final.hints.items ≡ chosen_reasons (λ k. resolved_of M k.variable) T ++ r ∷ []
      → IsFinal slots T l r final
  final_from wrong final live m lits hints =
      let at = clause_at slots in
      let D = decided l T in
      let chosen : Literal → Bool = λ k. resolved_of M k.variable in
      let reasons_D = decided_reasons at [] l T reasons in
      let back = greatest_level D (others_in M l (literals_of D)) in
      let ahead : AreAhead M [] (literals_of D) = λ v ne. inr (b.before v ne) in
      let is : final.lits.items ≡ learned_from D M l =
      lits ∙ ap (λ x. negation l ∷ x) (sym (decided_others at [] l M T reasons ahead)) in
      let wrong_D : IsFalseUnder wrong (literals_of D) =
      all_from (λ k. contains_literal (negation k) (literals_of D) ≡ true) wrong (λ k km.
      elim (decided_wrong at [] T l r wrong reasons i.reason_is live i.negated k km) [
        | inl n ↦ absurd (false≢true n)
        | inr w ↦ w
      ]) in
      let refuted =
      marked_refutes slots D r wrong (learned_from D M l) (kept_of M) (resolved_of M) reasons_D live
      wrong_D (decided_marked wrong m) (learned_collected at D M l reasons_D decided_reduced) in
      let named : final.hints.items ≡ chosen_reasons chosen D ++ r ∷ [] =
      hints
      ∙ ap (λ x. x ++ r ∷ [])
      (sym (decided_chosen at [] l M T reasons (ap is_resolved b.kept) ahead)) in
      record {
        others = others_in M l (literals_of T);
        split = lits;
        back = back;
        asserting = subst (λ x. IsAsserting D x back) (sym is)
            (learned_asserting at D M l back reasons_D decided_reduced refl);
        hints = subst (λ x. IsRefutedBy slots D x final.hints.items) (sym is)
            (subst (IsRefutedBy slots D (learned_from D M l)) (sym named) refuted);
        order = record { chosen = chosen; ordered = hints };
      }
