-- What a line's check answers, against a correct step.
use Rattle.std.proofs.Common.{◌≡◌, ℕ, zero, suc, ◌<◌, ◌^◌, Bool, true, false, ◌||◌, List, [], ◌∷◌}
use Rattle.std.proofs.Common.{◌++◌, map, Option, Some, None, ◌⊎◌, inl, inr, refl, sym, ◌∙◌}
use Rattle.std.proofs.Common.{ap, subst, arith}
use Rattle.std.proofs.Math.Bool.{cond}
use Rattle.std.proofs.Math.Path.{fun_ext}
use Rattle.std.specs.Prelude.{◌↔◌, ◌==◌, nat_eq, nat_le, All, slice_get}
use Rattle.std.specs.List.{AllByRecursion, IsDistinct, list_any}
use Rattle.std.proofs.lemmas.Bool.{or_parts, or_from, cases_Bool, eqb-false, ne_eqb, leb-false}
use Rattle.std.proofs.lemmas.Bool.{lt-leb, cond-true, cond-false}
use Rattle.std.proofs.lemmas.List.Elements.{All-head, All-tail}
use Rattle.std.proofs.lemmas.Map.Keys.{IsDistinct-head, IsDistinct-tail, IsDistinct-cons}
use Rattle.cnf.specs.Formula.{numbered}
use Rattle.cnf.specs.Literal.{Literal, negation}
use Rattle.cnf.specs.Clause.{contains_literal, without_literal, has_repeat, is_tautology}
use Rattle.cnf.specs.Clause.{greatest_variable}
use Rattle.cnf.specs.Refute.{Clauses}
use Rattle.cnf.specs.Lrat.{CandidateHints, Deletion as DeletesLine, Live}
use Rattle.cnf.specs.Lrat.{start_of, with_clause, without_ids, IsAddable, HoldsForCandidate}
use Rattle.cnf.specs.Lrat.{candidates_of, IsRat, IsRup, Step}
use Rattle.cnf.proofs.Laws.{numbered_past}
use Rattle.lrat_machine.specs.declared.verdicts.Cause.{Cause}
use Rattle.lrat_machine.specs.declared.verdicts.Cause.TheVariants.{IdOrder, DeadId, ClauseForm}
use Rattle.lrat_machine.specs.declared.verdicts.Cause.TheVariants.{HintAfterConflict, Candidates}
use Rattle.lrat_live.specs.Listed.{same_ids}
use Rattle.lrat_machine.specs.Verdict.{HintWalk, Open, Refuted, Fault, walk, ids_with, of_walk}
use Rattle.lrat_machine.specs.Verdict.{group_fault, or_else, groups_fault, clause_fault}
use Rattle.lrat_machine.specs.Verdict.{addition_fault, deleted}
use Rattle.lrat_read.specs.Form.{leading, groups_of}
use Rattle.lrat_machine.proofs.Walk.{NoneRepeats, refutes_from_walk, leads_from_walk}
use Rattle.lrat_machine.proofs.Walk.{walk_from_refutes, walk_from_leads}
use Rattle.lrat_machine.proofs.Candidates.{InRange, same_ids_rising}

-- what is known of the live clauses
pub record IsSane (live : Live) : Type 0 where
  pub in_range : InRange live.clause_at live.last
  pub none_repeats : NoneRepeats live.clause_at

of_walk_none : (w : HintWalk) → of_walk w ≡ None → w ≡ Refuted
of_walk_none (Open B) e = absurd (cc)
of_walk_none Refuted e = refl
of_walk_none (Fault f) e = absurd (cc)

-- a group
abbrev pub IsTrueAlready : Literal → List Literal → List Literal → Bool
IsTrueAlready pivot B d = list_any (λ k. contains_literal k B) (without_literal (negation pivot) d)

abbrev pub silent_on : List ℕ → Option Cause
silent_on [] = None
silent_on (h ∷ hs) = Some HintAfterConflict

pub group_dead : (at : Clauses) (pivot : Literal) (B : List Literal) (g : CandidateHints)
    → at g.candidate ≡ None → group_fault at pivot B g ≡ Some DeadId
group_dead at pivot B g e = rw e refl

pub group_silent : (at : Clauses) (pivot : Literal) (B : List Literal) (g : CandidateHints)
    (d : List Literal) → at g.candidate ≡ Some d → IsTrueAlready pivot B d ≡ true → (hs : List ℕ)
    → g.hints ≡ hs → group_fault at pivot B g ≡ silent_on hs
unfolding silent_on
group_silent at pivot B g d e t [] u = rw (e, t, u) refl
group_silent at pivot B g d e t (h ∷ hs) u = rw (e, t, u) refl

pub group_walks : (at : Clauses) (pivot : Literal) (B : List Literal) (g : CandidateHints)
    (d : List Literal) → at g.candidate ≡ Some d → IsTrueAlready pivot B d ≡ false
    → group_fault at pivot B g
    ≡ of_walk (walk at (map negation (without_literal (negation pivot) d) ++ B) g.hints)
group_walks at pivot B g d e t = rw (e, t) refl

silent_none : (hs : List ℕ) → silent_on hs ≡ None → hs ≡ []
unfolding silent_on
silent_none [] e = refl
silent_none (h ∷ hs) e = absurd (cc)

group_means : (at : Clauses) (pivot : Literal) (B : List Literal) (g : CandidateHints)
    → group_fault at pivot B g ≡ None → HoldsForCandidate at pivot B g
group_means at pivot B g e = by (at g.candidate) refl
  where
    by : (o : Option (List Literal)) → at g.candidate ≡ o → HoldsForCandidate at pivot B g
    by None u = let z = group_dead at pivot B g u in absurd (cc)
    by (Some d) u = elim (cases_Bool (IsTrueAlready pivot B d)) [
      | inl t ↦ (
        d,
        u,
        inl (
          t,
          silent_none g.hints (sym (group_silent at pivot B g d u t g.hints refl) ∙ e),
        ),
      )
      | inr f ↦ (
        d,
        u,
        inr (
          f,
          refutes_from_walk at _ g.hints
              (of_walk_none _ (sym (group_walks at pivot B g d u f) ∙ e)),
        ),
      )
    ]

group_from : (at : Clauses) → NoneRepeats at
    → (pivot : Literal) (B : List Literal) (g : CandidateHints) → HoldsForCandidate at pivot B g
    → group_fault at pivot B g ≡ None
unfolding silent_on
group_from at n pivot B g (d, u, inl t) = group_silent at pivot B g d u t.0 [] t.1
group_from at n pivot B g (d, u, inr f) = group_walks at pivot B g d u f.0
    ∙ ap of_walk (walk_from_refutes at n _ g.hints f.1)

groups_means : (at : Clauses) (pivot : Literal) (B : List Literal) (gs : List CandidateHints)
    → groups_fault at pivot B gs ≡ None → AllByRecursion (HoldsForCandidate at pivot B) gs
groups_means at pivot B [] e = tt
groups_means at pivot B (g ∷ gs) e =
    elim (group_fault at pivot B g) as (λ o. group_fault at pivot B g ≡ o
    → or_else o (groups_fault at pivot B gs) ≡ None
    → AllByRecursion (HoldsForCandidate at pivot B) (g ∷ gs)) [
      | None ↦ λ u e. (group_means at pivot B g u, groups_means at pivot B gs e)
      | Some f ↦ λ u e. absurd (cc)
    ] refl e

groups_from : (at : Clauses) → NoneRepeats at
    → (pivot : Literal) (B : List Literal) (gs : List CandidateHints)
    → AllByRecursion (HoldsForCandidate at pivot B) gs → groups_fault at pivot B gs ≡ None
groups_from at n pivot B [] h = refl
groups_from at n pivot B (g ∷ gs) h =
    ap (λ o. or_else o (groups_fault at pivot B gs)) (group_from at n pivot B g h.0)
    ∙ groups_from at n pivot B gs h.1

-- the clause
abbrev pub Holds : Clauses → List Literal → List ℕ → List CandidateHints → Type 0
Holds at c hints gs = IsRup at c hints gs ⊎ IsRat at c hints gs

clause_means : (live : Live) → IsSane live
    → (hints : List ℕ) (c : List Literal) (w : HintWalk) (gs : List CandidateHints)
    → walk live.clause_at (map negation c) hints ≡ w → clause_fault live c w gs ≡ None
    → Holds live.clause_at c hints gs
clause_means live s hints c (Fault f) gs e h = absurd (cc)
clause_means live s hints c Refuted [] e h =
    inl (refl, refutes_from_walk live.clause_at (map negation c) hints e)
clause_means live s hints c Refuted (g ∷ gs) e h = absurd (cc)
clause_means live s hints [] (Open B) gs e h = absurd (cc)
clause_means live s hints (p ∷ c) (Open B) gs e h =
    elim (same_ids (candidates_of gs) (ids_with live.clause_at (negation p) live.last))
    as (λ v. same_ids (candidates_of gs) (ids_with live.clause_at (negation p) live.last) ≡ v
    → cond v (groups_fault live.clause_at p B gs) (Some Candidates) ≡ None
    → Holds live.clause_at (p ∷ c) hints gs) [
      | true ↦ λ t h.
          let r =
          (same_ids_rising live.clause_at live.last s.in_range (negation p) (candidates_of gs)).0
          t in
          inr (record {
            pivot = p;
            others = c;
            first = refl;
            reached = B;
            leads = leads_from_walk live.clause_at (map negation (p ∷ c)) hints B e;
            rising = r.0;
            complete = r.1;
            each = groups_means live.clause_at p B gs h;
          })
      | false ↦ λ t h. absurd (cc)
    ] refl h

clause_from : (live : Live) → IsSane live
    → (hints : List ℕ) (c : List Literal) (gs : List CandidateHints)
    → Holds live.clause_at c hints gs
    → clause_fault live c (walk live.clause_at (map negation c) hints) gs ≡ None
clause_from live s hints c gs (inl r) =
    ap (λ w. clause_fault live c w gs) (walk_from_refutes live.clause_at s.none_repeats
    (map negation c) hints r.1) ∙ ap (clause_fault live c Refuted) r.0
clause_from live s hints c gs (inr r) =
    let at = live.clause_at in
    let named =
    (same_ids_rising live.clause_at live.last s.in_range (negation r.pivot) (candidates_of gs)).1
    (r.rising, r.complete) in
    ap (λ x. clause_fault live x (walk live.clause_at (map negation c) hints) gs) r.first
    ∙ ap (λ w. clause_fault live (r.pivot ∷ r.others) w gs)
    (walk_from_leads live.clause_at s.none_repeats (map negation c) hints r.reached r.leads)
    ∙ cond-true (same_ids (candidates_of gs) (ids_with live.clause_at (negation r.pivot) live.last))
    (groups_fault live.clause_at r.pivot r.reached gs) (Some Candidates) named
    ∙ groups_from live.clause_at s.none_repeats r.pivot r.reached gs r.each

-- an addition
abbrev IsLarge : Literal → Bool
IsLarge l = nat_le 134217728 l.variable

none_large : (c : List Literal) → list_any IsLarge c ≡ false → greatest_variable c < 2 ^ 27
none_large [] e = omega arith
none_large (l ∷ c) e = let h = or_parts (IsLarge l) (list_any IsLarge c) e in
    let a = leb-false _ _ h.0 in let b = none_large c h.1 in omega arith

pub small_none : (c : List Literal) → greatest_variable c < 2 ^ 27 → list_any IsLarge c ≡ false
small_none [] h = refl
small_none (l ∷ c) h =
    or_from _ _ (lt-leb 134217728 l.variable (omega arith)) (small_none c (omega arith))

-- 3. exactly when
pub addition_fault-None : (live : Live) → IsSane live
    → (id : ℕ) (c : List Literal) (hs : List (Bool × ℕ))
    → (addition_fault live id c hs ≡ None) ↔ (IsAddable live id c
    × Holds live.clause_at c (leading hs) (groups_of hs))
addition_fault-None live s id c hs = (
  λ e. elim (cases_Bool (nat_le id live.last)) [
    | inl t ↦ let z : addition_fault live id c hs ≡ Some IdOrder = rw t refl in absurd (cc)
    | inr f ↦ elim (cases_Bool (has_repeat c || is_tautology c || list_any IsLarge c)) [
      | inl t ↦ let z : addition_fault live id c hs ≡ Some ClauseForm =
          rw f (cond-true (has_repeat c || is_tautology c || list_any IsLarge c) _ _ t) in
          absurd (cc)
      | inr g ↦
          let z : addition_fault live id c hs ≡ clause_fault live c
          (walk live.clause_at (map negation c) (leading hs)) (groups_of hs) =
          rw f (cond-false (has_repeat c || is_tautology c || list_any IsLarge c) _ _ g) in
          let p = or_parts (has_repeat c || is_tautology c) (list_any IsLarge c) g in
          let q = or_parts (has_repeat c) (is_tautology c) p.0 in (
            record {
              rising = leb-false id live.last f;
              no_repeat = q.0;
              no_tautology = q.1;
              small = none_large c p.1;
            },
            clause_means live s (leading hs) c (walk live.clause_at (map negation c) (leading hs))
                (groups_of hs) refl (sym z ∙ e),
          )
    ]
  ],
  λ h. let a = h.0 in
      let f : nat_le id live.last ≡ false = lt-leb id live.last a.rising in
      rw f (cond-false (has_repeat c || is_tautology c || list_any IsLarge c) _ _
      (or_from _ _ (or_from _ _ a.no_repeat a.no_tautology) (small_none c a.small))
      ∙ clause_from live s (leading hs) c (groups_of hs) h.1),
)

-- deletions
abbrev DeletesAll : Live → List ℕ → Live → Type 0
DeletesAll old ids new =
    IsDistinct nat_eq ids × AllByRecursion (λ i. (c : List Literal) × (old.clause_at i ≡ Some c))
    ids × (new ≡ without_ids old ids)

abbrev pub less : Live → ℕ → Live
less live i = record { clause_at = λ j. cond (j == i) None (live.clause_at j); last = live.last }

pub deleted_dead : (live : Live) (i : ℕ) (is : List ℕ) → live.clause_at i ≡ None
    → deleted live (i ∷ is) ≡ None
deleted_dead live i is e = rw e refl

pub deleted_live : (live : Live) (i : ℕ) (is : List ℕ) (c : List Literal)
    → live.clause_at i ≡ Some c → deleted live (i ∷ is) ≡ deleted (less live i) is
deleted_live live i is c e = rw e refl

-- what is left after one id and the rest
left_at : (live : Live) (i : ℕ) (is : List ℕ) (j : ℕ) → (without_ids (less live i) is).clause_at j
    ≡ (without_ids live (i ∷ is)).clause_at j
left_at live i is j =
    elim (j == i) as (λ a. cond (list_any (nat_eq j) is) None (cond a None (live.clause_at j))
    ≡ cond (a || list_any (nat_eq j) is) None (live.clause_at j)) [
      | true ↦ elim (list_any (nat_eq j) is) as (λ b. cond {A = Option (List Literal)} b None None
          ≡ None) [ true ↦ refl | false ↦ refl ]
      | false ↦ refl
    ]

left_same : (live : Live) (i : ℕ) (is : List ℕ)
    → without_ids (less live i) is ≡ without_ids live (i ∷ is)
left_same live i is =
    ap (λ f. record { clause_at = f; last = live.last }) (fun_ext (left_at live i is))

nat_eq_flip : (i j : ℕ) → nat_eq i j ≡ false → nat_eq j i ≡ false
nat_eq_flip i j e = ne_eqb j i (λ z. eqb-false i j e (sym z))

abbrev IsLiveAt : Live → ℕ → Type 0
IsLiveAt live i = (c : List Literal) × (live.clause_at i ≡ Some c)

less_live : (live : Live) (i j : ℕ) → IsLiveAt (less live i) j → (nat_eq i j ≡ false)
    × IsLiveAt live j
less_live live i j h =
    elim (j == i) as (λ v. (j == i) ≡ v → cond v None (live.clause_at j) ≡ Some h.0
    → (nat_eq i j ≡ false) × IsLiveAt live j) [
      | true ↦ λ t e. absurd (cc)
      | false ↦ λ f e. (nat_eq_flip j i f, (h.0, e))
    ] refl h.1

live_less : (live : Live) (i j : ℕ) → nat_eq i j ≡ false → IsLiveAt live j
    → IsLiveAt (less live i) j
live_less live i j f h =
    (h.0, cond-false (j == i) None (live.clause_at j) (nat_eq_flip i j f) ∙ h.1)

all_less_live : (live : Live) (i : ℕ) (is : List ℕ) → AllByRecursion (IsLiveAt (less live i)) is
    → AllByRecursion (λ j. nat_eq i j ≡ false) is × AllByRecursion (IsLiveAt live) is
all_less_live live i [] h = (tt, tt)
all_less_live live i (j ∷ is) h = let a = less_live live i j h.0 in
    let b = all_less_live live i is h.1 in ((a.0, b.0), (a.1, b.1))

all_live_less : (live : Live) (i : ℕ) (is : List ℕ) → AllByRecursion (λ j. nat_eq i j ≡ false) is
    → AllByRecursion (IsLiveAt live) is → AllByRecursion (IsLiveAt (less live i)) is
all_live_less live i [] f h = tt
all_live_less live i (j ∷ is) f h = (live_less live i j f.0 h.0, all_live_less live i is f.1 h.1)

deletes_none : (live new : Live) → new ≡ live → DeletesAll live [] new
unfolding IsDistinct
deletes_none live new e = (tt, tt, e)

deletes_one : (live new : Live) (i : ℕ) (is : List ℕ) (c : List Literal) → live.clause_at i ≡ Some c
    → DeletesAll (less live i) is new → DeletesAll live (i ∷ is) new
deletes_one live new i is c u h =
    let a = all_less_live live i is h.1 in
    (IsDistinct-cons nat_eq i is a.0 h.0, ((c, u), a.1), h.2 ∙ left_same live i is)

deleted_means : (ids : List ℕ) (live new : Live) → deleted live ids ≡ Some new
    → DeletesAll live ids new
deleted_means [] live new e = deletes_none live new (cc)
deleted_means (i ∷ is) live new e =
    elim (live.clause_at i) as (λ o. live.clause_at i ≡ o → DeletesAll live (i ∷ is) new) [
      | None ↦ λ u. let z = deleted_dead live i is u in absurd (cc)
      | Some c ↦ λ u. deletes_one live new i is c u
          (deleted_means is (less live i) new (sym (deleted_live live i is c u) ∙ e))
    ] refl

deleted_from : (ids : List ℕ) (live new : Live) → DeletesAll live ids new
    → deleted live ids ≡ Some new
deleted_from [] live new h = ap Some (sym h.2)
deleted_from (i ∷ is) live new h =
    deleted_live live i is h.1.0.0 h.1.0.1
    ∙ deleted_from is (less live i) new (
      IsDistinct-tail nat_eq i is h.0,
      all_live_less live i is (IsDistinct-head nat_eq i is h.0) h.1.1,
      h.2
          ∙ sym (left_same live i is),
    )

pub deleted-Some : (live : Live) (ids : List ℕ) (lead : ℕ) (new : Live)
    → (deleted live ids ≡ Some new) ↔ Step live (DeletesLine lead ids) new
deleted-Some live ids lead new = (deleted_means ids live new, deleted_from ids live new)

-- the live clauses stay sane
pub with_clause_sane : (live : Live) → IsSane live → (id : ℕ) (c : List Literal) → live.last < id
    → has_repeat c ≡ false → IsSane (with_clause live id c)
with_clause_sane live s id c up single = record {
  in_range = record {
    none_at_zero =
        cond-false (nat_eq 0 id) (Some c) (live.clause_at 0)
        (ne_eqb 0 id (λ z. absurd (omega arith)))
        ∙ s.in_range.none_at_zero;
    none_past =
        λ i h. cond-false (nat_eq i id) (Some c) (live.clause_at i)
        (ne_eqb i id (λ z. absurd (omega arith))) ∙ s.in_range.none_past i (omega arith);
  };
  none_repeats = λ i d e.
      elim (nat_eq i id) as (λ v. cond v (Some c) (live.clause_at i) ≡ Some d
      → has_repeat d ≡ false) [
        | true ↦ λ e. let same : c ≡ d = cc in subst (λ x. has_repeat x ≡ false) same single
        | false ↦ λ e. s.none_repeats i d e
      ] e;
}

pub without_ids_sane : (live : Live) → IsSane live → (ids : List ℕ) → IsSane (without_ids live ids)
without_ids_sane live s ids = record {
  in_range = record {
    none_at_zero =
        elim (list_any (nat_eq 0) ids) as (λ v. cond v None (live.clause_at 0) ≡ None) [
          | true ↦ refl
          | false ↦ s.in_range.none_at_zero
        ];
    none_past =
        λ i h. elim (list_any (nat_eq i) ids) as (λ v. cond v None (live.clause_at i) ≡ None) [
          | true ↦
              refl
          | false ↦ s.in_range.none_past i h
        ];
  };
  none_repeats = λ i d e.
      elim (list_any (nat_eq i) ids) as (λ v. cond v None (live.clause_at i) ≡ Some d
      → has_repeat d ≡ false) [
        | true ↦ λ e. absurd (cc)
        | false ↦ λ e. s.none_repeats i d e
      ] e;
}

no_clause_repeats : (cs : List (List Literal)) → All (λ c. has_repeat c ≡ false) cs
    → (i : ℕ) (c : List Literal) → slice_get cs i ≡ Some c → has_repeat c ≡ false
no_clause_repeats [] h i c e = absurd (cc)
no_clause_repeats (d ∷ cs) h zero c e = let same : d ≡ c = cc in
    subst (λ x. has_repeat x ≡ false) same (All-head (λ x. has_repeat x ≡ false) d cs h)
no_clause_repeats (d ∷ cs) h (suc i) c e =
    no_clause_repeats cs (All-tail (λ x. has_repeat x ≡ false) d cs h) i c e

numbered_single : (cs : List (List Literal)) → All (λ c. has_repeat c ≡ false) cs
    → (i : ℕ) (c : List Literal) → numbered cs i ≡ Some c → has_repeat c ≡ false
numbered_single cs h zero c e = absurd (cc)
numbered_single cs h (suc i) c e = no_clause_repeats cs h i c e

pub start_sane : (cs : List (List Literal)) → All (λ c. has_repeat c ≡ false) cs
    → IsSane (start_of cs)
start_sane cs h = record {
  in_range = record { none_at_zero = refl; none_past = numbered_past cs };
  none_repeats = numbered_single cs h;
}
