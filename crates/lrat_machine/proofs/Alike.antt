-- What hints do depends on which literals are true, and not on their order.
use Rattle.std.proofs.Common.{◌≡◌, ℕ, List, [], ◌∷◌, ◌++◌, map, Option, Some, None, refl, sym, ◌∙◌}
use Rattle.std.proofs.Common.{ap, subst, inl, inr}
use Rattle.std.proofs.Math.Bool.{cond}
use Rattle.std.specs.List.{list_any}
use Rattle.std.proofs.lemmas.Bool.{cases_Bool}
use Rattle.cnf.specs.Literal.{Literal, negation}
use Rattle.cnf.specs.Clause.{contains_literal, without_literal}
use Rattle.cnf.specs.Refute.{Clauses}
use Rattle.cnf.specs.Lrat.{Live, CandidateHints}
use Rattle.lrat_machine.specs.declared.verdicts.Cause.TheVariants.{Candidates}
use Rattle.lrat_live.specs.Listed.{same_ids}
use Rattle.lrat_machine.specs.Verdict.{HintWalk, Open, Refuted, Fault}
use Rattle.lrat_machine.specs.Verdict.{HintOutcome, Dead, NotUnit, Conflict}
use Rattle.lrat_machine.specs.Verdict.{Makes, open_literals, outcome_of, goes_on, walk, of_walk}
use Rattle.lrat_machine.specs.Verdict.{ids_with, group_fault, groups_fault, clause_fault}
use Rattle.lrat_machine.specs.Steps.{HaveSame, EndAlike}
use Rattle.lrat_machine.proofs.Walk.{outcome_on, outcome_is}
use Rattle.lrat_machine.proofs.Steps.{IsTrueAlready, group_dead, group_silent, group_walks}

pub HaveSame-cons : (l : Literal) (A B : List Literal) → HaveSame A B → HaveSame (l ∷ A) (l ∷ B)
HaveSame-cons l A B s = λ k. let e = s k in cc

pub HaveSame-append : (xs A B : List Literal) → HaveSame A B → HaveSame (xs ++ A) (xs ++ B)
HaveSame-append [] A B s = s
HaveSame-append (x ∷ xs) A B s = HaveSame-cons x (xs ++ A) (xs ++ B) (HaveSame-append xs A B s)

open-same : (A B c : List Literal) → HaveSame A B → open_literals A c ≡ open_literals B c
open-same A B [] s = refl
open-same A B (l ∷ c) s = let e = s (negation l) in let f = open-same A B c s in cc

outcome_on-same : (A B ys : List Literal) → HaveSame A B → outcome_on A ys ≡ outcome_on B ys
outcome_on-same A B [] s = refl
outcome_on-same A B (l ∷ []) s = let e = s l in cc
outcome_on-same A B (l ∷ k ∷ more) s = refl

outcome-same : (A B : List Literal) (o : Option (List Literal)) → HaveSame A B
    → outcome_of o A ≡ outcome_of o B
outcome-same A B None s = refl
outcome-same A B (Some c) s =
    outcome_is c A ∙ outcome_on-same A B (open_literals A c) s
    ∙ ap (outcome_on B) (open-same A B c s) ∙ sym (outcome_is c B)

-- ends
pub EndAlike-refl : (w : HintWalk) → EndAlike w w
EndAlike-refl (Open A) = λ l. refl
EndAlike-refl Refuted = tt
EndAlike-refl (Fault f) = refl

pub EndAlike-step : (u v w : HintWalk) → EndAlike u v → EndAlike v w → EndAlike u w
EndAlike-step (Open A) (Open B) (Open C) p q = λ l. p l ∙ q l
EndAlike-step (Open A) (Open B) Refuted p q = absurd q
EndAlike-step (Open A) (Open B) (Fault f) p q = absurd q
EndAlike-step (Open A) Refuted w p q = absurd p
EndAlike-step (Open A) (Fault f) w p q = absurd p
EndAlike-step Refuted (Open B) w p q = absurd p
EndAlike-step Refuted Refuted w p q = q
EndAlike-step Refuted (Fault f) w p q = absurd p
EndAlike-step (Fault f) (Open B) w p q = absurd p
EndAlike-step (Fault f) Refuted w p q = absurd p
EndAlike-step (Fault f) (Fault g) (Open C) p q = absurd q
EndAlike-step (Fault f) (Fault g) Refuted p q = absurd q
EndAlike-step (Fault f) (Fault g) (Fault h) p q = p ∙ q

goes_on-alike : (o : HintOutcome) (hs : List ℕ) (m n : Literal → HintWalk)
    → ((l : Literal) → EndAlike (m l) (n l)) → EndAlike (goes_on o hs m) (goes_on o hs n)
goes_on-alike Dead hs m n f = refl
goes_on-alike NotUnit hs m n f = refl
goes_on-alike Conflict [] m n f = tt
goes_on-alike Conflict (h ∷ hs) m n f = refl
goes_on-alike (Makes l) hs m n f = f l

pub walk-same : (at : Clauses) (A B : List Literal) → HaveSame A B → (hs : List ℕ)
    → EndAlike (walk at A hs) (walk at B hs)
walk-same at A B s [] = s
walk-same at A B s (h ∷ hs) =
    subst (λ o. EndAlike (goes_on o hs (λ l. walk at (l ∷ A) hs)) (walk at B (h ∷ hs)))
    (sym (outcome-same A B (at h) s))
    (goes_on-alike (outcome_of (at h) B) hs (λ l. walk at (l ∷ A) hs) (λ l. walk at (l ∷ B) hs)
    (λ l. walk-same at (l ∷ A) (l ∷ B) (HaveSame-cons l A B s) hs))

pub of_walk-alike : (v w : HintWalk) → EndAlike v w → of_walk v ≡ of_walk w
of_walk-alike (Open A) (Open B) p = refl
of_walk-alike (Open A) Refuted p = absurd p
of_walk-alike (Open A) (Fault g) p = absurd p
of_walk-alike Refuted (Open B) p = absurd p
of_walk-alike Refuted Refuted p = refl
of_walk-alike Refuted (Fault g) p = absurd p
of_walk-alike (Fault f) (Open B) p = absurd p
of_walk-alike (Fault f) Refuted p = absurd p
of_walk-alike (Fault f) (Fault g) p = ap Some p

-- groups
any-same : (A B xs : List Literal) → HaveSame A B → list_any (λ k. contains_literal k A) xs
    ≡ list_any (λ k. contains_literal k B) xs
any-same A B [] s = refl
any-same A B (x ∷ xs) s = let e = s x in let f = any-same A B xs s in cc

pub group_fault-same : (at : Clauses) (p : Literal) (A B : List Literal) → HaveSame A B
    → (g : CandidateHints) → group_fault at p A g ≡ group_fault at p B g
group_fault-same at p A B s g = by (at g.candidate) refl
  where
    by : (o : Option (List Literal)) → at g.candidate ≡ o
        → group_fault at p A g ≡ group_fault at p B g
    by None u = group_dead at p A g u ∙ sym (group_dead at p B g u)
    by (Some d) u =
        let e : IsTrueAlready p A d ≡ IsTrueAlready p B d =
        any-same A B (without_literal (negation p) d) s in
        elim (cases_Bool (IsTrueAlready p B d)) [
          | inl t ↦ group_silent at p A g d u (e ∙ t) g.hints refl
              ∙ sym (group_silent at p B g d u t g.hints refl)
          | inr f ↦
              let xs = map negation (without_literal (negation p) d) in
              group_walks at p A g d u (e ∙ f)
              ∙ of_walk-alike _ _
              (walk-same at (xs ++ A) (xs ++ B) (HaveSame-append xs A B s) g.hints)
              ∙ sym (group_walks at p B g d u f)
        ]

pub groups_fault-same : (at : Clauses) (p : Literal) (A B : List Literal) → HaveSame A B
    → (gs : List CandidateHints) → groups_fault at p A gs ≡ groups_fault at p B gs
groups_fault-same at p A B s [] = refl
groups_fault-same at p A B s (g ∷ gs) = let e = group_fault-same at p A B s g in
    let f = groups_fault-same at p A B s gs in cc

pub clause_fault-alike : (live : Live) (c : List Literal) (v w : HintWalk)
    (gs : List CandidateHints) → EndAlike v w → clause_fault live c v gs ≡ clause_fault live c w gs
clause_fault-alike live c (Open A) Refuted gs p = absurd p
clause_fault-alike live c (Open A) (Fault g) gs p = absurd p
clause_fault-alike live c Refuted (Open B) gs p = absurd p
clause_fault-alike live c Refuted Refuted gs p = refl
clause_fault-alike live c Refuted (Fault g) gs p = absurd p
clause_fault-alike live c (Fault f) (Open B) gs p = absurd p
clause_fault-alike live c (Fault f) Refuted gs p = absurd p
clause_fault-alike live c (Fault f) (Fault g) gs p = ap Some p
clause_fault-alike live [] (Open A) (Open B) gs p = refl
clause_fault-alike live (q ∷ c) (Open A) (Open B) gs p =
    let e = groups_fault-same live.clause_at q A B p gs in
    ap (λ x. cond (same_ids (map (λ g. g.candidate) gs)
    (ids_with live.clause_at (negation q) live.last)) x (Some Candidates)) e
