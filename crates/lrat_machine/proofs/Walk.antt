-- What a walk along hints answers, against what hints lead to.
use Rattle.std.proofs.Common.{◌≡◌, ℕ, true, false, not, List, [], ◌∷◌, ◌++◌, Option, Some, None}
use Rattle.std.proofs.Common.{◌⊎◌, inl, inr, refl, sym, ◌∙◌, ap, subst, append-nil}
use Rattle.std.proofs.Math.Bool.{cond}
use Rattle.std.specs.List.{AllByRecursion}
use Rattle.std.proofs.lemmas.Bool.{or_cases, or_parts, or_left, or_right, both_ways, false≢true}
use Rattle.cnf.specs.Literal.{Literal, negation, literal_eq}
use Rattle.cnf.specs.Clause.{contains_literal, has_repeat}
use Rattle.cnf.specs.Refute.{IsUnit, IsFalseUnder, Clauses, Leads, Refutes}
use Rattle.cnf.proofs.Laws.{literal_eq-refl, literal_eq-true}
use Rattle.lrat_machine.specs.Verdict.{HintWalk, Open, Refuted}
use Rattle.lrat_machine.specs.Verdict.{HintOutcome, Dead, NotUnit, Conflict, Makes}
use Rattle.lrat_machine.specs.Verdict.{open_literals, outcome_of, goes_on, walk}

pub literal_ne : (k l : Literal) → literal_eq k l ≡ false → l ≡ k → ⊥
literal_ne k l e h = both_ways _ e (subst (λ m. literal_eq k m ≡ true) (sym h) (literal_eq-refl k))

open_none : (c A : List Literal) → open_literals A c ≡ [] → IsFalseUnder c A
open_none [] A e = tt
open_none (l ∷ c) A e =
    elim (contains_literal (negation l) A) as (λ v. contains_literal (negation l) A ≡ v
    → cond (not v) (l ∷ open_literals A c) (open_literals A c) ≡ []
    → (contains_literal (negation l) A ≡ true) × IsFalseUnder c A) [
      | true ↦ λ t e. (t, open_none c A e)
      | false ↦ λ t e. absurd (cc)
    ] refl e

none_open : (c A : List Literal) → IsFalseUnder c A → open_literals A c ≡ []
none_open [] A f = refl
none_open (l ∷ c) A f = rw f.0 (none_open c A f.1)

abbrev OthersFalse : List Literal → List Literal → Literal → Type 0
OthersFalse c A l = AllByRecursion (λ k. (k ≡ l) ⊎ (contains_literal (negation k) A ≡ true)) c

others_from_false : (c A : List Literal) (l : Literal) → IsFalseUnder c A → OthersFalse c A l
others_from_false [] A l f = tt
others_from_false (k ∷ c) A l f = (inr f.0, others_from_false c A l f.1)

one_open : (c A : List Literal) (l : Literal) → open_literals A c ≡ l ∷ []
    → (contains_literal l c ≡ true) × (contains_literal (negation l) A ≡ false) × OthersFalse c A l
one_open [] A l e = absurd (cc)
one_open (k ∷ c) A l e =
    elim (contains_literal (negation k) A) as (λ v. contains_literal (negation k) A ≡ v
    → cond (not v) (k ∷ open_literals A c) (open_literals A c) ≡ l ∷ []
    → (contains_literal l (k ∷ c) ≡ true) × (contains_literal (negation l) A ≡ false)
    × OthersFalse (k ∷ c) A l) [
      | true ↦ λ t e. let r = one_open c A l e in
          (or_right (literal_eq l k) (contains_literal l c) r.0, r.1, (inr t, r.2))
      | false ↦ λ t e.
          let same : k ≡ l = cc in
          let rest : open_literals A c ≡ [] = cc in (
            or_left _ _ (subst (λ m. literal_eq l m ≡ true) (sym same) (literal_eq-refl l)),
            subst (λ m. contains_literal (negation m) A ≡ false) same t,
            (inl same, others_from_false c A l (open_none c A rest)),
          )
    ] refl e

others_false : (c A : List Literal) (l : Literal) → contains_literal l c ≡ false → OthersFalse c A l
    → IsFalseUnder c A
others_false [] A l e o = tt
others_false (k ∷ c) A l e o =
    let h = or_parts (literal_eq l k) (contains_literal l c) e in (
      elim o.0 [ inl same ↦ absurd (literal_ne l k h.0 same) | inr t ↦ t ],
      others_false c A l h.1 o.1,
    )

open_one : (c A : List Literal) (l : Literal) → has_repeat c ≡ false → contains_literal l c ≡ true
    → contains_literal (negation l) A ≡ false → OthersFalse c A l → open_literals A c ≡ l ∷ []
open_one [] A l n m f o = absurd (false≢true m)
open_one (k ∷ c) A l n m f o =
    let h = or_parts (contains_literal k c) (has_repeat c) n in
    elim (literal_eq l k) as (λ v. literal_eq l k ≡ v → open_literals A (k ∷ c) ≡ l ∷ []) [
      | true ↦ λ t.
          let same : l ≡ k = literal_eq-true l k t in
          let here : contains_literal (negation k) A ≡ false =
          subst (λ x. contains_literal (negation x) A ≡ false) same f in
          let gone : contains_literal l c ≡ false =
          subst (λ x. contains_literal x c ≡ false) (sym same) h.0 in
          rw here (ap (λ cs. k ∷ cs) (none_open c A (others_false c A l gone o.1))
          ∙ ap (λ x. x ∷ []) (sym same))
      | false ↦ λ t.
          let there : contains_literal (negation k) A ≡ true =
          elim o.0 [ inl same ↦ absurd (literal_ne l k t same) | inr y ↦ y ] in
          let later : contains_literal l c ≡ true =
          elim (or_cases (literal_eq l k) (contains_literal l c) m) [
            | inl y ↦
                absurd (both_ways _ t y)
            | inr y ↦ y
          ] in
          rw there (open_one c A l h.1 later f o.1)
    ] refl

-- what one hint does
abbrev pub outcome_on : List Literal → List Literal → HintOutcome
outcome_on A [] = Conflict
outcome_on A (l ∷ []) = cond (contains_literal l A) NotUnit (Makes l)
outcome_on A (l ∷ k ∷ more) = NotUnit

pub outcome_is : (c A : List Literal) → outcome_of (Some c) A ≡ outcome_on A (open_literals A c)
unfolding outcome_on
outcome_is c A =
    elim (open_literals A c) as (λ ys. open_literals A c ≡ ys
    → outcome_of (Some c) A ≡ outcome_on A (open_literals A c)) [
      | [] ↦ λ t. rw t refl
      | l ∷ [] ↦ λ t. rw t refl
      | l ∷ k ∷ more ↦ λ t. rw t refl
    ] refl

abbrev DoesConflict : Option (List Literal) → List Literal → Type 0
DoesConflict o A = (c : List Literal) × (o ≡ Some c) × IsFalseUnder c A

abbrev DoesMake : Option (List Literal) → List Literal → Literal → Type 0
DoesMake o A l = (c : List Literal) × (o ≡ Some c) × IsUnit c A l

pub conflict_on : (A ys : List Literal) → outcome_on A ys ≡ Conflict → ys ≡ []
unfolding outcome_on
conflict_on A [] e = refl
conflict_on A (l ∷ []) e =
    elim (contains_literal l A) as (λ v. cond v NotUnit (Makes l) ≡ Conflict → (l ∷ []) ≡ [])
    [ true ↦ λ e. absurd (cc) | false ↦ λ e. absurd (cc) ] e
conflict_on A (l ∷ k ∷ more) e = absurd (cc)

pub makes_on : (A ys : List Literal) (l : Literal) → outcome_on A ys ≡ Makes l
    → (ys ≡ l ∷ []) × (contains_literal l A ≡ false)
unfolding outcome_on
makes_on A [] l e = absurd (cc)
makes_on A (k ∷ []) l e =
    elim (contains_literal k A) as (λ v. contains_literal k A ≡ v
    → cond v NotUnit (Makes k) ≡ Makes l → ((k ∷ []) ≡ l ∷ []) × (contains_literal l A ≡ false)) [
      | true ↦ λ t e. absurd (cc)
      | false ↦ λ t e. let same : k ≡ l = cc in
          (ap (λ x. x ∷ []) same, subst (λ x. contains_literal x A ≡ false) same t)
    ] refl e
makes_on A (k ∷ j ∷ more) l e = absurd (cc)

pub conflict_means : (o : Option (List Literal)) (A : List Literal) → outcome_of o A ≡ Conflict
    → DoesConflict o A
conflict_means None A e = absurd (cc)
conflict_means (Some c) A e =
    (c, refl, open_none c A (conflict_on A (open_literals A c) (sym (outcome_is c A) ∙ e)))

pub makes_means : (o : Option (List Literal)) (A : List Literal) (l : Literal)
    → outcome_of o A ≡ Makes l → DoesMake o A l
makes_means None A l e = absurd (cc)
makes_means (Some c) A l e =
    let h = makes_on A (open_literals A c) l (sym (outcome_is c A) ∙ e) in
    let r = one_open c A l h.0 in
    (c, refl, record { member = r.0; not_true = h.1; not_false = r.1; others = r.2 })

conflict_from : (c A : List Literal) → IsFalseUnder c A → outcome_of (Some c) A ≡ Conflict
conflict_from c A f = rw (none_open c A f) refl

makes_from : (c A : List Literal) (l : Literal) → has_repeat c ≡ false → IsUnit c A l
    → outcome_of (Some c) A ≡ Makes l
makes_from c A l n u = rw (open_one c A l n u.member u.not_false u.others) (rw u.not_true refl)

-- live clauses have no literal twice
abbrev pub NoneRepeats : Clauses → Type 0
NoneRepeats at = (i : ℕ) (c : List Literal) → at i ≡ Some c → has_repeat c ≡ false

last_one : (hs : List ℕ) (more : Literal → HintWalk) → goes_on Conflict hs more ≡ Refuted → hs ≡ []
last_one [] more e = refl
last_one (h ∷ hs) more e = absurd (cc)

not_open : (hs : List ℕ) (more : Literal → HintWalk) (B : List Literal)
    → goes_on Conflict hs more ≡ Open B → ⊥
not_open [] more B e = cc
not_open (h ∷ hs) more B e = cc

pub refutes_from_walk : (at : Clauses) (A : List Literal) (hs : List ℕ) → walk at A hs ≡ Refuted
    → Refutes at A hs
refutes_from_walk at A [] e = absurd (cc)
refutes_from_walk at A (h ∷ hs) e =
    elim (outcome_of (at h) A) as (λ o. outcome_of (at h) A ≡ o
    → goes_on o hs (λ l. walk at (l ∷ A) hs) ≡ Refuted → Refutes at A (h ∷ hs)) [
      | Dead ↦ λ t e. absurd (cc)
      | NotUnit ↦ λ t e. absurd (cc)
      | Conflict ↦ λ t e.
          let m = conflict_means (at h) A t in
          record {
            front = [];
            final = h;
            split = ap (λ x. h ∷ x) (last_one hs _ e);
            reached = A;
            leads = refl;
            clause = m.0;
            live = m.1;
            conflict = m.2;
          }
      | Makes l ↦ λ t e.
          let m = makes_means (at h) A l t in
          let r = refutes_from_walk at (l ∷ A) hs e in
          record {
            front = h ∷ r.front;
            final = r.final;
            split = ap (λ x. h ∷ x) r.split;
            reached = r.reached;
            leads = (m.0, l, m.1, m.2, r.leads);
            clause = r.clause;
            live = r.live;
            conflict = r.conflict;
          }
    ] refl e

pub leads_from_walk : (at : Clauses) (A : List Literal) (hs : List ℕ) (B : List Literal)
    → walk at A hs ≡ Open B → Leads at A hs B
leads_from_walk at A [] B e = cc
leads_from_walk at A (h ∷ hs) B e =
    elim (outcome_of (at h) A) as (λ o. outcome_of (at h) A ≡ o
    → goes_on o hs (λ l. walk at (l ∷ A) hs) ≡ Open B → Leads at A (h ∷ hs) B) [
      | Dead ↦ λ t e. absurd (cc)
      | NotUnit ↦ λ t e. absurd (cc)
      | Conflict ↦ λ t e. absurd (not_open hs _ B e)
      | Makes l ↦ λ t e. let m = makes_means (at h) A l t in
          (m.0, l, m.1, m.2, leads_from_walk at (l ∷ A) hs B e)
    ] refl e

-- hints that lead on are walked on
walk_on : (at : Clauses) (n : NoneRepeats at) (A : List Literal) (front more : List ℕ)
    (B : List Literal) → Leads at A front B → walk at A (front ++ more) ≡ walk at B more
walk_on at n A [] more B e = ap (λ x. walk at x more) (sym e)
walk_on at n A (h ∷ front) more B w =
    rw (w.2, makes_from w.0 A w.1 (n h w.0 w.2) w.3) (walk_on at n (w.1 ∷ A) front more B w.4)

pub walk_from_refutes : (at : Clauses) (n : NoneRepeats at) (A : List Literal) (hs : List ℕ)
    → Refutes at A hs → walk at A hs ≡ Refuted
walk_from_refutes at n A hs r =
    ap (walk at A) r.split ∙ walk_on at n A r.front (r.final ∷ []) r.reached r.leads
    ∙ ap (λ o. goes_on o [] (λ l. Open (l ∷ r.reached))) (ap (λ x. outcome_of x r.reached) r.live
    ∙ conflict_from r.clause r.reached r.conflict)

pub walk_from_leads : (at : Clauses) (n : NoneRepeats at) (A : List Literal) (hs : List ℕ)
    (B : List Literal) → Leads at A hs B → walk at A hs ≡ Open B
walk_from_leads at n A hs B w = ap (walk at A) (sym (append-nil hs)) ∙ walk_on at n A hs [] B w
