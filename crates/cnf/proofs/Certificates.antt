-- A certificate that is accepted shows that no assignment satisfies the formula.
use Rattle.std.proofs.Common.{◌≡◌, ℕ, zero, suc, Bool, true, false, not, ◌&&◌, List, [], ◌∷◌, ◌++◌}
use Rattle.std.proofs.Common.{map, Some, None, inl, inr, refl, sym, ◌∙◌, ap, subst}
use Rattle.std.specs.Prelude.{if◌then◌else◌, ◌==◌, All, Contains, nat_eq}
use Rattle.std.specs.List.{AllByRecursion, list_any}
use Rattle.std.proofs.lemmas.Bool.{or_cases, eq-eqb, false≢true, true≢false, or_parts, or_left}
use Rattle.std.proofs.lemmas.Bool.{or_right}
use Rattle.std.proofs.lemmas.Option.{none-some, same_Some, get_or_from_slice_get, slice_get_within}
use Rattle.std.proofs.lemmas.List.Elements.{All-contains, All-map, All-weaker, All-from_recursion}
use Rattle.cnf.specs.Literal.{Literal, Assignment, negation, literal_value, literal_eq, same_bool}
use Rattle.cnf.specs.Clause.{Satisfies, clause_value, contains_literal, without_literal}
use Rattle.cnf.specs.Formula.{numbered, IsUnsatisfiable}
use Rattle.cnf.specs.Refute.{Clauses, Refutes}
use Rattle.cnf.specs.Lrat.{CandidateHints, ProofLine, Addition, Deletion, Live, start_of}
use Rattle.cnf.specs.Lrat.{HoldsForCandidate, candidates_of, IsRat, Step, Chain, adds_empty}
use Rattle.cnf.specs.Lrat.{AcceptsFrom, Accepts}
use Rattle.cnf.proofs.Sound.{AreTrue, AllHold, true_member, leads_true, refuted, negations_true}
use Rattle.cnf.proofs.Sound.{rup_holds}

-- t, but with this literal true
abbrev pub made_true : Assignment → Literal → Assignment
made_true t p v = if p.variable == v then not p.negated else t v

made_at : (b m : Bool) (v : Bool) → b ≡ true
    → (if m then not (if b then not m else v) else (if b then not m else v)) ≡ true
made_at true true v e = refl
made_at true false v e = refl
made_at false m v e = absurd (false≢true e)

pub made : (t : Assignment) (p : Literal) → literal_value (made_true t p) p ≡ true
made t p =
    made_at (p.variable == p.variable) p.negated (t p.variable) (eq-eqb p.variable p.variable refl)

kept_at : (b m n v : Bool) → (if n then not v else v) ≡ true → (b && same_bool (not m) n) ≡ false
    → (if n then not (if b then not m else v) else (if b then not m else v)) ≡ true
kept_at false m n v e d = e
kept_at true true true v e d = refl
kept_at true false false v e d = refl
kept_at true true false v e d = absurd (true≢false d)
kept_at true false true v e d = absurd (true≢false d)

-- only the literal's negation can become false
pub literal_kept : (t : Assignment) (p k : Literal) → literal_value t k ≡ true
    → literal_eq (negation p) k ≡ false → literal_value (made_true t p) k ≡ true
literal_kept t p k e d = kept_at (p.variable == k.variable) p.negated k.negated (t k.variable) e d

pub clause_kept : (t : Assignment) (p : Literal) (c : List Literal) → clause_value t c ≡ true
    → contains_literal (negation p) c ≡ false → clause_value (made_true t p) c ≡ true
clause_kept t p [] e d = e
clause_kept t p (k ∷ c) e d =
    let n = or_parts (literal_eq (negation p) k) (contains_literal (negation p) c) d in
    elim (or_cases (literal_value t k) (clause_value t c) e) [
      | inl h ↦ or_left (literal_value (made_true t p) k) (clause_value (made_true t p) c)
          (literal_kept t p k h n.0)
      | inr h ↦ or_right (literal_value (made_true t p) k) (clause_value (made_true t p) c)
          (clause_kept t p c h n.1)
    ]

-- a clause that is true in another literal than the negation stays true
pub rest_kept : (t : Assignment) (p : Literal) (d : List Literal)
    → clause_value t (without_literal (negation p) d) ≡ true → clause_value (made_true t p) d ≡ true
rest_kept t p [] e = e
rest_kept t p (k ∷ d) e =
    elim (literal_eq (negation p) k) as (λ b. literal_eq (negation p) k ≡ b
    → clause_value t (if not b then k ∷ without_literal (negation p) d
    else without_literal (negation p) d) ≡ true → clause_value (made_true t p) (k ∷ d) ≡ true) [
      | true ↦ λ q h. or_right (literal_value (made_true t p) k) (clause_value (made_true t p) d)
          (rest_kept t p d h)
      | false ↦ λ q h. elim (or_cases (literal_value t k)
          (clause_value t (without_literal (negation p) d)) h) [
            | inl a ↦ or_left (literal_value (made_true t p) k) (clause_value (made_true t p) d)
                (literal_kept t p k a q)
            | inr a ↦ or_right (literal_value (made_true t p) k) (clause_value (made_true t p) d)
                (rest_kept t p d a)
          ]
    ] refl e

pub member_true : (t : Assignment) (B w : List Literal) → AreTrue t B
    → list_any (λ k. contains_literal k B) w ≡ true → clause_value t w ≡ true
member_true t B [] a e = e
member_true t B (k ∷ w) a e =
    elim (or_cases (contains_literal k B) (list_any (λ k. contains_literal k B) w) e) [
      | inl h ↦ or_left (literal_value t k) (clause_value t w) (true_member t B k a h)
      | inr h ↦ or_right (literal_value t k) (clause_value t w) (member_true t B w a h)
    ]

AreTrue-append : (t : Assignment) (A B : List Literal) → AreTrue t A → AreTrue t B
    → AreTrue t (A ++ B)
AreTrue-append t [] B a b = b
AreTrue-append t (k ∷ A) B a b = (a.0, AreTrue-append t A B a.1 b)

-- a clause that the hints refute is true wherever the clauses hold and B is true
pub refuted_rest : (t : Assignment) (at : Clauses) (B w : List Literal) (hs : List ℕ) → AllHold t at
    → AreTrue t B → Refutes at (map negation w ++ B) hs → clause_value t w ≡ true
refuted_rest t at B w hs all b r =
    elim (clause_value t w) as (λ v. clause_value t w ≡ v → v ≡ true) [
      | true ↦ λ e. refl
      | false ↦ λ e. absurd (refuted t at (map negation w ++ B) hs all
          (AreTrue-append t (map negation w) B (negations_true t w e) b) r)
    ] refl

pub candidate_holds : (t : Assignment) (at : Clauses) (p : Literal) (B : List Literal)
    (g : CandidateHints) (d : List Literal) → AllHold t at → AreTrue t B
    → HoldsForCandidate at p B g → at g.candidate ≡ Some d → Satisfies (made_true t p) d
candidate_holds t at p B g d all b h e =
    let same : h.0 ≡ d = same_Some h.0 d (sym h.1 ∙ e) in
    subst (λ x. Satisfies (made_true t p) x) same
    (rest_kept t p h.0 (elim h.2 [
      | inl x ↦ member_true t B (without_literal (negation p) h.0) b x.0
      | inr x ↦ refuted_rest t at B (without_literal (negation p) h.0) g.hints all b x.1
    ]))

group_of : (P : CandidateHints → Type 0) (gs : List CandidateHints) (i : ℕ) → AllByRecursion P gs
    → Contains (candidates_of gs) i → (g : CandidateHints) × (g.candidate ≡ i) × P g
group_of P gs i each c =
    let Q : ℕ → Type 0 = λ j. (g : CandidateHints) × (g.candidate ≡ j) × P g in
    All-contains Q (candidates_of gs) i
    (All-map Q (λ g. g.candidate) gs (All-weaker P (λ g. Q g.candidate) (λ g h. (g, refl, h)) gs
    (All-from_recursion P gs each))) c

-- all clauses hold with the pivot made true, if they hold at an assignment that makes the new
-- clause false
pub rat_holds : (t : Assignment) (at : Clauses) (c : List Literal) (hs : List ℕ)
    (gs : List CandidateHints) (r : IsRat at c hs gs) → AllHold t at → clause_value t c ≡ false
    → AllHold (made_true t r.pivot) at
rat_holds t at c hs gs r all e i d live =
    let b : AreTrue t r.reached =
    leads_true t at (map negation c) hs r.reached all (negations_true t c e) r.leads in
    elim (contains_literal (negation r.pivot) d) as (λ v. contains_literal (negation r.pivot) d ≡ v
    → Satisfies (made_true t r.pivot) d) [
      | false ↦ λ n. clause_kept t r.pivot d (all i d live) n
      | true ↦ λ n.
          let f =
          group_of (HoldsForCandidate at r.pivot r.reached) gs i r.each
          ((r.complete i).1 (d, live, n)) in
          candidate_holds t at r.pivot r.reached f.0 d all b f.2 (ap at f.1 ∙ live)
    ] refl

pub rat_clause : (t : Assignment) (p : Literal) (others c : List Literal) → c ≡ p ∷ others
    → Satisfies (made_true t p) c
rat_clause t p others c e =
    subst (λ x. Satisfies (made_true t p) x) (sym e)
    (or_left (literal_value (made_true t p) p) (clause_value (made_true t p) others) (made t p))

-- some assignment satisfies all clauses that are live
abbrev pub IsSatisfiable : Clauses → Type 0
IsSatisfiable at = (t : Assignment) × AllHold t at

pub added_holds : (t : Assignment) (at : Clauses) (id : ℕ) (c : List Literal) → AllHold t at
    → Satisfies t c → AllHold t (λ i. if i == id then Some c else at i)
added_holds t at id c all s i d live =
    elim (i == id) as (λ b. (if b then Some c else at i) ≡ Some d → Satisfies t d) [
      | true ↦ λ e. subst (λ x. Satisfies t x) (same_Some c d e) s
      | false ↦ λ e. all i d e
    ] live

pub deleted_holds : (t : Assignment) (at : Clauses) (ids : List ℕ) → AllHold t at
    → AllHold t (λ i. if list_any (nat_eq i) ids then None else at i)
deleted_holds t at ids all i d live =
    elim (list_any (nat_eq i) ids) as (λ b. (if b then None else at i) ≡ Some d → Satisfies t d) [
      | true ↦ λ e. absurd (none-some d e)
      | false ↦ λ e. all i d e
    ] live

-- a correct line keeps the live clauses satisfiable
pub step_satisfiable : (old : Live) (l : ProofLine) (new : Live) → Step old l new
    → IsSatisfiable old.clause_at → IsSatisfiable new.clause_at
step_satisfiable old (Deletion lead ids) new s sat =
    subst (λ (x : Live). IsSatisfiable x.clause_at) (sym s.2) (
      sat.0,
      deleted_holds sat.0 old.clause_at ids sat.1,
    )
step_satisfiable old (Addition id c hs gs) new s sat =
    subst (λ (x : Live). IsSatisfiable x.clause_at) (sym s.2) (elim s.1 [
      | inl rup ↦ (
        sat.0,
        added_holds sat.0 old.clause_at id c sat.1
            (rup_holds sat.0 old.clause_at c hs sat.1 rup.1),
      )
      | inr rat ↦ elim (clause_value sat.0 c) as (λ v. clause_value sat.0 c ≡ v
          → IsSatisfiable (λ i. if i == id then Some c else old.clause_at i)) [
            | true ↦ λ e. (sat.0, added_holds sat.0 old.clause_at id c sat.1 e)
            | false ↦ λ e. (
              made_true sat.0 rat.pivot,
              added_holds (made_true sat.0 rat.pivot) old.clause_at id c
                  (rat_holds sat.0 old.clause_at c hs gs rat sat.1 e)
                  (rat_clause sat.0 rat.pivot rat.others c rat.first),
            )
          ] refl
    ])

pub chain_satisfiable : (ls : List ProofLine) (old new : Live) → Chain old ls new
    → IsSatisfiable old.clause_at → IsSatisfiable new.clause_at
chain_satisfiable [] old new c sat = subst (λ (x : Live). IsSatisfiable x.clause_at) (sym c) sat
chain_satisfiable (l ∷ ls) old new c sat =
    chain_satisfiable ls c.0 new c.2 (step_satisfiable old l c.0 c.1 sat)

pub chain_parts : (ls ms : List ProofLine) (old new : Live) → Chain old (ls ++ ms) new
    → (mid : Live) × Chain old ls mid × Chain mid ms new
chain_parts [] ms old new c = (old, refl, c)
chain_parts (l ∷ ls) ms old new c = let p = chain_parts ls ms c.0 new c.2 in
    (p.0, (c.0, c.1, p.1), p.2)

-- after a line that adds the empty clause nothing satisfies what is live
pub empty_added : (old : Live) (l : ProofLine) (new : Live) → Step old l new → adds_empty l ≡ true
    → IsSatisfiable new.clause_at → ⊥
empty_added old (Deletion lead ids) new s e sat = false≢true e
empty_added old (Addition id (k ∷ c) hs gs) new s e sat = false≢true e
empty_added old (Addition id [] hs gs) new s e sat =
    let live : new.clause_at id ≡ Some [] = ap (λ (x : Live). x.clause_at id) s.2
    ∙ ap (λ b. if b then Some [] else old.clause_at id) (eq-eqb id id refl) in
    false≢true (sat.1 id [] live)

pub start_holds : (t : Assignment) (cs : List (List Literal)) → All (Satisfies t) cs
    → AllHold t (numbered cs)
start_holds t cs all zero c live = absurd (none-some c live)
start_holds t cs all (suc i) c live =
    subst (λ x. Satisfies t x) (get_or_from_slice_get cs i c c live)
    (all i c (slice_get_within cs i c live))

-- from any live clauses that some assignment satisfies, no lines are accepted
pub accepted_from : (start : Live) (ls : List ProofLine) → AcceptsFrom start ls
    → IsSatisfiable start.clause_at → ⊥
accepted_from start ls a sat =
    let p =
    chain_parts a.front (a.final ∷ []) start a.left
    (subst (λ x. Chain start x a.left) a.split a.chain) in
    let q = p.2 in
    empty_added p.0 a.final q.0 q.1 a.ends
    (step_satisfiable p.0 a.final q.0 q.1 (chain_satisfiable a.front start p.0 p.1 sat))

-- the law of certificates
pub certificate_sound : (formula : List (List Literal)) (ls : List ProofLine) → Accepts formula ls
    → IsUnsatisfiable formula
certificate_sound formula ls a t all =
    accepted_from (start_of formula) ls a (t, start_holds t formula all)
