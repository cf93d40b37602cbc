-- What the values of a clause's literals say of the clause.
use Rattle.std.proofs.Common.{◌≡◌, ◌≢◌, ℕ, ◌<◌, ◌≤◌, Bool, true, false, List, [], ◌∷◌, Option, Some}
use Rattle.std.proofs.Common.{None, ◌⊎◌, inl, inr, refl, sym, subst, ap, arith}
use Rattle.std.specs.Prelude.{All, if◌then◌else◌}
use Rattle.std.specs.List.{AllByRecursion}
use Rattle.std.proofs.lemmas.Bool.{cases_Bool, or_cases, false≢true, both_ways, false_from_ne_true}
use Rattle.std.proofs.lemmas.List.Elements.{All-head, All-tail, All-nil, All-cons}
use Rattle.std.proofs.lemmas.List.Elements.{recursion_from_All}
use Rattle.cnf.specs.Literal.{Literal, negation, literal_eq}
use Rattle.cnf.specs.Clause.{contains_literal, greatest_variable}
use Rattle.cnf.specs.Refute.{Clauses, IsUnit, IsFalseUnder}
use Rattle.cnf.proofs.Laws.{literal_eq-true, all_weaker}
use Rattle.clauses.specs.Slots.{Slots, clause_at}
use Rattle.propagate_watches.specs.declared.table.Attachment.{Attachment}
use Rattle.propagate_watches.specs.declared.table.Attachment.TheVariants.{Waiting}
use Rattle.propagate_watches.specs.Table.{is_kept, attachment_in, IsWatchedBy}
use Rattle.propagate_trail.specs.Trail.{Assigned, literals_of, value_in, HasReasons}
use Rattle.propagate.specs.Watches.{EngineState, IsVariable, is_attached}
use Rattle.propagate.specs.Fits.{Fits, IsWithin}
use Rattle.propagate_trail.proofs.Laws.{open_at, no_tautology}

pub within_variable : (v : ℕ) (c : List Literal) (l : Literal) → IsWithin v c
    → contains_literal l c ≡ true → IsVariable v l
within_variable v [] l h e = absurd (false≢true e)
within_variable v (k ∷ c) l h e = elim (or_cases (literal_eq l k) (contains_literal l c) e) [
  | inl same ↦
      let s = literal_eq-true l k same in
      let p : 0 < k.variable = All-head (λ (x : Literal). 0 < x.variable) k c h.0 in
      let b : k.variable ≤ v = omega (arith, h.1) in
      subst (IsVariable v) (sym s) (p, b)
  | inr later ↦ within_variable v c l (
    All-tail (λ (x : Literal). 0 < x.variable) k c h.0,
    omega (arith, h.1),
  ) later
]

pub within_all : (v : ℕ) (c : List Literal) → greatest_variable c ≤ v
    → All (λ (l : Literal). l.variable ≤ v) c
within_all v [] h = All-nil (λ (l : Literal). l.variable ≤ v)
within_all v (k ∷ c) h =
    All-cons (λ (l : Literal). l.variable ≤ v) k c (omega arith) (within_all v c (omega arith))

-- so the literals of such a clause may be asked for
pub within_at : (v w : ℕ) (c : List Literal) → v ≡ w → IsWithin w c
    → All (λ (l : Literal). l.variable ≤ v) c
within_at v w c same within =
    within_all v c (subst (λ n. greatest_variable c ≤ n) (sym same) within.1)

false_at : (a b : Bool) → ◌≡◌ {A = Option Bool} (if a then Some true else if b then Some false
    else None) (Some false) → b ≡ true
false_at true b e = absurd (cc)
false_at false true e = refl
false_at false false e = absurd (cc)

true_at : (a b : Bool) → ◌≡◌ {A = Option Bool} (if a then Some true else if b then Some false
    else None) (Some true) → a ≡ true
true_at true b e = refl
true_at false true e = absurd (cc)
true_at false false e = absurd (cc)

pub false_value : (T : List Assigned) (l : Literal) → value_in T l ≡ Some false
    → contains_literal (negation l) (literals_of T) ≡ true
false_value T l e =
    false_at (contains_literal l (literals_of T)) (contains_literal (negation l) (literals_of T)) e

pub true_value : (T : List Assigned) (l : Literal) → value_in T l ≡ Some true
    → contains_literal l (literals_of T) ≡ true
true_value T l e =
    true_at (contains_literal l (literals_of T)) (contains_literal (negation l) (literals_of T)) e

value_false : (a b : Bool) → a ≡ false → b ≡ true
    → ◌≡◌ {A = Option Bool} (if a then Some true else if b then Some false else None) (Some false)
value_false true b e f = absurd (both_ways true e refl)
value_false false true e f = refl
value_false false false e f = absurd (false≢true f)

-- what is not known to be false is not false
pub not_false_value : (at : Clauses) (T : List Assigned) (l : Literal) → HasReasons at [] T
    → value_in T l ≢ Some false → contains_literal (negation l) (literals_of T) ≡ false
not_false_value at T l h ne =
    false_from_ne_true (contains_literal (negation l) (literals_of T))
    (λ e. elim (cases_Bool (contains_literal l (literals_of T))) [
      | inl is ↦ no_tautology at T h l is e
      | inr is ↦ ne (value_false (contains_literal l (literals_of T))
          (contains_literal (negation l) (literals_of T)) is e)
    ])

-- all but one are false
pub unit_left : (T : List Assigned) (c : List Literal) (o : Literal) → contains_literal o c ≡ true
    → value_in T o ≡ None
    → AllByRecursion (λ l. (l ≡ o) ⊎ (contains_literal (negation l) (literals_of T) ≡ true)) c
    → IsUnit c (literals_of T) o
unit_left T c o member e all =
    let n =
    open_at (contains_literal o (literals_of T)) (contains_literal (negation o) (literals_of T)) e
    in
    record { member = member; not_true = n.0; not_false = n.1; others = all }

pub false_left : (T : List Assigned) (c : List Literal) (o : Literal) → value_in T o ≡ Some false
    → AllByRecursion (λ l. (l ≡ o) ⊎ (contains_literal (negation l) (literals_of T) ≡ true)) c
    → IsFalseUnder c (literals_of T)
false_left T c o e all =
    all_weaker (λ l. (l ≡ o) ⊎ (contains_literal (negation l) (literals_of T) ≡ true))
    (λ l. contains_literal (negation l) (literals_of T) ≡ true) c
    (λ l h. elim h [
      | inl s ↦ subst (λ x. contains_literal (negation x) (literals_of T) ≡ true)
          (sym s) (false_value T o e)
      | inr f ↦ f
    ]) all

pub one_left : (T : List Assigned) (c : List Literal) (o : Literal)
    → All (λ l. (l ≡ o) ⊎ (value_in T l ≡ Some false)) c
    → AllByRecursion (λ l. (l ≡ o) ⊎ (contains_literal (negation l) (literals_of T) ≡ true)) c
one_left T c o all =
    all_weaker (λ l. (l ≡ o) ⊎ (value_in T l ≡ Some false))
    (λ l. (l ≡ o) ⊎ (contains_literal (negation l) (literals_of T) ≡ true)) c
    (λ l h. elim h [ inl s ↦ inl s | inr f ↦ inr (false_value T l f) ])
    (recursion_from_All (λ l. (l ≡ o) ⊎ (value_in T l ≡ Some false)) c all)

pub all_false_from : (T : List Assigned) (c : List Literal) → All (λ l. value_in T l ≡ Some false) c
    → IsFalseUnder c (literals_of T)
all_false_from T c all =
    all_weaker (λ l. value_in T l ≡ Some false) (λ l. contains_literal (negation l) (literals_of T)
    ≡ true) c (λ l f. false_value T l f)
    (recursion_from_All (λ l. value_in T l ≡ Some false) c all)

-- the other watch is one
pub same_other : (p : Attachment) (w a b : Literal) → w ≢ a → IsWatchedBy p w a
    → IsWatchedBy p w b → b ≡ a
same_other p w a b ne h g = elim h [
  | inl x ↦ elim g [ inl y ↦ (cc) | inr y ↦ absurd (ne (cc)) ]
  | inr x ↦ elim g [ inl y ↦ absurd (ne (cc)) | inr y ↦ (cc) ]
]

-- neither true nor false
pub open_left : (o : Option Bool) → o ≢ Some true → o ≢ Some false → o ≡ None
open_left None t f = refl
open_left (Some true) t f = absurd (t refl)
open_left (Some false) t f = absurd (f refl)

-- an attached clause is over the engine's variables
pub attached_within : (e : EngineState) (slots : Slots) (r : ℕ) (c : List Literal) → Fits e slots
    → is_attached e r ≡ true → clause_at slots r ≡ Some c → IsWithin e.variables c
attached_within e slots r c fits was live =
    let f = fits.attached r was in
    let same : f.0 ≡ c = cc (f.1, live) in
    subst (IsWithin e.variables) same f.2.0

pub waiting_within : (e : EngineState) (slots : Slots) (r : ℕ) (c : List Literal) → Fits e slots
    → attachment_in e.watches.table r ≡ Waiting → clause_at slots r ≡ Some c
    → IsWithin e.variables c
waiting_within e slots r c fits waits live =
    attached_within e slots r c fits (ap is_kept waits) live

pub waiting_variable : (e : EngineState) (slots : Slots) (r : ℕ) (c : List Literal) (l : Literal)
    → Fits e slots → attachment_in e.watches.table r ≡ Waiting → clause_at slots r ≡ Some c
    → contains_literal l c ≡ true → IsVariable e.variables l
waiting_variable e slots r c l fits waits live =
    within_variable e.variables c l (waiting_within e slots r c fits waits live)

pub waiting_all : (v : ℕ) (e : EngineState) (slots : Slots) (r : ℕ) (c : List Literal)
    → v ≡ e.variables → Fits e slots → attachment_in e.watches.table r ≡ Waiting
    → clause_at slots r ≡ Some c
    → All (λ (l : Literal). l.variable ≤ v) c
waiting_all v e slots r c same fits waits live =
    within_at v e.variables c same (waiting_within e slots r c fits waits live)
