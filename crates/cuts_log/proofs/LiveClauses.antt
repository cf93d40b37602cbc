-- The clauses of the formula that a log has are live for the checker.
use Rattle.std.proofs.Common.{◌≡◌, ℕ, zero, suc, ◌+◌, ◌-◌, ◌<◌, ◌≤◌, Bool, true, false, List, []}
use Rattle.std.proofs.Common.{◌∷◌, ◌++◌, map, length, replicate, Option, Some, None, cond, inl, inr}
use Rattle.std.proofs.Common.{sym, ◌∙◌, ap, arith, get_or, set, refl, ◌⊎◌}
use Rattle.std.specs.Prelude.{nat_eq, slice_get, slice_index_or, ◌==◌}
use Rattle.std.specs.List.{AllByRecursion, list_any}
use Rattle.std.proofs.lemmas.Bool.{cases_Bool, cond-false, cond-true, eq-eqb, eqb-true, false≢true}
use Rattle.std.proofs.lemmas.Bool.{ne_eqb}
use Rattle.std.proofs.lemmas.List.{get_or-replicate, get_or-set_other}
use Rattle.std.proofs.lemmas.Option.{slice_get-get_or, slice_get_within}
use Rattle.cnf.specs.Literal.{Literal}
use Rattle.cnf.specs.Lrat.{IsId}
use Rattle.lrat_live.specs.Listed.{Listed, listed_at, listed_from}
use Rattle.lrat_live.proofs.Laws.{listed_numbered}
use Rattle.lrat_log.specs.declared.lines.Hint.{Hint}
use Rattle.lrat_log.specs.declared.lines.Name.{Name}
use Rattle.lrat_log.specs.declared.lines.Name.TheVariants.{Formula, Added}
use Rattle.lrat_log.specs.Log.{HasNumber, id_of, name_of, number_in}
use Rattle.cuts_log.specs.Given.{AreLive, FormulaState, all_live, deleted, without_name}
use Rattle.cuts_log.specs.Given.{without_names}

-- flags
cleared_here : (xs : List Bool) (i : ℕ) → get_or (set xs i false) i false ≡ false
cleared_here [] zero = refl
cleared_here [] (suc i) = refl
cleared_here (x ∷ xs) zero = refl
cleared_here (x ∷ xs) (suc i) = cleared_here xs i

name_leaves : (base : ℕ) (n : Name) (live : List Bool) (i : ℕ) → i < base → IsId (number_in n)
    → slice_index_or (without_name n live) i false ≡ true
    → (slice_index_or live i false ≡ true) × (nat_eq (suc i) (id_of base n) ≡ false)
name_leaves base (Added j) live i below id e =
    (e, ne_eqb (suc i) (base + j) (λ same. omega (arith, below, id.0, same)))
name_leaves base (Formula k) live i below id e =
    elim (cases_Bool (nat_eq (suc i) k)) [
      | inl t ↦
          let same : suc i ≡ k = eqb-true (suc i) k t in
          let place : k - 1 ≡ i = omega (arith, same) in
          absurd (false≢true (sym (ap (λ p. get_or (set live p false) i false) place
          ∙ cleared_here live i) ∙ e))
      | inr f ↦ (
        sym (get_or-set_other live (k - 1) i false false (λ same. false≢true (sym f
            ∙ equal (suc i) k (omega (arith, id.0, same))))) ∙ e,
        f,
      )
    ]
  where
    equal : (a b : ℕ) → a ≡ b → nat_eq a b ≡ true
    equal a b h = elim (cases_Bool (nat_eq a b)) [
      | inl t ↦ t
      | inr f ↦ absurd (false≢true (sym f ∙ eq-eqb a b h))
    ]

abbrev pub ids_named : ℕ → List Hint → List ℕ
ids_named base hs = map (λ h. id_of base (name_of h)) hs

names_leave : (base : ℕ) (hs : List Hint) (live : List Bool) (i : ℕ) → i < base
    → AllByRecursion HasNumber hs → slice_index_or (without_names hs live) i false ≡ true
    → (slice_index_or live i false ≡ true)
    × (list_any (nat_eq (suc i)) (ids_named base hs) ≡ false)
names_leave base [] live i below n e = (e, refl)
names_leave base (h ∷ hs) live i below n e =
    let rest = names_leave base hs (without_name (name_of h) live) i below n.1 e in
    let one = name_leaves base (name_of h) live i below n.0 rest.0 in
    let other = one.1 in (one.0, rw other rest.1)

shown : (b : Bool) (o : Option (List Literal)) (c : List Literal) → cond b o None ≡ Some c
    → (b ≡ true) × (o ≡ Some c)
shown true o c e = (refl, e)
shown false o c e = absurd (cc)

-- what stands behind a list is found only where that has none
listed_at-append : (es ds : Listed) (i : ℕ)
    → (listed_at es i ≡ None) ⊎ (listed_at (es ++ ds) i ≡ listed_at es i)
listed_at-append [] ds i = inl refl
listed_at-append (x ∷ es) ds i =
    elim (cases_Bool (x.0 == i)) [
      | inl t ↦
          inr (cond-true (x.0 == i) (Some x.1) (listed_at (es ++ ds) i) t
          ∙ sym (cond-true (x.0 == i) (Some x.1) (listed_at es i) t))
      | inr f ↦ elim (listed_at-append es ds i) [
        | inl n ↦ inl (cond-false (x.0 == i) (Some x.1) (listed_at es i) f ∙ n)
        | inr s ↦
            inr (cond-false (x.0 == i) (Some x.1) (listed_at (es ++ ds) i) f ∙ s
            ∙ sym (cond-false (x.0 == i) (Some x.1) (listed_at es i) f))
      ]
    ]

pub live_append : (f : FormulaState) (es ds : Listed) → AreLive f es → AreLive f (es ++ ds)
live_append f es ds h = λ i c e.
    let was : listed_at es i ≡ Some c = h i c e in
    elim (listed_at-append es ds i) [
      | inl none ↦ absurd (cc)
      | inr same ↦ same ∙ was
    ]

-- a deletion
pub live_deleted : (base : ℕ) (f : FormulaState) (es left : Listed) (hs : List Hint)
    → length f.clauses ≤ base → AllByRecursion HasNumber hs
    → ((j : ℕ) → listed_at left j
    ≡ cond (list_any (nat_eq j) (ids_named base hs)) None (listed_at es j))
    → AreLive f es → AreLive (deleted hs f) left
live_deleted base f es left hs few n at h = each
  where
    each : AreLive (deleted hs f) left
    each zero c e = absurd (cc)
    each (suc i) c e =
        let s = shown (slice_index_or (without_names hs f.live) i false) (slice_get f.clauses i) c e
        in
        let within = slice_get_within f.clauses i c s.1 in
        let w = names_leave base hs f.live i (omega (arith, within, few)) n s.0 in
        at (suc i)
        ∙ cond-false (list_any (nat_eq (suc i)) (ids_named base hs)) None (listed_at es (suc i)) w.1
        ∙ h (suc i) c (cond-true (slice_index_or f.live i false) (slice_get f.clauses i) None w.0
        ∙ s.1)

-- at first
pub live_start : (cs : List (List Literal)) → AreLive (all_live cs) (listed_from 1 cs)
live_start cs zero c e = absurd (cc)
live_start cs (suc i) c e = listed_numbered cs (suc i)
    ∙ (shown (slice_index_or (replicate (length cs) true) i false) (slice_get cs i) c e).1

-- where all are live, each is found under its number
pub live_found : (cs : List (List Literal)) (es : Listed) (i : ℕ) → AreLive (all_live cs) es
    → i < length cs → listed_at es (i + 1) ≡ slice_get cs i
live_found cs es i h within =
    let e = slice_get-get_or cs i [] within in
    let next : i + 1 ≡ suc i = omega arith in
    ap (listed_at es) next
    ∙ h (suc i) (get_or cs i []) (cond-true (slice_index_or (replicate (length cs) true) i false)
    (slice_get cs i) None (get_or-replicate (length cs) i true false within) ∙ e)
    ∙ sym e
