-- The live clauses as a list: its ids, its members, and the same as a function of ids.
use Rattle.std.proofs.Common.{◌≡◌, ℕ, ◌+◌, ◌<◌, ◌≤◌, Bool, true, false, not, List, [], ◌∷◌, ◌++◌}
use Rattle.std.proofs.Common.{map, length, get_or, None, refl, sym, ◌∙◌, ap, subst, inl, inr, arith}
use Rattle.std.proofs.Math.Bool.{cond}
use Rattle.std.proofs.Math.Path.{fun_ext}
use Rattle.std.specs.Prelude.{All, IsSome, filter, nat_eq, ◌==◌}
use Rattle.std.specs.List.{list_any}
use Rattle.std.proofs.lemmas.Bool.{or_cases, or_left, or_right, cases_Bool, eq-eqb, eqb-true}
use Rattle.std.proofs.lemmas.Bool.{both_ways, false≢true}
use Rattle.std.proofs.lemmas.List.Elements.{All-nil, All-cons, All-contains, All-head, All-tail}
use Rattle.std.proofs.lemmas.List.Elements.{All-push, All-filter, All-weaker}
use Rattle.cnf.specs.Literal.{Literal}
use Rattle.cnf.specs.Clause.{contains_literal, greatest_variable, IsClauseWithin}
use Rattle.cnf.specs.Formula.{Cnf, IsFormula, IsFormulaClause}
use Rattle.cnf.specs.Lrat.{start_of, with_clause}
use Rattle.lrat_live.specs.Listed.{Listed, ids_of, listed_at, listed_from, without_id, ids_listed}
use Rattle.lrat_live.proofs.Laws.{Rises, rises_from_pairs, listed_here, listed_there, above_kept}
use Rattle.lrat_live.proofs.Laws.{rises_kept, rises_from, increasing_from_rises, rises_push}
use Rattle.lrat_live.proofs.Laws.{listed_at-push, listed_at-without, listed_numbered, rises_listed}
use Rattle.lrat_live.proofs.Laws.{listed_from-all, some_of}
use Rattle.lrat_machine.specs.Steps.{IsBase, IsUpTo, live_of}
use Rattle.lrat_machine.proofs.Steps.{less, deleted_live}
use Rattle.lrat_machine.proofs.Effects.{drop_at, ids_from}
use Rattle.lrat_machine.specs.Verdict.{ids_with, deleted}
use Rattle.lrat_machine.proofs.Candidates.{Has, above, same_rising, HasLiteral, ids_bound, ids_all}
use Rattle.lrat_machine.proofs.Candidates.{ids_pairs, InRange, has_bounds}

-- no clause is listed past the bounds
none_at_zero : (es : Listed) → All (λ e. 0 < e.0) es → listed_at es 0 ≡ None
none_at_zero [] h = refl
none_at_zero (e ∷ es) h =
    let first : 0 < e.0 = All-head (λ x. 0 < x.0) e es h in
    listed_there e es 0 (λ z. absurd (omega arith))
    ∙ none_at_zero es (All-tail (λ x. 0 < x.0) e es h)

none_past : (last : ℕ) (es : Listed) → IsUpTo last es → (i : ℕ) → last < i → listed_at es i ≡ None
none_past last [] h i lt = refl
none_past last (e ∷ es) h i lt =
    let first : e.0 ≤ last = All-head (λ x. x.0 ≤ last) e es h in
    listed_there e es i (λ z. absurd (omega arith))
    ∙ none_past last es (All-tail (λ x. x.0 ≤ last) e es h) i lt

pub in_range : (n last : ℕ) (es : Listed) → IsBase n last es → InRange (listed_at es) last
in_range n last es b =
    record { none_at_zero = none_at_zero es b.from_one; none_past = none_past last es b.up_to }

-- membership
listed_has : (l : Literal) (es : Listed) → Rises (ids_of es) → (i : ℕ) → Has (ids_listed l es) i
    → HasLiteral (listed_at es) l i
listed_has l [] r i h = absurd (false≢true h)
listed_has l (e ∷ es) r i h =
    let later : Has (ids_listed l es) i → HasLiteral (listed_at (e ∷ es)) l i = λ k.
    let up : e.0 < i =
    above e.0 i (ids_listed l es) (above_kept (λ x. contains_literal l x.1) e.0 es r.0) k in
    let found = listed_has l es r.1 i k in
    (found.0, listed_there e es i (λ z. absurd (omega arith)) ∙ found.1, found.2)
    in
    elim (contains_literal l e.1) as (λ v. contains_literal l e.1 ≡ v
    → Has (ids_of (cond v (e ∷ filter (λ x. contains_literal l x.1) es)
    (filter (λ x. contains_literal l x.1) es))) i → HasLiteral (listed_at (e ∷ es)) l i) [
      | true ↦ λ t h. elim (or_cases (nat_eq i e.0) (list_any (nat_eq i) (ids_listed l es)) h) [
        | inl s ↦ (e.1, listed_here e es i (sym (eqb-true i e.0 s)), t)
        | inr k ↦ later k
      ]
      | false ↦ λ t h. later h
    ] refl h

has_listed : (l : Literal) (es : Listed) (i : ℕ) → HasLiteral (listed_at es) l i
    → Has (ids_listed l es) i
has_listed l [] i h = let z = h.1 in absurd (cc)
has_listed l (e ∷ es) i h =
    elim (cases_Bool (e.0 == i)) [
      | inl t ↦
          let here = listed_here e es i (eqb-true e.0 i t) in
          let found = h.1 in
          let same : e.1 ≡ h.0 = cc in
          let has : contains_literal l e.1 ≡ true =
          subst (λ d. contains_literal l d ≡ true) (sym same) h.2 in
          subst (λ v. Has (ids_of (cond v (e ∷ filter (λ x. contains_literal l x.1) es)
          (filter (λ x. contains_literal l x.1) es))) i) (sym has)
          (or_left _ _ (eq-eqb i e.0 (sym (eqb-true e.0 i t))))
      | inr f ↦
          let k =
          has_listed l es i (
            h.0,
            sym (listed_there e es i (λ z. both_ways _ f (eq-eqb e.0 i z)))
                ∙ h.1,
            h.2,
          ) in
          elim (contains_literal l e.1)
          as (λ v. Has (ids_of (cond v (e ∷ filter (λ x. contains_literal l x.1) es)
          (filter (λ x. contains_literal l x.1) es))) i) [
            | true ↦ or_right _ _ k
            | false ↦ k
          ]
    ]

pub ids_with-listed : (n last : ℕ) (es : Listed) (l : Literal) → IsBase n last es
    → ids_with (listed_at es) l last ≡ ids_listed l es
ids_with-listed n last es l b =
    let r = rises_from es b.rising in
    same_rising (ids_with (listed_at es) l last) (ids_listed l es)
    (rises_from_pairs _ (ids_pairs (listed_at es) l last))
    (rises_kept (λ e. contains_literal l e.1) es r)
    (λ i h. has_listed l es i (ids_bound (listed_at es) l last i h).1)
    (λ i h. let found = listed_has l es r i h in
    let bounds = has_bounds (listed_at es) last (in_range n last es b) l i found in
    ids_all (listed_at es) l last i bounds.0 bounds.1 found)

-- what stays known
pub IsBase-more : (n m last : ℕ) (es : Listed) → n ≤ m → IsBase n last es → IsBase m last es
IsBase-more n m last es le b = record {
  rising = b.rising;
  from_one = b.from_one;
  up_to = b.up_to;
  within =
      All-weaker (λ e. IsClauseWithin n e.1) (λ e. IsClauseWithin m e.1)
      (λ e w. All-weaker (λ l. l.variable ≤ n) (λ l. l.variable ≤ m) (λ l h. omega arith) e.1 w)
      es b.within;
}

pub IsBase-without : (n last i : ℕ) (es : Listed) → IsBase n last es
    → IsBase n last (without_id i es)
IsBase-without n last i es b =
    let p : ℕ × List Literal → Bool = λ e. not (e.0 == i) in
    record {
      rising =
          increasing_from_rises (ids_of (filter p es)) (rises_kept p es (rises_from es b.rising));
      from_one = All-filter p (λ e. 0 < e.0) es b.from_one;
      up_to = All-filter p (λ e. e.0 ≤ last) es b.up_to;
      within = All-filter p (λ e. IsClauseWithin n e.1) es b.within;
    }

pub below_id : (last id : ℕ) (es : Listed) → IsUpTo last es → last < id → All (λ e. e.0 < id) es
below_id last id es u lt = All-weaker (λ e. e.0 ≤ last) (λ e. e.0 < id) (λ e h. omega arith) es u

pub IsBase-push : (n last id : ℕ) (es : Listed) (c : List Literal) → IsBase n last es → last < id
    → IsClauseWithin n c → IsBase n id (es ++ (id, c) ∷ [])
IsBase-push n last id es c b lt w = record {
  rising =
      increasing_from_rises (ids_of (es ++ (id, c) ∷ []))
      (rises_push es (id, c) (rises_from es b.rising) (below_id last id es b.up_to lt));
  from_one = All-push (λ e. 0 < e.0) es (id, c) b.from_one (omega arith);
  up_to =
      All-push (λ e. e.0 ≤ id) es (
        id,
        c,
      ) (All-weaker (λ e. e.0 ≤ last) (λ e. e.0 ≤ id) (λ e h. omega arith) es b.up_to)
      (omega arith);
  within = All-push (λ e. IsClauseWithin n e.1) es (id, c) b.within w;
}

pub live_of-push : (last id : ℕ) (es : Listed) (c : List Literal) → All (λ e. e.0 < id) es
    → live_of id (es ++ (id, c) ∷ []) ≡ with_clause (live_of last es) id c
live_of-push last id es c h =
    ap (λ f. record { clause_at = f; last = id }) (fun_ext (listed_at-push es id c h))

pub live_of-without : (last i : ℕ) (es : Listed)
    → live_of last (without_id i es) ≡ less (live_of last es) i
live_of-without last i es =
    ap (λ f. record { clause_at = f; last = last }) (fun_ext (listed_at-without i es))

pub live_of-start : (cs : List (List Literal)) → live_of (length cs) (listed_from 1 cs)
    ≡ start_of cs
live_of-start cs =
    ap (λ f. record { clause_at = f; last = length cs }) (fun_ext (listed_numbered cs))

pub IsBase-start : (n last : ℕ) (cs : List (List Literal)) → last ≡ length cs
    → All (IsClauseWithin n) cs
    → IsBase n last (listed_from 1 cs)
IsBase-start n last cs e w = record {
  rising = increasing_from_rises (ids_of (listed_from 1 cs)) (rises_listed 1 cs);
  from_one = listed_from-all (λ e. 0 < e.0) 1 cs (λ k c h i m. omega arith);
  up_to = listed_from-all (λ e. e.0 ≤ last) 1 cs (λ k c h i m. omega arith);
  within =
      listed_from-all (λ e. IsClauseWithin n e.1) 1 cs
      (λ k c h i m. All-contains (IsClauseWithin n) cs c w m);
}

within_greatest : (n : ℕ) (c : List Literal) → greatest_variable c ≤ n → IsClauseWithin n c
within_greatest n [] h = All-nil (λ l. l.variable ≤ n)
within_greatest n (l ∷ c) h =
    All-cons (λ k. k.variable ≤ n) l c (omega arith) (within_greatest n c (omega arith))

pub within_formula : (f : Cnf) (n : ℕ) → IsFormula f → f.variables ≤ n
    → All (IsClauseWithin n) f.clauses
within_formula f n h le =
    All-weaker (IsFormulaClause f.variables) (IsClauseWithin n) (λ c k. let small = k.small in
    within_greatest n c (omega arith)) f.clauses h.clauses

pub deleted_more : (last : ℕ) (es : Listed) (hs : List (Bool × ℕ)) (i : ℕ) (h : Bool × ℕ)
    → i < length hs → h ≡ get_or hs i h → IsSome (listed_at es h.1)
    → deleted (live_of last es) (ids_from hs i) ≡ deleted (live_of last (without_id h.1 es))
    (ids_from hs (i + 1))
deleted_more last es hs i h lt e f =
    let d = some_of (listed_at es h.1) f in
    ap (λ xs. deleted (live_of last es) (map (λ x. x.1) xs)) (drop_at hs i h lt e)
    ∙ deleted_live (live_of last es) h.1 (ids_from hs (i + 1)) d.0 d.1
    ∙ ap (λ l. deleted l (ids_from hs (i + 1))) (sym (live_of-without last h.1 es))
