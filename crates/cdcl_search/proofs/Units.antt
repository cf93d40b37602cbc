-- The clauses of one literal for what is true at level 0.
use Rattle.std.proofs.Common.{◌≡◌, ◌≢◌, ℕ, ◌+◌, ◌-◌, ◌<◌, ◌≤◌, true, cond, List, [], ◌∷◌, ◌++◌}
use Rattle.std.proofs.Common.{length, take, get_or, set, Option, Some, None, inl, inr, sym, ◌∙◌, ap}
use Rattle.std.proofs.Common.{subst, arith}
use Rattle.std.specs.List.{AllByRecursion}
use Rattle.std.proofs.lemmas.Bool.{cases_eq, cases_lt}
use Rattle.std.proofs.lemmas.List.{take_more, take-append-le, get_or-set_same, get_or-set_other}
use Rattle.std.proofs.lemmas.List.{length-append}
use Rattle.std.proofs.lemmas.List.Sums.{sum_by-append}
use Rattle.std.proofs.lemmas.Option.{same_Some}
use Rattle.cnf.specs.Literal.{Literal}
use Rattle.cnf.specs.Clause.{contains_literal}
use Rattle.cnf.proofs.Laws.{all_weaker, all_append, all_at, all_from, same_variable}
use Rattle.clauses.specs.Slots.{Slots, clause_at, Renaming, IsRenaming}
use Rattle.propagate.specs.Trail.{Assigned, literals_of, depth_of, is_decision, kept_to}
use Rattle.propagate.specs.Fits.{FollowByUnits, renamed_reason}
use Rattle.propagate.specs.Watches.{EngineState}
use Rattle.propagate.proofs.Laws.{kept_push, kept_all, depth_push}
use Rattle.propagate.proofs.Laws.{kept_kept, kept_prefix, contains_at, contains_take}
use Rattle.propagate.proofs.Laws.{literals-append, NoTautology}
use Rattle.cdcl_search.specs.Invariant.{HasUnit, NotesUnits, zero_of}
use Rattle.cdcl_search.proofs.Places.{clause_kept, clause_other, went, same_clause}
use Rattle.clauses.proofs.Laws.{clause_new}
use Rattle.analyze.proofs.Laws.{kept_more, depth_follow}

units_same : (slots : Slots) (units : List (Option ℕ)) (noted : ℕ) (Z Y : List Literal) (d f : ℕ)
    → Y ≡ Z → (0 < f → 0 < d) → NotesUnits slots Z d units noted → NotesUnits slots Y f units noted
units_same slots units noted Z Y d f e up n = record {
  have = subst (λ X. AllByRecursion (HasUnit slots units) (take noted X)) (sym e) n.have;
  within = subst (λ X. noted ≤ length X) (sym e) n.within;
  all = λ h. subst (λ X. length X ≤ noted) (sym e) (n.all (up h));
}

-- propagation adds to level 0 while it is there, and else leaves it
pub units_propagate : (slots : Slots) (e : EngineState) (T more : List Assigned)
    (units : List (Option ℕ)) (noted : ℕ) → FollowByUnits slots e (literals_of T) more
    → NotesUnits slots (zero_of T) (depth_of T) units noted
    → NotesUnits slots (zero_of (T ++ more)) (depth_of (T ++ more)) units noted
units_propagate slots e T more units noted follow n =
    let deep = depth_follow slots e (literals_of T) T more follow in
    elim (cases_lt 0 (depth_of T)) [
      | inl above ↦ units_same slots units noted (zero_of T) (zero_of (T ++ more)) (depth_of T)
          (depth_of (T ++ more)) (ap literals_of (kept_more 0 T more above)) (λ h. above) n
      | inr flat ↦
          let old : zero_of T ≡ literals_of T = ap literals_of (kept_all 0 T flat) in
          let new : zero_of (T ++ more) ≡ literals_of T ++ literals_of more =
          ap literals_of (kept_all 0 (T ++ more) (omega arith)) ∙ literals-append T more in
          let within : noted ≤ length (literals_of T) =
          subst (λ X. noted ≤ length X) old n.within in
          record {
            have =
                subst (AllByRecursion (HasUnit slots units))
                (sym (ap (take noted) new
                ∙ take-append-le noted (literals_of T) (literals_of more) within))
                (subst (λ X. AllByRecursion (HasUnit slots units) (take noted X)) old n.have);
            within =
                subst (λ X. noted ≤ length X) (sym new)
                (omega (arith, length-append (literals_of T) (literals_of more)));
            all = λ h. absurd (omega arith);
          }
    ]

-- a decision, once all of level 0 is noted
pub units_decide : (slots : Slots) (T : List Assigned) (l : Literal) (units : List (Option ℕ))
    (noted : ℕ) → length (zero_of T) ≤ noted
    → NotesUnits slots (zero_of T) (depth_of T) units noted
    → NotesUnits slots (zero_of (T ++ record { literal = l; reason = None } ∷ []))
    (depth_of (T ++ record { literal = l; reason = None } ∷ [])) units noted
units_decide slots T l units noted full n =
    let a : Assigned = record { literal = l; reason = None } in
    let deeper : depth_of (T ++ a ∷ []) ≡ depth_of T + 1 = depth_push T a in
    let same : zero_of (T ++ a ∷ []) ≡ zero_of T = ap literals_of (kept_push 0 T a (omega arith)) in
    record {
      have = subst (λ X. AllByRecursion (HasUnit slots units) (take noted X)) (sym same) n.have;
      within = subst (λ X. noted ≤ length X) (sym same) n.within;
      all = λ h. subst (λ X. length X ≤ noted) (sym same) full;
    }

pub depth_kept : (to : ℕ) (T : List Assigned) → depth_of (kept_to to T) ≤ depth_of T
depth_kept to T =
    let w = kept_prefix to T in
    let e : depth_of T ≡ depth_of (kept_to to T) + depth_of w.0 =
    ap depth_of w.1 ∙ sum_by-append (λ (a : Assigned). cond (is_decision a) 1 0)
    (kept_to to T) w.0 in
    omega arith

pub units_backtrack : (slots : Slots) (T : List Assigned) (to : ℕ) (units : List (Option ℕ))
    (noted : ℕ) → NotesUnits slots (zero_of T) (depth_of T) units noted
    → NotesUnits slots (zero_of (kept_to to T)) (depth_of (kept_to to T)) units noted
units_backtrack slots T to units noted n =
    units_same slots units noted (zero_of T) (zero_of (kept_to to T)) (depth_of T)
    (depth_of (kept_to to T)) (ap literals_of (kept_kept 0 to T (omega arith)))
    (λ h. omega (arith, depth_kept to T)) n

-- other clauses come and go
pub units_add : (slots : Slots) (c : List Literal) (Z : List Literal) (d : ℕ)
    (units : List (Option ℕ)) (noted : ℕ) → NotesUnits slots Z d units noted
    → NotesUnits (slots ++ Some c ∷ []) Z d units noted
units_add slots c Z d units noted n = record {
  have = all_weaker (HasUnit slots units) (HasUnit (slots ++ Some c ∷ []) units) (take noted Z)
      (λ l h. (h.0, h.1, clause_kept slots c (l ∷ []) h.0 h.2)) n.have;
  within = n.within;
  all = n.all;
}

pub units_delete : (slots : Slots) (q : ℕ) (c : List Literal) (Z : List Literal) (d : ℕ)
    (units : List (Option ℕ)) (noted : ℕ) → clause_at slots q ≡ Some c → 1 < length c
    → NotesUnits slots Z d units noted → NotesUnits (set slots q None) Z d units noted
units_delete slots q c Z d units noted e long n = record {
  have = all_weaker (HasUnit slots units) (HasUnit (set slots q None) units) (take noted Z)
      (λ l h.
      let other : h.0 ≢ q = λ s.
      (let same : c ≡ l ∷ [] = same_Some c (l ∷ []) (sym e ∙ ap (clause_at slots) (sym s) ∙ h.2) in
      let one : length c ≡ 1 = ap length same in absurd (omega arith)) in
      (h.0, h.1, clause_other slots q h.0 other ∙ h.2))
      n.have;
  within = n.within;
  all = n.all;
}

-- one more literal of level 0 has its clause, the last of the store
pub units_note : (slots : Slots) (Z : List Literal) (l : Literal) (units : List (Option ℕ))
    (noted : ℕ) → NoTautology Z → AllByRecursion (λ k. 0 < k.variable) Z
    → noted < length Z → l ≡ get_or Z noted l → l.variable ≤ length units
    → NotesUnits slots Z 0 units noted
    → NotesUnits (slots ++ Some (l ∷ []) ∷ []) Z 0
    (set units (l.variable - 1) (Some (length slots))) (noted + 1)
units_note slots Z l units noted apart ones lt at room n =
    let S : Slots = slots ++ Some (l ∷ []) ∷ [] in
    let U : List (Option ℕ) = set units (l.variable - 1) (Some (length slots)) in
    let l_in : contains_literal l Z ≡ true = ap (λ x. contains_literal x Z) at
    ∙ contains_at Z noted l lt in
    let l_one : 0 < l.variable = all_at (λ k. 0 < k.variable) Z l ones l_in in
    let new : HasUnit S U l = (
      length slots,
      get_or-set_same units (l.variable - 1) (Some (length slots)) None
          (omega arith),
      clause_new slots (l ∷ []),
    ) in
    let old : (k : Literal) → contains_literal k (take noted Z) ≡ true → HasUnit S U k = λ k m.
    (let h = all_at (HasUnit slots units) (take noted Z) k n.have m in
    let k_in : contains_literal k Z ≡ true = contains_take k noted Z m in
    let k_one : 0 < k.variable = all_at (λ j. 0 < j.variable) Z k ones k_in in
    elim (cases_eq k.variable l.variable) as (λ _. HasUnit S U k) [
      | inl s ↦ elim (same_variable k l s) as (λ _. HasUnit S U k) [
        | inl same ↦ subst (HasUnit S U) (sym same) new
        | inr other ↦ absurd (apart l l_in (ap (λ x. contains_literal x Z) (sym other) ∙ k_in))
      ]
      | inr ne ↦
          let elsewhere : k.variable - 1 ≢ l.variable - 1 = λ e. ne (omega arith) in (
            h.0,
            get_or-set_other units (l.variable - 1) (k.variable - 1) (Some (length slots)) None
                elsewhere ∙ h.1,
            clause_kept slots (l ∷ []) (k ∷ []) h.0 h.2,
          )
    ]) in
    record {
      have =
          subst (AllByRecursion (HasUnit S U))
          (sym (take_more Z noted l lt ∙ ap (λ x. take noted Z ++ x ∷ []) (sym at)))
          (all_append (HasUnit S U) (take noted Z) (l ∷ [])
          (all_from (HasUnit S U) (take noted Z) old) (new, tt));
      within = omega arith;
      all = λ h. absurd (omega arith);
    }

-- a compacted store
pub units_move : (before after : Slots) (ms : Renaming) (Z : List Literal) (d : ℕ)
    (units moved : List (Option ℕ)) (noted : ℕ) → IsRenaming before after ms
    → ((v : ℕ) → get_or moved v None ≡ renamed_reason ms (get_or units v None))
    → NotesUnits before Z d units noted → NotesUnits after Z d moved noted
units_move before after ms Z d units moved noted renames along n = record {
  have = all_weaker (HasUnit before units) (HasUnit after moved) (take noted Z)
      (λ l h.
      let w = went before after ms renames h.0 (l ∷ []) h.2 in (
        w.0,
        along (l.variable - 1) ∙ ap (renamed_reason ms) h.1 ∙ w.1,
        same_clause before after ms renames h.0 w.0 w.1 ∙ h.2,
      ))
      n.have;
  within = n.within;
  all = n.all;
}
