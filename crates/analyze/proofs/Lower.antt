-- A variable of a lower level is resolved by its reason.
use Rattle.std.proofs.Common.{◌≡◌, ◌≢◌, ℕ, suc, ◌<◌, ◌≤◌, true, List, [], length, get_or, Some}
use Rattle.std.proofs.Common.{◌⊎◌, inl, inr, sym, ◌∙◌, ap, subst, arith}
use Rattle.std.proofs.lemmas.Bool.{cases_lt}
use Rattle.std.proofs.lemmas.List.{get_or-set_other, length-set}
use Rattle.std.proofs.lemmas.List.Elements.{All-contains, All-from_recursion}
use Rattle.cnf.specs.Literal.{Literal, negation}
use Rattle.cnf.specs.Clause.{contains_literal}
use Rattle.cnf.specs.Refute.{Clauses, IsUnit}
use Rattle.clauses.specs.Slots.{Slots, clause_at}
use Rattle.propagate.specs.Trail.{Assigned, depth_of, reason_in, HasReasons}
use Rattle.analyze.specs.Analyzer.{IsMarked}
use Rattle.analyze.specs.declared.marks.Mark.{Mark}
use Rattle.analyze.specs.declared.marks.Mark.TheVariants.{Clear, Kept, Resolved}
use Rattle.analyze.specs.Marks.{mark_at, level_at_variable, kept_of, resolved_of, IsAbove}
use Rattle.analyze.specs.Marks.{Resolves, KeepsMarked, IsReduced, Reduces}
use Rattle.analyze.specs.Met.{nowhere, variable_at}
use Rattle.analyze.proofs.Listing.{found}
use Rattle.analyze.proofs.Reasoning.{reason_at, unit_of}
use Rattle.analyze.proofs.Resolving.{marked_resolve, kept_is_not_clear}
use Rattle.analyze.proofs.Reducing.{resolved_kept}
use Rattle.analyze.proofs.Walking.{before_from, depth_more, level_here}

-- the other literals of a reason are of no greater level
reason_low : (slots : Slots) (T : List Assigned) (v r w : ℕ) (c : List Literal)
    → HasReasons (clause_at slots) [] T → 0 < level_at_variable T v → reason_in T v ≡ Some r
    → clause_at slots r ≡ Some c → w ≢ v → IsAbove T c w
    → level_at_variable T w ≤ level_at_variable T v
reason_low slots T v r w c h up here live ne k =
    let at : Clauses = clause_at slots in
    let p = found T v up in
    let l : Literal = (get_or T p.0 nowhere).literal in
    let reason : (get_or T p.0 nowhere).reason ≡ Some r =
    sym (reason_at at T p.0 nowhere h p.2) ∙ ap (reason_in T) p.3 ∙ here in
    let j = before_from at [] T p.0 h p.2 in
    let u : IsUnit c j.0 l = unit_of at j.0 l (get_or T p.0 nowhere).reason r c reason live j.1 in
    let P : Literal → Type 0 = λ x. (x ≡ l) ⊎ (contains_literal (negation x) j.0 ≡ true) in
    let q = found T w (subst (λ y. 0 < level_at_variable T y) k.named k.above) in
    let less : q.0 < p.0 =
    (elim (All-contains P c k.literal (All-from_recursion P c u.others) k.stands)
    as (λ _. q.0 < p.0) [
      | inl z ↦ absurd (ne (sym k.named ∙ ap (λ (x : Literal). x.variable) z ∙ p.3))
      | inr m ↦ elim (cases_lt q.0 p.0) as (λ _. q.0 < p.0) [
        | inl lt ↦ lt
        | inr ge ↦ absurd (j.2 q.0 (negation k.literal) ge q.2 m (k.named ∙ sym q.3))
      ]
    ]) in
    let x = level_here at T q.0 h q.2 in
    let y = level_here at T p.0 h p.2 in
    let a : level_at_variable T (variable_at T q.0) ≡ level_at_variable T w =
    ap (level_at_variable T) q.3 in
    let b : level_at_variable T (variable_at T p.0) ≡ level_at_variable T v =
    ap (level_at_variable T) p.3 in
    let m = depth_more T (suc q.0) (suc p.0) (omega arith) in
    omega arith

lower_reduced : (slots : Slots) (T : List Assigned) (v r : ℕ) (M N : List Mark) (u : Literal)
    → HasReasons (clause_at slots) [] T → mark_at M v ≡ Kept → v ≢ u.variable → v < length M
    → reason_in T v ≡ Some r → Resolves slots T v r M N → IsReduced T M u → IsReduced T N u
lower_reduced slots T v r M N u h kept ne room here d i =
    let long : length d.between ≡ length M = d.marks.long in
    let within : v < length d.between = omega arith in
    let low : level_at_variable T v < depth_of T = i.others v kept ne in
    record {
      on_trail = i.on_trail;
      kept = ap (λ x. mark_at x u.variable) d.resolved
          ∙ get_or-set_other d.between v u.variable Resolved Clear (λ s. ne (sym s))
          ∙ d.marks.stays u.variable (kept_is_not_clear (mark_at M u.variable) i.kept) ∙ i.kept;
      current = i.current;
      above = λ w e. elim (resolved_kept slots T v r M N d within w e).1 [
        | inl k ↦ i.above w k
        | inr k ↦ subst (λ y. 0 < level_at_variable T y) k.named k.above
      ];
      others = λ w e o. let f = resolved_kept slots T v r M N d within w e in
          elim f.1 [
            | inl k ↦ i.others w k o
            | inr k ↦ (let le = reason_low slots T v r w d.clause h (i.above v kept) here d.live
                f.0 k in omega arith)
          ];
    }

lower_known : (slots : Slots) (T : List Assigned) (first M N : List Mark) (v r : ℕ) (u : Literal)
    → HasReasons (clause_at slots) [] T → mark_at M v ≡ Kept → v < length M
    → reason_in T v ≡ Some r → Resolves slots T v r M N → IsReduced T M u
    → KeepsMarked slots T first M → KeepsMarked slots T first N
lower_known slots T first M N v r u h kept room here d i s =
    let long : length d.between ≡ length M = d.marks.long in
    let within : v < length d.between = omega arith in
    λ wrong m. subst (λ x. IsMarked (clause_at slots) T wrong (kept_of x) (resolved_of x))
    (sym d.resolved)
    (marked_resolve (clause_at slots) T wrong d.clause M d.between v r h here d.live
    (i.above v kept) kept within d.marks (s wrong m))

pub lower_reduces : (slots : Slots) (T : List Assigned) (first M N : List Mark) (v r : ℕ)
    (u : Literal) → HasReasons (clause_at slots) [] T → mark_at M v ≡ Kept → v ≢ u.variable
    → v < length M → reason_in T v ≡ Some r → Resolves slots T v r M N
    → Reduces slots T first M u → Reduces slots T first N u
lower_reduces slots T first M N v r u h kept ne room here d w = record {
  long = ap length d.resolved ∙ length-set d.between v Resolved ∙ d.marks.long ∙ w.long;
  known = lower_known slots T first M N v r u h kept room here d w.reduced w.known;
  reduced = lower_reduced slots T v r M N u h kept ne room here d w.reduced;
}
