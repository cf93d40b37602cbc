-- Marks change as variables are resolved by their reasons, in whatever order.
use Rattle.std.proofs.Common.{◌≡◌, ◌≢◌, ℕ, ◌+◌, ◌-◌, ◌<◌, ◌≤◌, true, List, [], length, set, Some}
use Rattle.std.proofs.Common.{◌⊎◌, inl, inr, refl, sym, ◌∙◌, ap, subst, arith}
use Rattle.std.proofs.lemmas.Bool.{cases_eq, eq-eqb}
use Rattle.std.proofs.lemmas.List.{get_or-set_same, get_or-set_other, length-set}
use Rattle.cnf.specs.Literal.{Literal}
use Rattle.cnf.specs.Clause.{contains_literal}
use Rattle.cnf.specs.Refute.{Clauses}
use Rattle.clauses.specs.Slots.{Slots, clause_at}
use Rattle.propagate.specs.Trail.{Assigned, literals_of, depth_of, reason_in, level_of, HasReasons}
use Rattle.analyze.specs.Analyzer.{IsMarked}
use Rattle.analyze.specs.declared.marks.Mark.{Mark}
use Rattle.analyze.specs.declared.marks.Mark.TheVariants.{Clear, Kept, Resolved}
use Rattle.analyze.specs.Marks.{mark_at, is_current, count_current, level_at_variable, kept_of}
use Rattle.analyze.specs.Marks.{resolved_of, IsAbove, IsAboveZero, Resolves, IsReducing, Reduces}
use Rattle.analyze.proofs.Resolving.{marked_resolve, clear_or}
use Rattle.analyze.proofs.Counting.{current_only}

pub level_current : (T : List Assigned) (v : ℕ) → level_at_variable T v ≡ depth_of T
    → is_current T v ≡ true
level_current T v e = eq-eqb (level_at_variable T v) (depth_of T) e

resolved_not_kept : (m : Mark) → m ≡ Resolved → m ≡ Kept → ⊥
resolved_not_kept m e f = let g : Resolved ≡ Kept = sym e ∙ f in absurd (cc)

-- of what is kept after a variable was resolved
pub resolved_kept : (slots : Slots) (T : List Assigned) (v r : ℕ) (M N : List Mark)
    (d : Resolves slots T v r M N)
    → v < length d.between → (w : ℕ) → mark_at N w ≡ Kept
    → (w ≢ v) × ((mark_at M w ≡ Kept) ⊎ IsAbove T d.clause w)
resolved_kept slots T v r M N d room w e =
    let f : mark_at (set d.between v Resolved) w ≡ Kept =
    ap (λ x. mark_at x w) (sym d.resolved) ∙ e in
    let ne : w ≢ v =
    λ s. resolved_not_kept (mark_at (set d.between v Resolved) w)
    (ap (mark_at (set d.between v Resolved)) s
    ∙ get_or-set_same d.between v Resolved Clear room) f in
    let g : mark_at d.between w ≡ Kept =
    sym (get_or-set_other d.between v w Resolved Clear ne) ∙ f in
    elim (clear_or (mark_at M w)) [
      | inl z ↦
          (ne, inr ((d.marks.fresh w z (λ y. (let k : Kept ≡ Clear = sym g ∙ y in absurd (cc)))).1))
      | inr y ↦ (ne, inl (sym (d.marks.stays w y) ∙ g))
    ]

pub reducing_none : (slots : Slots) (T : List Assigned) (M : List Mark) (n : ℕ) → IsAboveZero T M
    → count_current T M ≡ n → 0 < n → IsReducing slots T M M n
reducing_none slots T M n above counted some = record {
  long = refl;
  known = λ wrong m. m;
  above = above;
  counted = counted;
  some = some;
}

pub reducing_resolved : (slots : Slots) (T : List Assigned) (first M N : List Mark)
    (left fresh v r : ℕ)
    → HasReasons (clause_at slots) [] T → mark_at M v ≡ Kept → v < length M
    → reason_in T v ≡ Some r → Resolves slots T v r M N
    → count_current T N + 1 ≡ count_current T M + fresh → left ≢ 1
    → IsReducing slots T first M left → IsReducing slots T first N (left - 1 + fresh)
reducing_resolved slots T first M N left fresh v r h kept room here d counted many w =
    let at : Clauses = clause_at slots in
    let long : length d.between ≡ length M = d.marks.long in
    let in_between : v < length d.between = omega arith in
    let up : 0 < level_at_variable T v = w.above v kept in
    record {
      long = ap length d.resolved ∙ length-set d.between v Resolved ∙ long ∙ w.long;
      known =
          λ wrong m. subst (λ x. IsMarked at T wrong (kept_of x) (resolved_of x)) (sym d.resolved)
          (marked_resolve at T wrong d.clause M d.between v r h here d.live up kept in_between
          d.marks (w.known wrong m));
      above = λ x e. let f = resolved_kept slots T v r M N d in_between x e in
          elim f.1 [
            | inl k ↦ w.above x k
            | inr k ↦ subst (λ y. 0 < level_at_variable T y) k.named k.above
          ];
      counted = (let a = w.counted in let b = w.some in omega arith);
      some = (let b = w.some in omega arith);
    }

-- the last of the current level
pub reducing_found : (slots : Slots) (T : List Assigned) (first M : List Mark) (l : Literal)
    → contains_literal l (literals_of T) ≡ true → mark_at M l.variable ≡ Kept
    → level_of T l ≡ depth_of T → ((v : ℕ) → level_at_variable T v ≤ depth_of T)
    → IsReducing slots T first M 1 → Reduces slots T first M l
reducing_found slots T first M l on kept level within w =
    let here : is_current T l.variable ≡ true = level_current T l.variable level in
    record {
      long = w.long;
      known = w.known;
      reduced = record {
        on_trail = on;
        kept = kept;
        current = level;
        above = w.above;
        others = λ v k ne. elim (cases_eq (level_at_variable T v) (depth_of T)) [
          | inl same ↦ absurd (current_only T M l.variable v kept here w.counted ne k
              (level_current T v same))
          | inr ne' ↦ let le = within v in omega arith
        ];
      };
    }

-- and what is done from there on
pub reducing_then : (slots : Slots) (T : List Assigned) (first M N : List Mark) (left : ℕ)
    (l : Literal) → IsReducing slots T first M left → Reduces slots T M N l
    → Reduces slots T first N l
reducing_then slots T first M N left l w r = record {
  long = r.long ∙ w.long;
  known = λ wrong m. r.known wrong (w.known wrong m);
  reduced = r.reduced;
}
