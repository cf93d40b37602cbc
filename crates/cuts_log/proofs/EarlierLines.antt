-- The lines that stand for what was judged before a log.
use Rattle.std.proofs.Common.{◌≡◌, ℕ, zero, suc, ◌+◌, ◌<◌, ◌≤◌, true, false, List, [], ◌∷◌, ◌++◌}
use Rattle.std.proofs.Common.{Option, Some, None, refl, sym, ◌∙◌, ap, subst, arith, inl, inr}
use Rattle.std.proofs.Common.{append_assoc, append-nil}
use Rattle.std.specs.Prelude.{nat_eq, ◌==◌}
use Rattle.std.proofs.lemmas.Bool.{cases_eq, cond-false, cond-true, eq-eqb, false≢true, ne_eqb}
use Rattle.cnf.specs.Clause.{has_repeat}
use Rattle.cnf.specs.Literal.{Literal}
use Rattle.cnf.specs.Lrat.{Live, with_clause, without_ids}
use Rattle.cnf.specs.Refute.{Clauses}
use Rattle.lrat_log.specs.Axioms.{FollowByRup, IsOpenStep, OpenChain}
use Rattle.lrat_log.specs.Log.{Given, LogLine, axiom_line, given_at, start_over}
use Rattle.cnf.proofs.Laws.{all_left, all_right}
use Rattle.lrat_log.specs.Steps.{AddsNoEmptyClause, IsBaseOf, StopsAtEmptyClause, added_count}
use Rattle.lrat_log.specs.Steps.{adds_empty_clause}
use Rattle.lrat_log.proofs.Laws.{given_below, none_of, open_split}
use Rattle.cuts_log.specs.Starts.{deletion_line, lines_before, lines_for, stand_in}
use Rattle.cuts_log.proofs.EventLines.{added-append}
use Rattle.cuts_log.proofs.JudgedSteps.{axiom_is, stops_on}

-- how many add a clause
lines_for-added : (o : Option (List Literal)) (j : ℕ) → added_count (lines_for o j) ≡ 1
lines_for-added (Some c) j = refl
lines_for-added None j = refl

pub lines_before-added : (at : Clauses) (n : ℕ) → added_count (lines_before at n) ≡ n
lines_before-added at zero = refl
lines_before-added at (suc n) =
    let both = added-append (lines_before at n) (lines_for (at (suc n)) (suc n)) in
    omega (arith, both, lines_before-added at n, lines_for-added (at (suc n)) (suc n))

pub follow_behind : (given : Given) (base : ℕ) (done ls ms : List LogLine)
    → FollowByRup given base done (ls ++ ms) → FollowByRup given base (done ++ ls) ms
follow_behind given base done [] ms f =
    subst (λ x. FollowByRup given base x ms) (sym (append-nil done)) f
follow_behind given base done (l ∷ ls) ms f =
    subst (λ x. FollowByRup given base x ms) (append_assoc done (l ∷ []) ls)
    (follow_behind given base (done ++ l ∷ []) ls ms f.1)

pub stops_behind : (ls ms : List LogLine) → StopsAtEmptyClause (ls ++ ms) → StopsAtEmptyClause ms
stops_behind [] ms h = h
stops_behind (l ∷ ls) ms h = stops_behind ls ms (stops_on l (ls ++ ms) h)

-- what they leave: of the formula all, and of the additions what is live
pub record Leaves (given : Given) (base : ℕ) (at : Clauses) (n : ℕ) (live : Live) : Type 0 where
  pub last : live.last ≡ base + n
  pub low : (i : ℕ) → i ≤ base → live.clause_at i ≡ given_at given i
  pub here : (j : ℕ) → 0 < j → j ≤ n → live.clause_at (base + j) ≡ at j
  pub high : (i : ℕ) → base + n < i → live.clause_at i ≡ None
  pub single : (j : ℕ) (c : List Literal) → 0 < j → j ≤ n → at j ≡ Some c → has_repeat c ≡ false

-- one more
leaves_more : (given : Given) (base : ℕ) (at : Clauses) (n : ℕ) (old new : Live)
    → Leaves given base at n old → new.last ≡ base + n + 1
    → new.clause_at (base + n + 1) ≡ at (suc n)
    → ((i : ℕ) → (i ≡ base + n + 1 → ⊥) → new.clause_at i ≡ old.clause_at i)
    → ((c : List Literal) → at (suc n) ≡ Some c → has_repeat c ≡ false)
    → Leaves given base at (suc n) new
leaves_more given base at n old new h last own others once = record {
  last = last ∙ omega arith;
  low = λ i le. others i (λ e. absurd (omega (arith, e, le))) ∙ h.low i le;
  here = λ j some le. elim (cases_eq j (suc n)) [
    | inl t ↦
        let place : base + j ≡ base + n + 1 = omega (arith, t) in
        ap new.clause_at place ∙ own ∙ ap at (sym t)
    | inr f ↦
        let less : j ≤ n = omega (arith, le, f) in
        others (base + j) (λ e. f (omega (arith, e))) ∙ h.here j some less
  ];
  high = λ i above. others i (λ e. absurd (omega (arith, e, above)))
      ∙ h.high i (omega (arith, above));
  single = λ j c some le e. elim (cases_eq j (suc n)) [
    | inl t ↦ once c (ap at (sym t) ∙ e)
    | inr f ↦ let less : j ≤ n = omega (arith, le, f) in h.single j c some less e
  ];
}

-- a clause that came
at_came : (old : Live) (id i : ℕ) (c : List Literal) → (i ≡ id → ⊥)
    → (with_clause old id c).clause_at i ≡ old.clause_at i
at_came old id i c f = cond-false (i == id) (Some c) (old.clause_at i) (ne_eqb i id f)

leaves_one : (given : Given) (base : ℕ) (at : Clauses) (n : ℕ) (old new : Live)
    (c : List Literal) → Leaves given base at n old → at (suc n) ≡ Some c
    → OpenChain base n old (axiom_line c ∷ []) new → Leaves given base at (suc n) new
leaves_one given base at n old new c h e w =
    let id = base + n + 1 in
    let a = axiom_is base n old w.0 c w.1 in
    let is : new ≡ with_clause old id c = w.2 ∙ a.1 in
    subst (Leaves given base at (suc n)) (sym is) (leaves_more given base at n old
    (with_clause old id c) h refl
    (cond-true (id == id) (Some c) (old.clause_at id) (eq-eqb id id refl) ∙ sym e)
    (λ i f. at_came old id i c f)
    (λ d s. let same : c ≡ d = some_same c d (sym e ∙ s) in
    subst (λ x. has_repeat x ≡ false) same (a.0).no_repeat))
  where
    some_same : (c d : List Literal) → Some c ≡ Some d → c ≡ d
    some_same c d e = cc

-- one that came and went
deletion_is : (base before j : ℕ) (old new : Live)
    → IsOpenStep base before old (deletion_line j) new → new ≡ without_ids old ((base + j) ∷ [])
deletion_is base before j old new (inl a) = absurd (false≢true a.kind)
deletion_is base before j old new (inr s) = s.2

leaves_none : (given : Given) (base : ℕ) (at : Clauses) (n : ℕ) (old new : Live)
    → Leaves given base at n old → at (suc n) ≡ None
    → OpenChain base n old (axiom_line stand_in ∷ deletion_line (suc n) ∷ []) new
    → Leaves given base at (suc n) new
leaves_none given base at n old new h e w =
    let id = base + n + 1 in
    let a = axiom_is base n old w.0 stand_in w.1 in
    let come = with_clause old id stand_in in
    let gone = without_ids come (id ∷ []) in
    let place : base + suc n ≡ id = omega arith in
    let d : w.2.0 ≡ without_ids w.0 (id ∷ []) =
    deletion_is base (n + 1) (suc n) w.0 w.2.0 w.2.1
    ∙ ap (λ i. without_ids w.0 (i ∷ [])) place in
    let is : new ≡ gone = w.2.2 ∙ d ∙ ap (λ (x : Live). without_ids x (id ∷ [])) a.1 in
    let here : nat_eq id id ≡ true = eq-eqb id id refl in
    let at_id : gone.clause_at id ≡ None = rw here refl in
    let at_other : (i : ℕ) → (i ≡ id → ⊥) → gone.clause_at i ≡ old.clause_at i =
    λ i f. let no : nat_eq i id ≡ false = ne_eqb i id f in rw no refl in
    subst (Leaves given base at (suc n)) (sym is) (leaves_more given base at n old gone h refl
    (at_id ∙ sym e) at_other (λ c s. absurd (none_some c (sym e ∙ s))))
  where
    none_some : (c : List Literal) → None ≡ Some c → ⊥
    none_some c e = absurd (cc)

leaves_next : (given : Given) (base : ℕ) (at : Clauses) (n : ℕ) (old new : Live)
    (o : Option (List Literal)) → at (suc n) ≡ o → Leaves given base at n old
    → OpenChain base n old (lines_for o (suc n)) new → Leaves given base at (suc n) new
leaves_next given base at n old new (Some c) e h w = leaves_one given base at n old new c h e w
leaves_next given base at n old new None e h w = leaves_none given base at n old new h e w

pub lines_leave : (given : Given) (base : ℕ) (at : Clauses) (n : ℕ) (new : Live)
    → IsBaseOf given base → OpenChain base 0 (start_over given base) (lines_before at n) new
    → Leaves given base at n new
lines_leave given base at zero new above w = subst (Leaves given base at 0) (sym w) (record {
  last = omega arith;
  low = λ i le. refl;
  here = λ j some le. absurd (omega (arith, some, le));
  high = λ i past. none_of (given_at given i)
      (λ c e. let low = given_below given base above i c e in absurd (omega (arith, low, past)));
  single = λ j c some le. absurd (omega (arith, some, le));
})
lines_leave given base at (suc n) new above w =
    let ls = lines_before at n in
    let parts = open_split base 0 (start_over given base) new ls (lines_for (at (suc n)) (suc n)) w
    in
    let count : 0 + added_count ls ≡ n = omega (arith, lines_before-added at n) in
    leaves_next given base at n parts.0 new (at (suc n)) refl
    (lines_leave given base at n parts.0 above parts.1)
    (subst (λ k. OpenChain base k parts.0 (lines_for (at (suc n)) (suc n)) new) count parts.2)

-- an empty clause that is live is one of those that they add
pub lines_refuted : (at : Clauses) (n k : ℕ) → k < n → at (suc k) ≡ Some []
    → AddsNoEmptyClause (lines_before at n) → ⊥
lines_refuted at zero k less e h = absurd (omega (arith, less))
lines_refuted at (suc n) k less e h =
    let quiet : LogLine → Type 0 = λ l. adds_empty_clause l ≡ false in
    let before = lines_before at n in
    let last = lines_for (at (suc n)) (suc n) in
    elim (cases_eq k n) [
      | inl t ↦
          let here : at (suc n) ≡ Some [] = ap (λ i. at (suc i)) (sym t) ∙ e in
          let bad : AddsNoEmptyClause (lines_for (Some []) (suc n)) =
          subst (λ o. AddsNoEmptyClause (lines_for o (suc n))) here (all_right quiet before last h)
          in
          false≢true (sym bad.0)
      | inr f ↦ lines_refuted at n k (omega (arith, less, f)) e (all_left quiet before last h)
    ]
