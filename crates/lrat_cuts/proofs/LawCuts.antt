-- Cuts and bounds.
use Rattle.std.proofs.Common.{◌≡◌, ℕ, zero, suc, ◌+◌, ◌≤◌, min, max, true, false, ◌&&◌, nat_le, ◌⊎◌}
use Rattle.std.proofs.Common.{List, [], ◌∷◌, Option, Some, None, Ok, Err, inl, inr, refl, sym, ◌∙◌}
use Rattle.std.proofs.Common.{ap, subst, arith}
use Rattle.std.proofs.lemmas.Int.{ints}
use Rattle.std.proofs.lemmas.Bool.{leb-true, or_parts}
use Rattle.std.proofs.lemmas.Option.{none-some, same_Some}
use Rattle.std.specs.List.{AllByRecursion}
use Rattle.cnf.specs.Literal.{Assignment, Literal, literal_value}
use Rattle.cnf.specs.Clause.{Satisfies, clause_value}
use Rattle.cnf.specs.Problem.{Problem, cost_under}
use Rattle.cnf.specs.Instance.{IsInstance}
use Rattle.linear.specs.Costs.{CostForm, falsified, least, least_where}
use Rattle.linear.proofs.Laws.{agrees_falsified, falsified_length, least_below}
use Rattle.forms.specs.Forms.{Forms, Numbered, are_known, bound_line, cut_line, worth_of}
use Rattle.lrat_cuts.specs.Cuts.{CutsState, judged_bound, judged_cut, put, taken_worth}
use Rattle.lrat_cuts.proofs.LawMeaning.{FormHolds, IsCheap, cheap_more, form_at_most, holds_less}
use Rattle.lrat_cuts.proofs.LawMeaning.{none_cheap, worth_at_most}
use Rattle.lrat_cuts.proofs.LawResults.{err_ok, ok_same}
use Rattle.lrat_cuts.proofs.LawState.{IsSound, put_sound}

-- the literals of a clause that is false
all_false : (t : Assignment) (c : List Literal) → clause_value t c ≡ false
    → AllByRecursion (λ l. literal_value t l ≡ false) c
all_false t [] e = tt
all_false t (l ∷ c) e =
    let parts = or_parts (literal_value t l) (clause_value t c) e in
    (parts.0, all_false t c parts.1)

-- what the form is worth where variables have values that they have in a cheap solution
worth_below : (p : Problem) (k v : ℕ) (f : CostForm) (ns : List Numbered) (t : Assignment)
    (c : List Literal) (w : ℕ) → FormHolds p k v f ns → IsCheap p k ns t
    → AllByRecursion (λ l. literal_value t l ≡ false) c
    → worth_of f.scale (least_where f (falsified c f.fixed)) ≡ Some w → w ≤ cost_under p t
worth_below p k v f ns t c w h x off e =
    let same = falsified_length c f.fixed in
    let low = least_below f (falsified c f.fixed) t ((h.wide).cost ∙ sym same)
    ((h.wide).added ∙ sym same) (agrees_falsified c f.fixed t (h.fixed t x) off) in
    let high = form_at_most p k v f ns t h x in
    worth_at_most f.scale (least_where f (falsified c f.fixed)) w (cost_under p t) e
    (omega (arith, ints, low, high))

-- what a cut is taken for, it is worth, or nothing is cheap any more
taken_cases : (cost : Option ℕ) (d : ℕ) (w : Option ℕ) (n : ℕ) → taken_worth cost d w ≡ Some n
    → (w ≡ Some n) ⊎ (n ≡ 0)
taken_cases (Some cost) d None n e = absurd (none-some n e)
taken_cases (Some cost) d (Some w) n e =
    elim (nat_le cost w) as (λ b. nat_le cost w ≡ b → (Some w ≡ Some n) ⊎ (n ≡ 0)) [
      | true ↦ λ q. inl (rw q at e)
      | false ↦ λ q. absurd (none-some n (rw q at e))
    ] refl
taken_cases None d (Some w) n e = inl e
taken_cases None zero None n e = absurd (none-some n e)
taken_cases None (suc d) None n e = inr (sym (same_Some 0 n e))

-- a cut is true in each solution that costs less than it is taken for
cut_true : (p : Problem) (k v : ℕ) (f : CostForm) (ns : List Numbered) (t : Assignment)
    (c : List Literal) (cost : Option ℕ) (n m : ℕ) → FormHolds p k v f ns → m ≤ k → m ≤ n
    → IsCheap p m ns t
    → taken_worth cost f.scale (worth_of f.scale (least_where f (falsified c f.fixed))) ≡ Some n
    → Satisfies t c
cut_true p k v f ns t c cost n m h le few x e =
    elim (clause_value t c) as (λ b. clause_value t c ≡ b → b ≡ true) [
      | true ↦ λ q. refl
      | false ↦ λ q. absurd (elim (taken_cases cost f.scale _ n e) [
        | inl w ↦
            let most = worth_below p k v f ns t c n h (cheap_more p m k ns t le x)
            (all_false t c q) w in
            omega (arith, most, x.cost, few)
        | inr z ↦ omega (arith, z, x.cost, few)
      ])
    ] refl

cut_line_is : (c : List Literal) (f : Forms) (w : Option ℕ) → cut_line c f ≡ Ok w
    → w ≡ worth_of (f.form).scale (least_where f.form (falsified c (f.form).fixed))
cut_line_is c f w e =
    elim (are_known f c && f.has_form) as (λ b. (are_known f c && f.has_form) ≡ b
    → w ≡ worth_of (f.form).scale (least_where f.form (falsified c (f.form).fixed))) [
      | true ↦ λ q. sym (ok_same _ w (rw q at e))
      | false ↦ λ q. absurd (err_ok _ w (rw q at e))
    ] refl

bound_line_is : (f : Forms) (w : Option ℕ) → bound_line f ≡ Ok w
    → w ≡ worth_of (f.form).scale (least f.form)
bound_line_is f w e =
    elim f.has_form as (λ b. f.has_form ≡ b → w ≡ worth_of (f.form).scale (least f.form)) [
      | true ↦ λ q. sym (ok_same _ w (rw q at e))
      | false ↦ λ q. absurd (err_ok _ w (rw q at e))
    ] refl

-- fewer solutions are cheap
worth_sound : (p : Problem) (s : CutsState) (n : ℕ) → IsSound p s
    → IsSound p (record s { worth = min s.worth n })
worth_sound p s n h =
    let f = s.forms in
    let less : min s.worth n ≤ s.worth = omega arith in
    record {
      forms = holds_less p (min s.worth n) s.worth f.variables f.form f.numbered less h.forms;
      live = λ t x. h.live t (cheap_more p (min s.worth n) s.worth f.numbered t less x);
      proved = h.proved;
    }

cut_puts : (p : Problem) → IsInstance p → (cost : Option ℕ) (c : List Literal) (s : CutsState)
    (n : ℕ) → IsSound p s
    → taken_worth cost ((s.forms).form).scale
    (worth_of ((s.forms).form).scale
    (least_where (s.forms).form (falsified c ((s.forms).form).fixed))) ≡ Some n
    → IsSound p (put (s.last + 1) c (record s { worth = min s.worth n }))
cut_puts p i cost c s n h e =
    let f = s.forms in
    let m = min s.worth n in
    let s1 : CutsState = record s { worth = m } in
    let h1 = worth_sound p s n h in
    put_sound p i (s.last + 1) c s1 h1 (λ t x.
    cut_true p s.worth f.variables f.form f.numbered t c cost n m h.forms (omega arith)
    (omega arith) x e)

-- nothing costs less than a form is worth, as far as the cuts are
bound_proves : (p : Problem) → IsInstance p → (lower : ℕ) (s : CutsState) (w : ℕ) → IsSound p s
    → worth_of ((s.forms).form).scale (least (s.forms).form) ≡ Some w → lower ≤ w
    → IsSound p (record s { proved = max s.proved (min lower s.worth) })
bound_proves p i lower s w h e le =
    let f = s.forms in
    let m = min lower s.worth in
    let less : m ≤ s.worth = omega arith in
    let holds = holds_less p m s.worth f.variables f.form f.numbered less h.forms in
    record {
      forms = h.forms;
      live = h.live;
      proved = λ u feasible.
          let none = none_cheap p i m f.variables f.form f.numbered holds (λ t x.
          let most = worth_below p m f.variables f.form f.numbered t [] w holds x tt e in
          absurd (omega (arith, most, x.cost, le))) u feasible in
          omega (arith, none, h.proved u feasible);
    }

pub cut_sound : (p : Problem) → IsInstance p → (cost : Option ℕ) (c : List Literal)
    (s new : CutsState) → IsSound p s → judged_cut cost c s ≡ Ok new → IsSound p new
cut_sound p i cost c s new h e =
    elim (cut_line c s.forms) as (λ r. cut_line c s.forms ≡ r → IsSound p new) [
      | Err x ↦ λ q. absurd (err_ok _ new (rw q at e))
      | Ok w ↦ λ q. elim (taken_worth cost ((s.forms).form).scale w)
          as (λ o. taken_worth cost ((s.forms).form).scale w ≡ o → IsSound p new) [
            | None ↦ λ r. absurd (err_ok _ new (rw (q, r) at e))
            | Some n ↦ λ r.
                let is : taken_worth cost ((s.forms).form).scale
                (worth_of ((s.forms).form).scale
                (least_where (s.forms).form (falsified c ((s.forms).form).fixed))) ≡ Some n
                = ap (taken_worth cost ((s.forms).form).scale) (sym (cut_line_is c s.forms w q))
                ∙ r in
                subst (IsSound p) (ok_same _ new (rw (q, r) at e)) (cut_puts p i cost c s n h is)
          ] refl
    ] refl

pub bound_sound : (p : Problem) → IsInstance p → (lower : ℕ) (s new : CutsState) → IsSound p s
    → judged_bound lower s ≡ Ok new → IsSound p new
bound_sound p i lower s new h e =
    elim (bound_line s.forms) as (λ r. bound_line s.forms ≡ r → IsSound p new) [
      | Err x ↦ λ q. absurd (err_ok _ new (rw q at e))
      | Ok o ↦ λ q. elim o as (λ o. bound_line s.forms ≡ Ok o → IsSound p new) [
        | None ↦ λ q. absurd (err_ok _ new (rw q at e))
        | Some w ↦ λ q. elim (nat_le lower w) as (λ b. nat_le lower w ≡ b → IsSound p new) [
          | false ↦ λ r. absurd (err_ok _ new (rw (q, r) at e))
          | true ↦ λ r.
              subst (IsSound p) (ok_same _ new (rw (q, r) at e))
              (bound_proves p i lower s w h (sym (bound_line_is s.forms (Some w) q))
              (leb-true lower w r))
        ] refl
      ] q
    ] refl
