-- Additions that follow by their hints alone, where clauses have other ids.
use Rattle.std.proofs.Common.{◌≡◌, ℕ, ◌<◌, ◌^◌, Bool, true, false, ◌||◌, List, [], ◌∷◌, map}
use Rattle.std.proofs.Common.{Some, None, refl, sym, ◌∙◌, ap, subst, arith}
use Rattle.std.specs.Prelude.{nat_le}
use Rattle.std.specs.List.{list_any}
use Rattle.std.proofs.lemmas.Bool.{leb-false, or_parts}
use Rattle.std.proofs.lemmas.List.{map-append}
use Rattle.std.proofs.lemmas.Option.{none-some}
use Rattle.cnf.specs.Literal.{Literal, negation}
use Rattle.cnf.specs.Clause.{greatest_variable, has_repeat, is_tautology}
use Rattle.cnf.specs.Refute.{Clauses, Leads, Refutes}
use Rattle.cnf.specs.Lrat.{CandidateHints, IsAddable, Live}
use Rattle.cnf.specs.declared.limits.TheConstants.{VARIABLE_LIMIT}
use Rattle.lrat_read.specs.Form.{groups_of, leading}
use Rattle.lrat_machine.specs.Rup.{end_fault, rup_fault}
use Rattle.lrat_machine.specs.Verdict.{HintWalk, Open, Refuted, Fault, walk}
use Rattle.lrat_machine.proofs.Laws.{refutes_from_walk}

-- what is live under an id is live under its number
abbrev pub HaveNumbers : (ℕ → ℕ) → Clauses → Clauses → Type 0
HaveNumbers f at numbered = (i : ℕ) (c : List Literal) → at i ≡ Some c → numbered (f i) ≡ Some c

module _ (f : ℕ → ℕ) (at numbered : Clauses) (h : HaveNumbers f at numbered) where
  leads_numbered : (A : List Literal) (hints : List ℕ) (B : List Literal) → Leads at A hints B
      → Leads numbered A (map f hints) B
  leads_numbered A [] B e = e
  leads_numbered A (i ∷ hints) B w =
      (w.0, w.1, h i w.0 w.2, w.3, leads_numbered (w.1 ∷ A) hints B w.4)

  pub refutes_numbered : (A : List Literal) (hints : List ℕ) → Refutes at A hints
      → Refutes numbered A (map f hints)
  refutes_numbered A hints r = record {
    front = map f r.front;
    final = f r.final;
    split = ap (map f) r.split ∙ map-append f r.front (r.final ∷ []);
    reached = r.reached;
    leads = leads_numbered A r.front r.reached r.leads;
    clause = r.clause;
    live = h r.final r.clause r.live;
    conflict = r.conflict;
  }

leading_all : (hints : List (Bool × ℕ)) → groups_of hints ≡ []
    → leading hints ≡ map (λ h. h.1) hints
leading_all [] e = refl
leading_all ((false, h) ∷ hints) e = ap (λ z. h ∷ z) (leading_all hints e)
leading_all ((true, h) ∷ hints) e = absurd (cc)

ends : (w : HintWalk) (gs : List CandidateHints) → end_fault w gs ≡ None
    → (w ≡ Refuted) × (gs ≡ [])
ends (Fault f) gs e = absurd (cc)
ends Refuted [] e = (refl, refl)
ends Refuted (g ∷ gs) e = absurd (cc)
ends (Open B) gs e = absurd (cc)

abbrev is_large : Literal → Bool
is_large l = nat_le VARIABLE_LIMIT l.variable

none_large : (c : List Literal) → list_any is_large c ≡ false → greatest_variable c < 2 ^ 27
none_large [] e = omega arith
none_large (l ∷ c) e =
    let h = or_parts (is_large l) (list_any is_large c) e in
    let a = leb-false 134217728 l.variable h.0 in
    let b = none_large c h.1 in
    omega arith

-- an addition without a fault
pub record Follows (live : Live) (id : ℕ) (c : List Literal) (hints : List (Bool × ℕ)) :
    Type 0 where
  pub addable : IsAddable live id c
  pub refutes : Refutes live.clause_at (map negation c) (map (λ h. h.1) hints)

module _ (live : Live) (id : ℕ) (c : List Literal) (hints : List (Bool × ℕ)) where
  abbrev is_bad : Bool
  is_bad = has_repeat c || is_tautology c || list_any is_large c

  good_follows : nat_le id live.last ≡ false → is_bad ≡ false
      → end_fault (walk live.clause_at (map negation c) (leading hints)) (groups_of hints) ≡ None
      → Follows live id c hints
  good_follows above good e =
      let p = or_parts (has_repeat c || is_tautology c) (list_any is_large c) good in
      let q = or_parts (has_repeat c) (is_tautology c) p.0 in
      let over = ends (walk live.clause_at (map negation c) (leading hints)) (groups_of hints) e in
      record {
        addable = record {
          rising = leb-false id live.last above;
          no_repeat = q.0;
          no_tautology = q.1;
          small = none_large c p.1;
        };
        refutes = subst (Refutes live.clause_at (map negation c)) (leading_all hints over.1)
            (refutes_from_walk live.clause_at (map negation c) (leading hints) over.0);
      }

  pub follows : rup_fault live id c hints ≡ None → Follows live id c hints
  follows e =
      elim (nat_le id live.last) as (λ b. nat_le id live.last ≡ b → Follows live id c hints) [
        | true ↦ λ q. absurd (none-some _ (sym (rw q at e)))
        | false ↦ λ q. elim is_bad as (λ b. is_bad ≡ b → Follows live id c hints) [
          | true ↦ λ r. absurd (none-some _ (sym (rw (q, r) at e)))
          | false ↦ λ r. good_follows q r (rw (q, r) at e)
        ] refl
      ] refl
