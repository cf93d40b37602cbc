-- A resolvent of two live clauses may be added.
use Rattle.std.proofs.Common.{◌≡◌, ℕ, ◌*◌, ◌<◌, ◌^◌, Bool, true, false, not, List, [], ◌∷◌, ◌++◌}
use Rattle.std.proofs.Common.{length, filter, Some, refl, sym, ◌∙◌, ap, subst, arith}
use Rattle.std.specs.Prelude.{All, if◌then◌else◌}
use Rattle.std.proofs.lemmas.Bool.{both_ways}
use Rattle.std.proofs.lemmas.Option.{same_Some}
use Rattle.std.proofs.lemmas.List.Elements.{All-nil, All-cons, All-append, All-filter, All-weaker}
use Rattle.cnf.specs.Literal.{Literal, negation, literal_eq}
use Rattle.cnf.specs.Clause.{contains_literal, without_literal, is_tautology, is_empty_clause}
use Rattle.cnf.specs.Formula.{IsFormulaClause}
use Rattle.cnf.specs.Lrat.{IsId}
use Rattle.clauses.specs.Slots.{Slots, clause_at}
use Rattle.lrat_log.specs.declared.lines.Name.{Name}
use Rattle.lrat_log.specs.declared.lines.Kind.{Kind}
use Rattle.lrat_log.specs.declared.lines.Kind.TheVariants.{Empty, Resolvent}
use Rattle.lrat_log.specs.declared.lines.Hint.{Hint}
use Rattle.lrat_log.specs.declared.lines.Hint.TheVariants.{Plain}
use Rattle.lrat_log.specs.Log.{HasNumber, LogLine, is_delete, is_learned}
use Rattle.lrat_log.specs.Steps.{given_of, IsOwnGroup}
use Rattle.cnf.specs.Marks.{HasPlace}
use Rattle.eliminate.specs.declared.simplifier.Simplifier.{Simplifier}
use Rattle.reconstruction.specs.Removals.{is_eliminated}
use Rattle.eliminate_tables.specs.Resolvents.{resolvent}
use Rattle.eliminate.specs.State.{Start}
use Rattle.eliminate_names.specs.Work.{name_at}
use Rattle.eliminate.specs.Simplifier.{IsSimplified, IsSimplifier, IsAddableLine}
use Rattle.eliminate.proofs.Adding.{resolvent_line, resolvent-no_repeat, resolvent-small}
use Rattle.eliminate_names.proofs.Laws.{number_at}
use Rattle.clauses.proofs.Laws.{clause_new, live_within}
use Rattle.eliminate.proofs.States.{places_of}
use Rattle.eliminate.proofs.Tables.{addable_at}

-- what holds of the literals of both parents holds of the resolvent's
resolvent_all : (P : Literal → Type 0) (p : Literal) (c d : List Literal) → All P c → All P d
    → All P (resolvent p c d)
resolvent_all P p c d a b =
    let rest : List Literal = without_literal p c in
    All-append P rest (filter (λ k. not (contains_literal k rest)) (without_literal (negation p) d))
    (All-filter (λ k. not (literal_eq p k)) P c a)
    (All-filter (λ k. not (contains_literal k rest)) P (without_literal (negation p) d)
    (All-filter (λ k. not (literal_eq (negation p) k)) P d b))

pub resolvent_clause : (n : ℕ) (p : Literal) (c d : List Literal) → IsFormulaClause n c
    → IsFormulaClause n d → is_tautology (resolvent p c d) ≡ false
    → IsFormulaClause n (resolvent p c d)
resolvent_clause n p c d fc fd plain = record {
  no_repeat = resolvent-no_repeat p c d fc.no_repeat fd.no_repeat;
  no_tautology = plain;
  from_one = resolvent_all (λ l. 0 < l.variable) p c d fc.from_one fd.from_one;
  small = resolvent-small p c d n fc.small fd.small;
}

-- the variables of a clause are numbers of a line
clause_ids : (n : ℕ) (c : List Literal) → n < 2 ^ 27 → IsFormulaClause n c
    → All (λ (k : Literal). IsId k.variable) c
clause_ids n c few f =
    All-weaker (HasPlace (2 * n)) (λ (k : Literal). IsId k.variable)
    (λ k h. (h.0, (let small = h.1 in omega arith))) c (places_of n c f.from_one f.small)

module _ (start : Start) (s : Simplifier) (slots : Slots) (ls : List LogLine) (p : Literal)
    (c d : List Literal) (first second : ℕ)
    (h : IsSimplified start s slots ls) (one : clause_at slots first ≡ Some c)
    (other : clause_at slots second ≡ Some d) where
  pub few_variables : s.vars < 2 ^ 27
  few_variables = let f = h.few in let g = h.fresh in omega arith

  -- the line of a resolvent
  pub resolvent_addable : (kind : Kind) (clause : List Literal) (hints : List Hint)
      → is_delete kind ≡ false → is_learned kind ≡ false
      → contains_literal p c ≡ true → contains_literal (negation p) d ≡ true
      → is_tautology (resolvent p c d) ≡ false → clause ≡ resolvent p c d
      → hints ≡ Plain (name_at s.names.names first) ∷ Plain (name_at s.names.names second) ∷ []
      → IsAddableLine start s ls (record { kind = kind; clause = clause; hints = hints })
  resolvent_addable kind clause hints adds unlearned has has_not plain clause_is hints_are =
      let names : List Name = s.names.names in
      let fc = h.state.work.clauses first c one in
      let fd = h.state.work.clauses second d other in
      let f : IsFormulaClause s.vars (resolvent p c d) =
      resolvent_clause s.vars p c d fc fd plain in
      let hs : List Hint = Plain (name_at names first) ∷ Plain (name_at names second) ∷ [] in
      addable_at start s ls kind clause (resolvent p c d) hints hs clause_is hints_are (record {
        follows = resolvent_line (given_of start.clauses) ls kind s.vars p c d (name_at names first)
            (name_at names second) adds few_variables fc fd has has_not plain
            (λ base above. (
              (h.state.work.named.live base above).named first c one,
              (h.state.work.named.live base above).named second d other,
            ));
        own =
            All-cons IsOwnGroup (Plain (name_at names first)) (Plain (name_at names second) ∷ []) tt
            (All-cons IsOwnGroup (Plain (name_at names second)) [] tt (All-nil IsOwnGroup));
        unlearned = unlearned;
        line = record {
          literals = clause_ids s.vars (resolvent p c d) few_variables f;
          names =
              All-cons HasNumber (Plain (name_at names first)) (Plain (name_at names second) ∷ [])
              (number_at names first h.state.work.named.numbers)
              (All-cons HasNumber (Plain (name_at names second)) []
              (number_at names second h.state.work.named.numbers) (All-nil HasNumber));
          deletes = λ e. absurd (both_ways (is_delete kind) adds e);
        };
        clause = f;
        free =
            resolvent_all (λ k. is_eliminated s.removals k.variable ≡ false) p c d
            (h.state.free first c one) (h.state.free second d other);
      })

module _ (s : Simplifier) (slots : Slots) (ls : List LogLine) (w : IsSimplifier s slots ls) (r : ℕ)
    (c : List Literal) (live : clause_at slots r ≡ Some c) where
  -- the marks have a place for each literal of a live clause
  pub literals_placed : All (HasPlace (length s.marks)) c
  literals_placed =
      let f = w.1.state.work.clauses r c live in
      subst (λ n. All (HasPlace n) c) (sym w.1.marks) (places_of s.vars c f.from_one f.small)

  pub literals_plain : is_tautology c ≡ false
  literals_plain = (w.1.state.work.clauses r c live).no_tautology

  -- and it has a name
  pub is_named : r < length s.names.names
  is_named = let long = w.1.state.work.named.long in let h = live_within slots r c live in
      omega arith

kind_adds : (b : Bool) (k : Kind) → k ≡ (if b then Empty else Resolvent) → (is_delete k ≡ false)
    × (is_learned k ≡ false)
kind_adds true k e = rw e (refl, refl)
kind_adds false k e = rw e (refl, refl)

pub resolvent_kind : (c : List Literal) (k : Kind)
    → k ≡ (if is_empty_clause c then Empty else Resolvent) → (is_delete k ≡ false)
    × (is_learned k ≡ false)
resolvent_kind c k e = kind_adds (is_empty_clause c) k e

-- two clauses under one reference are one
pub same_at : (slots : Slots) (r : ℕ) (c d : List Literal) → clause_at slots r ≡ Some c
    → clause_at slots r ≡ Some d → c ≡ d
same_at slots r c d e f = same_Some c d (sym e ∙ f)

-- the resolvent that was added stands at the end
pub pair_added : (p : Literal) (slots more : Slots) (first second : ℕ) (c d clause : List Literal)
    → more ≡ slots ++ Some clause ∷ [] → clause ≡ resolvent p c d → clause_at slots first ≡ Some c
    → clause_at slots second ≡ Some d
    → (x y : List Literal) → clause_at slots first ≡ Some x → clause_at slots second ≡ Some y
    → clause_at more (length slots) ≡ Some (resolvent p x y)
pair_added p slots more first second c d clause more_is clause_is one other x y ex ey =
    ap (λ (xs : Slots). clause_at xs (length slots)) more_is ∙ clause_new slots clause
    ∙ ap Some clause_is
    ∙ ap (λ z. Some (resolvent p z d)) (same_at slots first c x one ex)
    ∙ ap (λ z. Some (resolvent p x z)) (same_at slots second d y other ey)
