-- A simplified form of a formula stays one where a clause is added, or deleted as one that another
-- subsumes.
use Rattle.std.proofs.Common.{◌≡◌, ◌≢◌, ℕ, ◌+◌, ◌*◌, ◌<◌, ◌^◌, Bool, true, false, ◌&&◌, List, []}
use Rattle.std.proofs.Common.{◌∷◌, ◌++◌, length, Some, None, refl, sym, ◌∙◌, ap, subst, arith, set}
use Rattle.std.specs.Prelude.{All, Contains}
use Rattle.std.proofs.lemmas.Bool.{both_ways, false≢true}
use Rattle.cnf.specs.Literal.{Literal}
use Rattle.cnf.specs.Clause.{is_subset, is_empty_clause}
use Rattle.cnf.specs.Formula.{IsFormulaClause}
use Rattle.clauses.specs.Slots.{Slots, clause_at, live_clauses}
use Rattle.lrat_log.specs.Log.{LogLine}
use Rattle.lrat_log.specs.Steps.{AddsNoEmptyClause}
use Rattle.cnf.specs.Marks.{HasPlace}
use Rattle.eliminate.specs.declared.simplifier.Simplifier.{Simplifier}
use Rattle.lrat_log.specs.Steps.{added_count}
use Rattle.eliminate_names.specs.Work.{NamesState, name_at, added_line, delete_line}
use Rattle.eliminate_tables.specs.Rows.{with_clause_rows}
use Rattle.eliminate.specs.State.{Start, IsState}
use Rattle.eliminate.specs.Simplifier.{IsSimplified, IsAddableLine, IsLogOf}
use Rattle.eliminate_names.proofs.Laws.{open_deleted}
use Rattle.clauses.proofs.Laws.{clause_new, contains_live}
use Rattle.lrat_log.proofs.Laws.{additions_push, open_push}
use Rattle.eliminate.proofs.States.{state_added, state_subsumed, places_of}

no_empty : (b e : Bool) → e ≡ false → (b && e) ≡ false
no_empty true e h = h
no_empty false e h = refl

is_empty : (c : List Literal) → is_empty_clause c ≡ true → [] ≡ c
is_empty [] h = refl
is_empty (l ∷ c) h = absurd (false≢true h)

-- the places of a clause of the formula
pub clause_places : (start : Start) (s : Simplifier) (slots : Slots) (ls : List LogLine)
    (c : List Literal) → IsSimplified start s slots ls → IsFormulaClause s.vars c
    → All (HasPlace (2 * s.vars)) c
clause_places start s slots ls c h f = places_of s.vars c f.from_one f.small

-- tables that are as before but for a clause that was added
pub record HasAdded (s t : Simplifier) (slots : Slots) (c : List Literal) : Type 0 where
  pub vars : t.vars ≡ s.vars
  pub names : t.names ≡ record {
    names = s.names.names ++ added_line s.names.additions ∷ [];
    additions = s.names.additions + 1;
  }
  pub occurrences : t.occurrences.rows ≡ with_clause_rows s.occurrences.rows c (length slots)
  pub removals : t.removals ≡ s.removals
  pub marks : t.marks ≡ s.marks
  pub refuted : t.is_refuted ≡ is_empty_clause c

pub simplified_added : (start : Start) (s t : Simplifier) (slots : Slots) (ls : List LogLine)
    (l : LogLine) → IsSimplified start s slots ls → s.is_refuted ≡ false
    → IsAddableLine start s ls l → added_count ls + 1 < 2 ^ 62 → HasAdded s t slots l.clause
    → IsSimplified start t (slots ++ Some l.clause ∷ []) (ls ++ l ∷ [])
simplified_added start s t slots ls l h works a small n =
    let more : Slots = slots ++ Some l.clause ∷ [] in
    let going : AddsNoEmptyClause ls = h.going works in
    let state : IsState start s.vars more (s.names.names ++ added_line (added_count ls) ∷ [])
    (ls ++ l ∷ []) (with_clause_rows s.occurrences.rows l.clause (length slots)) s.removals =
    state_added start s.vars slots s.names.names ls s.occurrences.rows s.removals h.state going l
    a.follows a.own a.unlearned small a.clause a.free in
    let names : t.names.names ≡ s.names.names ++ added_line (added_count ls) ∷ [] =
    ap (λ (x : NamesState). x.names) n.names
    ∙ ap (λ k. s.names.names ++ added_line k ∷ []) h.counted in
    let count : t.names.additions ≡ s.names.additions + 1 =
    ap (λ (x : NamesState). x.additions) n.names in
    record {
      state = rw (n.vars, names, n.occurrences, n.removals) state;
      counted = count ∙ ap (λ k. k + 1) h.counted
          ∙ sym (rw a.follows.adds at (additions_push ls l));
      marks = ap length n.marks ∙ h.marks ∙ ap (λ k. 2 * k) (sym n.vars);
      few = h.few;
      given = (let v = n.vars in let g = h.given in omega arith);
      fresh = (let v = n.vars in let f = h.fresh in omega arith);
      going =
          λ e. open_push ls l going (no_empty _ (is_empty_clause l.clause) (sym n.refuted ∙ e));
      refuted =
          λ e. subst (Contains (live_clauses more)) (sym (is_empty l.clause (sym n.refuted ∙ e)))
          (contains_live more (length slots) l.clause (clause_new slots l.clause));
    }

-- tables that are as before but for the schedule
pub record HasSameTables (s t : Simplifier) : Type 0 where
  pub vars : t.vars ≡ s.vars
  pub names : t.names ≡ s.names
  pub occurrences : t.occurrences ≡ s.occurrences
  pub removals : t.removals ≡ s.removals
  pub marks : length t.marks ≡ length s.marks
  pub refuted : t.is_refuted ≡ s.is_refuted

pub simplified_subsumed : (start : Start) (s t : Simplifier) (slots : Slots) (ls : List LogLine)
    (r q : ℕ) (c d : List Literal) → IsSimplified start s slots ls → s.is_refuted ≡ false
    → q ≢ r → clause_at slots r ≡ Some d → clause_at slots q ≡ Some c → is_subset c d ≡ true
    → HasSameTables s t
    → IsSimplified start t (set slots r None) (ls ++ delete_line (name_at s.names.names r) ∷ [])
simplified_subsumed start s t slots ls r q c d h works other at by subset n =
    let going : AddsNoEmptyClause ls = h.going works in
    let state =
    state_subsumed start s.vars slots s.names.names ls s.occurrences.rows s.removals h.state going
    r q c d other at by subset in
    let line : LogLine = delete_line (name_at s.names.names r) in
    record {
      state = rw (n.vars, n.names, n.occurrences, n.removals) state;
      counted = ap (λ (x : NamesState). x.additions) n.names ∙ h.counted
          ∙ (let e = additions_push ls line in omega arith);
      marks = n.marks ∙ h.marks ∙ ap (λ k. 2 * k) (sym n.vars);
      few = h.few;
      given = (let v = n.vars in let g = h.given in omega arith);
      fresh = (let v = n.vars in let f = h.fresh in omega arith);
      going = λ e. open_deleted ls (name_at s.names.names r) going;
      refuted = λ e. absurd (both_ways s.is_refuted works (sym n.refuted ∙ e));
    }

-- the lines of a simplified form
pub log_of : (start : Start) (s : Simplifier) (slots : Slots) (ls : List LogLine)
    → IsSimplified start s slots ls → IsLogOf start ls
log_of start s slots ls h = (h.state.work.log, h.state.work.none_learned)
