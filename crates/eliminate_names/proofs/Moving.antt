-- What each move keeps: a line that follows by its hints, and a deletion.
use Rattle.std.proofs.Common.{◌≡◌, ℕ, ◌+◌, ◌<◌, ◌^◌, false, List, [], ◌∷◌, ◌++◌, Some, None, inl}
use Rattle.std.proofs.Common.{inr, refl, sym, ◌∙◌, subst, arith, slice_set, sum_by}
use Rattle.std.specs.Prelude.{if◌then◌else◌, All}
use Rattle.std.proofs.lemmas.List.Elements.{All-push, All-nil, All-cons}
use Rattle.std.proofs.lemmas.List.Sums.{sum_by-append}
use Rattle.cnf.specs.Literal.{Literal}
use Rattle.cnf.specs.Formula.{IsFormulaClause}
use Rattle.clauses.specs.Slots.{Slots, clause_at}
use Rattle.lrat_log.specs.declared.lines.Name.{Name}
use Rattle.lrat_log.specs.Log.{LogLine, Given, id_of, is_learned}
use Rattle.lrat_log.specs.Steps.{IsBaseOf, log_live, StaysLogOver, AddsNoEmptyClause, IsOwnGroup}
use Rattle.lrat_log.specs.Steps.{learned_count}
use Rattle.lrat_log.proofs.Laws.{one_apart, open_push, stops_push}
use Rattle.lrat_log.specs.Steps.{added_count}
use Rattle.eliminate_names.specs.Work.{name_at, added_line, delete_line, IsWork, IsRupLine}
use Rattle.eliminate_names.proofs.Logs.{rup_line_more, delete_line_more}
use Rattle.clauses.proofs.Laws.{clause_cases, clause_left}
use Rattle.eliminate_names.proofs.Naming.{named_added, named_deleted}

pub learned-push : (ls : List LogLine) (l : LogLine) → is_learned l.kind ≡ false
    → learned_count (ls ++ l ∷ []) ≡ learned_count ls
learned-push ls l e =
    let one : sum_by (λ (k : LogLine). if is_learned k.kind then 1 else 0) (l ∷ []) ≡ 0 =
    rw e refl in
    let both : learned_count (ls ++ l ∷ []) ≡ learned_count ls + sum_by
    (λ (k : LogLine). if is_learned k.kind then 1 else 0) (l ∷ []) =
    sum_by-append (λ (k : LogLine). if is_learned k.kind then 1 else 0) ls (l ∷ []) in
    omega arith

-- the log with one more line that follows by its hints
pub stays_added : (first : ℕ) (given : Given) (ls : List LogLine) (l : LogLine)
    → StaysLogOver first given ls → AddsNoEmptyClause ls → IsRupLine given ls l
    → All IsOwnGroup l.hints → StaysLogOver first given (ls ++ l ∷ [])
stays_added first given ls l log going rup own more small = record {
  steps = rup_line_more given more ls l rup (log more small).steps;
  stops = stops_push ls l going;
  groups = All-push (λ (k : LogLine). All IsOwnGroup k.hints) ls l (log more small).groups own;
}

-- and with one that deletes a clause by its name
pub stays_deleted : (first : ℕ) (given : Given) (ls : List LogLine) (n : Name) (c : List Literal)
    → StaysLogOver first given ls → AddsNoEmptyClause ls
    → ((base : ℕ) → IsBaseOf given base → log_live given base ls (id_of base n) ≡ Some c)
    → StaysLogOver first given (ls ++ delete_line n ∷ [])
stays_deleted first given ls n c log going live more small = record {
  steps =
      delete_line_more given more ls (delete_line n)
      (record {
        deletes = refl;
        distinct = λ base above. one_apart (id_of base n);
        live = λ base above. ((c, live base above), tt);
      }) (log more small).steps;
  stops = stops_push ls (delete_line n) going;
  groups =
      All-push (λ (k : LogLine). All IsOwnGroup k.hints) ls (delete_line n) (log more small).groups
      (All-cons IsOwnGroup _ [] tt (All-nil IsOwnGroup));
}

-- a clause is added, with its line
pub work_added : (first variables : ℕ) (given : Given) (slots : Slots) (names : List Name)
    (ls : List LogLine) (l : LogLine)
    → IsWork first variables given slots names ls → AddsNoEmptyClause ls
    → IsRupLine given ls l → All IsOwnGroup l.hints → is_learned l.kind ≡ false
    → added_count ls + 1 < 2 ^ 62 → IsFormulaClause variables l.clause
    → IsWork first variables given (slots ++ Some l.clause ∷ [])
    (names ++ added_line (added_count ls) ∷ []) (ls ++ l ∷ [])
work_added first variables given slots names ls l w going rup own unlearned small clause = record {
  log = stays_added first given ls l w.log going rup own;
  none_learned = learned-push ls l unlearned ∙ w.none_learned;
  named = named_added given slots names ls l w.named rup.adds small;
  clauses = λ r c h. elim (clause_cases slots l.clause r c h) [
    | inl e ↦ w.clauses r c e
    | inr e ↦ subst (IsFormulaClause variables) (sym e.1) clause
  ];
}

-- a clause is deleted, with its line
pub work_deleted : (first variables : ℕ) (given : Given) (slots : Slots) (names : List Name)
    (ls : List LogLine) (r : ℕ) (c : List Literal)
    → IsWork first variables given slots names ls → AddsNoEmptyClause ls
    → clause_at slots r ≡ Some c
    → IsWork first variables given (slice_set slots r None) names
    (ls ++ delete_line (name_at names r) ∷ [])
work_deleted first variables given slots names ls r c w going live = record {
  log =
      stays_deleted first given ls (name_at names r) c w.log going
      (λ base above. (w.named.live base above).named r c live);
  none_learned = learned-push ls (delete_line (name_at names r)) refl ∙ w.none_learned;
  named = named_deleted given slots names ls r c w.named live;
  clauses = λ s d h. w.clauses s d (clause_left slots r s d h).1;
}

-- the log stays open
pub open_deleted : (ls : List LogLine) (n : Name) → AddsNoEmptyClause ls
    → AddsNoEmptyClause (ls ++ delete_line n ∷ [])
open_deleted ls n h = open_push ls (delete_line n) h refl
