-- A log whose lines stop at the empty clause, and have one, has ended.
use Rattle.std.proofs.Common.{◌≡◌, ℕ, Bool, true, false, List, [], ◌∷◌, ◌++◌, map, refl, sym}
use Rattle.std.proofs.Common.{◌∙◌, ap, subst, inl, inr, ◌⊎◌}
use Rattle.std.specs.List.{list_any}
use Rattle.std.proofs.lemmas.Bool.{both_ways, cases_Bool, cond-false}
use Rattle.std.proofs.lemmas.List.Folds.{list_any-append}
use Rattle.cnf.specs.Clause.{is_empty_clause}
use Rattle.cnf.specs.Literal.{Literal}
use Rattle.lrat_log.specs.Log.{LogLine, axiom_line, is_delete}
use Rattle.lrat_log.specs.Steps.{AddsNoEmptyClause, StopsAtEmptyClause, adds_empty_clause}
use Rattle.cuts_log.specs.declared.standing.Standing.{Standing}
use Rattle.cuts_log.specs.Events.{Event, Plain, Word, lines_of}
use Rattle.cuts_log.specs.Judging.{LogsEnd}
use Rattle.cuts_log.specs.Logs.{events_of, problem_of, start_of}
use Rattle.cuts_log.specs.Stands.{TakesAll, stand_at, with_clause, with_clauses, with_line}
use Rattle.cuts_log.specs.Starts.{earlier_lines}
use Rattle.cuts_log.proofs.EarlierLines.{stops_behind}
use Rattle.cuts_log.proofs.JudgedSteps.{ends_at, stops_on}

-- no line follows, and the empty clause came last; or it is still to come
abbrev Ends : Bool → List LogLine → Type 0
Ends ended ls = ((ended ≡ true) × (ls ≡ []))
    ⊎ (StopsAtEmptyClause ls × (list_any adds_empty_clause ls ≡ true))

-- where it came, nothing comes any more
none_more : (cost : ℕ) (es : List Event) (s new : Standing) → s.ended ≡ true → lines_of es ≡ []
    → TakesAll cost s es new → new.ended ≡ true
none_more cost [] s new e none t = ap (λ (x : Standing). x.ended) t ∙ e
none_more cost (Plain l ∷ es) s new e none t = absurd (cc)
none_more cost (Word w made ∷ es) s new e none t = absurd (both_ways _ t.1.open_end e)

-- an addition or a deletion
line_ends : (l : LogLine) (ls : List LogLine) (s : Standing) → StopsAtEmptyClause (l ∷ ls)
    → list_any adds_empty_clause (l ∷ ls) ≡ true → Ends (with_line l s).ended ls
line_ends l ls s stops some =
    elim (cases_Bool (adds_empty_clause l)) [
      | inl y ↦ inl (line_empty l s y, ends_at l ls stops y)
      | inr n ↦ inr (stops_on l ls stops, rw n at some)
    ]
  where
    line_empty : (k : LogLine) (t : Standing) → adds_empty_clause k ≡ true
        → (with_line k t).ended ≡ true
    line_empty k t e =
        elim (cases_Bool (is_delete k.kind)) [
          | inl d ↦ absurd (both_ways (adds_empty_clause k) (rw d refl) e)
          | inr d ↦
              let kept : with_line k t ≡ with_clause k.clause t =
              cond-false (is_delete k.kind) _ _ d in
              let own : adds_empty_clause k ≡ is_empty_clause k.clause = rw d refl in
              ap (λ (x : Standing). x.ended) kept ∙ sym own ∙ e
        ]

-- clauses that a line makes
made_ends : (made : List (List Literal)) (ls : List LogLine) (s : Standing)
    → StopsAtEmptyClause (map axiom_line made ++ ls)
    → list_any adds_empty_clause (map axiom_line made ++ ls) ≡ true
    → Ends (with_clauses made s).ended ls
made_ends [] ls s stops some = inr (stops, some)
made_ends (c ∷ cs) ls s stops some =
    elim (line_ends (axiom_line c) (map axiom_line cs ++ ls) s stops some) [
      | inl h ↦ inl (last_made cs (with_clause c s) h.0 h.1)
      | inr h ↦ made_ends cs ls (with_clause c s) h.0 h.1
    ]
  where
    last_made : (ds : List (List Literal)) (t : Standing) → t.ended ≡ true
        → map axiom_line ds ++ ls ≡ [] → ((with_clauses ds t).ended ≡ true) × (ls ≡ [])
    last_made [] t e none = (e, none)
    last_made (d ∷ ds) t e none = absurd (cc)

lines_end : (cost : ℕ) (es : List Event) (s new : Standing) → TakesAll cost s es new
    → StopsAtEmptyClause (lines_of es) → list_any adds_empty_clause (lines_of es) ≡ true
    → new.ended ≡ true
lines_end cost [] s new t stops some = absurd (cc)
lines_end cost (Plain l ∷ es) s new t stops some =
    let mid = t.0 in
    let is : (with_line l s).ended ≡ mid.ended = sym (ap (λ (x : Standing). x.ended) t.1.2) in
    elim (subst (λ b. Ends b (lines_of es)) is (line_ends l (lines_of es) s stops some)) [
      | inl h ↦ none_more cost es mid new h.0 h.1 t.2
      | inr h ↦ lines_end cost es mid new t.2 h.0 h.1
    ]
lines_end cost (Word w made ∷ es) s new t stops some =
    let mid = t.0 in
    let from : Standing = record s { forms = t.1.middle } in
    let is : (with_clauses made from).ended ≡ mid.ended =
    sym (ap (λ (x : Standing). x.ended) t.1.clauses) in
    elim (subst (λ b. Ends b (lines_of es)) is (made_ends made (lines_of es) from stops some)) [
      | inl h ↦ none_more cost es mid new h.0 h.1 t.2
      | inr h ↦ lines_end cost es mid new t.2 h.0 h.1
    ]

-- no line that stands for what was written before adds the empty clause
none_before : (ls : List LogLine) → AddsNoEmptyClause ls → list_any adds_empty_clause ls ≡ false
none_before [] h = refl
none_before (l ∷ ls) h = rw h.0 (none_before ls h.1)

pub logs_end : LogsEnd
logs_end l h book works stops some =
    let base = (l.book).base in
    let before = earlier_lines base (start_of l) in
    let own = lines_of (events_of l) in
    let open_lines : AddsNoEmptyClause before =
    subst (λ b. AddsNoEmptyClause (earlier_lines b (start_of l))) (sym h.base)
    (h.start).unrefuted in
    let here : list_any adds_empty_clause own ≡ true =
    rw (none_before before open_lines) at (sym (list_any-append adds_empty_clause before own)
    ∙ some) in
    ap (λ (x : Standing). x.ended) (h.standing works)
    ∙ lines_end l.cost (events_of l) (stand_at (problem_of l) (start_of l)) h.left h.taken
    (stops_behind before own stops) here
