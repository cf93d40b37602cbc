-- A log has ended only where it has the empty clause.
use Rattle.std.proofs.Common.{◌≡◌, ℕ, false, List, [], ◌∷◌, map, refl, sym, ◌∙◌}
use Rattle.std.proofs.Common.{ap, inl, inr}
use Rattle.std.specs.List.{list_any}
use Rattle.std.proofs.lemmas.Bool.{cases_Bool, cond-false, cond-true, or_parts}
use Rattle.std.proofs.lemmas.List.Folds.{list_any-append}
use Rattle.cnf.specs.Clause.{is_empty_clause}
use Rattle.cnf.specs.Literal.{Literal}
use Rattle.lrat_log.specs.Log.{LogLine, axiom_line, is_delete}
use Rattle.lrat_log.specs.Steps.{adds_empty_clause}
use Rattle.cuts_log.specs.declared.standing.Standing.{Standing}
use Rattle.cuts_log.specs.Events.{Event, Plain, Word, lines_of}
use Rattle.cuts_log.specs.Logs.{IsKept, LogState, all_lines, events_of, problem_of, start_of}
use Rattle.cuts_log.specs.Stands.{TakesAll, stand_at, with_clause, with_clauses, with_line}
use Rattle.cuts_log.specs.Stands.{without}
use Rattle.cuts_log.specs.Starts.{earlier_lines}

-- an addition or a deletion
line_open : (l : LogLine) (s : Standing) → adds_empty_clause l ≡ false → s.ended ≡ false
    → (with_line l s).ended ≡ false
line_open l s none going =
    elim (cases_Bool (is_delete l.kind)) [
      | inl d ↦ ap (λ (x : Standing). x.ended)
          (cond-true (is_delete l.kind) (without l.hints s) _ d) ∙ going
      | inr d ↦
          let kept : with_line l s ≡ with_clause l.clause s =
          cond-false (is_delete l.kind) _ _ d in
          let own : adds_empty_clause l ≡ is_empty_clause l.clause = rw d refl in
          ap (λ (x : Standing). x.ended) kept ∙ sym own ∙ none
    ]

-- clauses that a line makes
made_open : (made : List (List Literal)) (s : Standing)
    → list_any adds_empty_clause (map axiom_line made) ≡ false → s.ended ≡ false
    → (with_clauses made s).ended ≡ false
made_open [] s none going = going
made_open (c ∷ cs) s none going =
    let w =
    or_parts (adds_empty_clause (axiom_line c)) (list_any adds_empty_clause (map axiom_line cs))
    none in made_open cs (with_clause c s) w.1 (line_open (axiom_line c) s w.0 going)

lines_open : (cost : ℕ) (es : List Event) (s new : Standing) → TakesAll cost s es new
    → list_any adds_empty_clause (lines_of es) ≡ false → s.ended ≡ false → new.ended ≡ false
lines_open cost [] s new t none going = ap (λ (x : Standing). x.ended) t ∙ going
lines_open cost (Plain l ∷ es) s new t none going =
    let w =
    or_parts (list_any adds_empty_clause (l ∷ [])) (list_any adds_empty_clause (lines_of es))
    (sym (list_any-append adds_empty_clause (l ∷ []) (lines_of es)) ∙ none) in
    let one = or_parts (adds_empty_clause l) false w.0 in
    lines_open cost es t.0 new t.2 w.1
    (ap (λ (x : Standing). x.ended) t.1.2 ∙ line_open l s one.0 going)
lines_open cost (Word w made ∷ es) s new t none going =
    let parts =
    or_parts (list_any adds_empty_clause (map axiom_line made))
    (list_any adds_empty_clause (lines_of es))
    (sym (list_any-append adds_empty_clause (map axiom_line made) (lines_of es)) ∙ none) in
    lines_open cost es t.0 new t.2 parts.1
    (ap (λ (x : Standing). x.ended) t.1.clauses
    ∙ made_open made (record s { forms = t.1.middle }) parts.0 going)

pub still_open : (l : LogState) → IsKept l → (l.book).failed ≡ false
    → list_any adds_empty_clause (all_lines l) ≡ false → (l.standing).ended ≡ false
still_open l h works none =
    let own = lines_of (events_of l) in
    let before = earlier_lines (l.book).base (start_of l) in
    let parts =
    or_parts (list_any adds_empty_clause before) (list_any adds_empty_clause own)
    (sym (list_any-append adds_empty_clause before own) ∙ none) in
    ap (λ (x : Standing). x.ended) (h.standing works)
    ∙ lines_open l.cost (events_of l) (stand_at (problem_of l) (start_of l)) h.left h.taken parts.1
    refl
