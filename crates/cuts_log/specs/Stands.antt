-- What lines leave for those that begin with a word, and which lines are taken.
use Rattle.std.specs.Prelude.{◌≡◌, ℕ, ◌≤◌, false, List, [], ◌∷◌, map, Some, Ok}
use Rattle.std.specs.Prelude.{if◌then◌else◌}
use Rattle.cnf.specs.Clause.{is_empty_clause}
use Rattle.cnf.specs.Literal.{Literal}
use Rattle.cnf.specs.Problem.{Problem}
use Rattle.forms.specs.Forms.{Forms, forms_of, heard, bound_line, count_line, cut_line, form_line}
use Rattle.forms.specs.Forms.{group_line, more_line}
use Rattle.cnf.specs.Refute.{Clauses}
use Rattle.lrat_log.specs.Log.{IsLine, LogLine, is_axiom, is_delete}
use Rattle.lrat_read.specs.Words.{WordLine, CountLine, MoreLine, GroupLine, FormLine}
use Rattle.lrat_read.specs.Words.{CutLine, BoundLine}
use Rattle.lrat_read.specs.WordTokens.{HasWordNumbers}
use Rattle.bound.specs.Weighted.{weighted_cnf, weights_of}
use Rattle.cuts_log.specs.declared.standing.Standing.{Standing}
use Rattle.cuts_log.specs.Events.{Event, Plain, Word}
use Rattle.cuts_log.specs.Given.{all_live, deleted, formula_at}
use Rattle.lrat_log.specs.declared.lines.Hint.{Hint}
use Rattle.lrat_cuts.specs.Cuts.{CutsState, fact_of}

-- a clause is live
abbrev pub with_clause : List Literal → Standing → Standing
with_clause c s = record s { forms = heard c s.forms; ended = is_empty_clause c }

abbrev pub with_clauses : List (List Literal) → Standing → Standing
with_clauses [] s = s
with_clauses (c ∷ cs) s = with_clauses cs (with_clause c s)

-- the line is right, for cuts up to a cost, over clauses by number, with these clauses; and what it
-- leaves without them
abbrev pub IsRightWord : ℕ → Clauses → Forms → WordLine → List (List Literal) → Forms → Type 0
IsRightWord cost at old (CountLine outputs inputs) made new =
    count_line outputs inputs old ≡ Ok (record { forms = new; clauses = made })
IsRightWord cost at old (MoreLine number) made new =
    more_line number old ≡ Ok (record { forms = new; clauses = made })
IsRightWord cost at old (GroupLine inputs ids) made new =
    (group_line at inputs ids old ≡ Ok new) × (made ≡ [])
IsRightWord cost at old (FormLine scale facts) made new =
    (form_line at scale (map fact_of facts) old ≡ Ok new) × (made ≡ [])
IsRightWord cost at old (CutLine c) made new =
    (w : ℕ) × (cut_line c old ≡ Ok (Some w)) × (cost ≤ w) × (made ≡ c ∷ []) × (new ≡ old)
IsRightWord cost at old (BoundLine lower) made new =
    (w : ℕ) × (bound_line old ≡ Ok (Some w)) × (lower ≤ w) × (made ≡ []) × (new ≡ old)

-- a line that begins with a word is taken
pub record TakesWord (cost : ℕ) (old : Standing) (w : WordLine) (made : List (List Literal))
    (new : Standing) : Type 0 where
  pub open_end : old.ended ≡ false
  pub numbers : HasWordNumbers w
  pub middle : Forms
  pub right : IsRightWord cost (formula_at old.formula) old.forms w made middle
  pub clauses : new ≡ with_clauses made (record old { forms = middle })

-- clauses are live no more
abbrev pub without : List Hint → Standing → Standing
without hs s = record s { formula = deleted hs s.formula }

-- what an addition or a deletion leaves
abbrev pub with_line : LogLine → Standing → Standing
with_line l s = if is_delete l.kind then without l.hints s else with_clause l.clause s

abbrev pub Takes : ℕ → Standing → Event → Standing → Type 0
Takes cost old (Plain l) new =
    IsLine l × (is_axiom l.kind ≡ false) × (new ≡ with_line l old)
Takes cost old (Word w made) new = TakesWord cost old w made new

-- these lines are taken, one after the other
abbrev pub TakesAll : ℕ → Standing → List Event → Standing → Type 0
TakesAll cost old [] new = new ≡ old
TakesAll cost old (e ∷ es) new = (mid : Standing) × Takes cost old e mid × TakesAll cost mid es new

-- before the first line
abbrev pub stand_of : Problem → Standing
stand_of p =
    let blank : Standing = record {
      forms = forms_of (weighted_cnf p).variables (weights_of p);
      ended = false;
      formula = all_live (weighted_cnf p).clauses;
    } in
    record (with_clauses (weighted_cnf p).clauses blank) { ended = false }

-- before the first line of a log that starts there
abbrev pub stand_at : Problem → CutsState → Standing
stand_at p s =
    record { forms = s.forms; ended = false; formula = all_live (weighted_cnf p).clauses }
