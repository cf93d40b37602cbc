-- Plain LRAT for a certificate of forms and cuts: the formula with all clauses that lines make,
-- and the additions and deletions over it.
use Rattle.std.specs.Prelude.{ℕ, ◌+◌, Bool, true, false, List, [], ◌∷◌, ◌++◌, length, map, drop}
use Rattle.std.specs.Prelude.{Option, Some, None, Result, Ok, Err}
use Rattle.std.specs.List.{flat_map}
use Rattle.cnf.specs.Formula.{Cnf}
use Rattle.cnf.specs.Literal.{Literal}
use Rattle.cnf.specs.Lrat.{ProofLine, Addition, Deletion}
use Rattle.cnf.specs.Problem.{Problem}
use Rattle.text.specs.LratText.{line_tokens}
use Rattle.text.specs.Text.{capped, number_of, token_lines}
use Rattle.text.specs.Writing.{spaced}
use Rattle.bound.specs.Weighted.{weighted_cnf}
use Rattle.lrat_read.specs.Form.{Parsed, line_of, Addition as AddsLine, Deletion as DeletesLine}
use Rattle.lrat_read.specs.Form.{Malformed}
use Rattle.lrat_read.specs.Words.{WordLine, word_line_of}
use Rattle.lrat_machine.specs.declared.verdicts.Cause.{Cause}
use Rattle.lrat_cuts.specs.Cuts.{CutsState, cuts_start, judged_line}
use Rattle.lrat_plain.specs.Names.{Names, names_start, added, renumbered, named_all, forgotten}

-- the number that leads a line
abbrev pub lead : List (List ℕ) → ℕ
lead [] = 0
lead (t ∷ ts) = by (number_of t)
  where
    by : Option ℕ → ℕ
    by None = 0
    by (Some n) = capped n

-- the clauses that a right line makes of itself, where it begins with a word: those that are live
-- behind the others
abbrev pub made_by : List (List ℕ) → CutsState → CutsState → List (List Literal)
made_by ts old new = by (word_line_of ts)
  where
    by : Option (Option WordLine) → List (List Literal)
    by None = []
    by (Some line) = map (λ e. e.1) (drop (length old.live) new.live)

-- the names after a right line
abbrev pub names_after : Names → List (List ℕ) → CutsState → CutsState → Names
names_after n ts old new = by (word_line_of ts)
  where
    plain : Parsed → Names
    plain (DeletesLine ids) = forgotten ids n
    plain (AddsLine id c hints) = n
    plain Malformed = n

    by : Option (Option WordLine) → Names
    by None = plain (line_of ts)
    by (Some line) = named_all old.last (length (made_by ts old new)) n

-- where a line makes the empty clause, an addition ends the plain certificate
abbrev pub ending : Names → ℕ → Bool → List ProofLine
ending n last true = Addition (added n (last + 1)) [] (renumbered n last ∷ []) [] ∷ []
ending n last false = []

-- the lines of the plain certificate for a right line
abbrev pub lines_by : Names → List (List ℕ) → CutsState → CutsState → List ProofLine
lines_by n ts old new = by (word_line_of ts)
  where
    plain : Parsed → List ProofLine
    plain (AddsLine id c hints) =
        Addition (added n id) c (map (λ h. renumbered n h.1) hints) [] ∷ []
    plain (DeletesLine ids) = Deletion (added n (lead ts)) (map (renumbered n) ids) ∷ []
    plain Malformed = []

    by : Option (Option WordLine) → List ProofLine
    by None = plain (line_of ts)
    by (Some line) = ending (names_after n ts old new) new.last new.ended

-- the clauses that lines make, up to the first that is not right
abbrev pub made_in : Option ℕ → CutsState → List (List (List ℕ)) → List (List Literal)
made_in cost s [] = []
made_in cost s (ts ∷ more) =
    by (judged_line cost s ts) (λ t. made_by ts s t ++ made_in cost t more)
  where
    by : Result CutsState Cause → (CutsState → List (List Literal)) → List (List Literal)
    by (Err f) next = []
    by (Ok t) next = next t

-- the lines of the plain certificate for these, up to the first that is not right
abbrev pub lines_in : Option ℕ → Names → CutsState → List (List (List ℕ)) → List ProofLine
lines_in cost n s [] = []
lines_in cost n s (ts ∷ more) =
    by (judged_line cost s ts)
    (λ t. lines_by n ts s t ++ lines_in cost (names_after n ts s t) t more)
  where
    by : Result CutsState Cause → (CutsState → List ProofLine) → List ProofLine
    by (Err f) next = []
    by (Ok t) next = next t

-- all clauses that the lines of a text make over an instance
abbrev pub made_text : Option ℕ → Problem → List ℕ → List (List Literal)
made_text cost p bytes = made_in cost (cuts_start p) (token_lines bytes)

-- the formula, and these behind it; the lines leave a state
abbrev pub plain_formula : Option ℕ → Problem → List ℕ → CutsState → Cnf
plain_formula cost p bytes s = record {
  variables = (s.forms).variables;
  clauses = (weighted_cnf p).clauses ++ made_text cost p bytes;
}

-- the plain certificate over that formula
abbrev pub plain_lines : Option ℕ → Problem → List ℕ → List ProofLine
plain_lines cost p bytes =
    let given = length (weighted_cnf p).clauses in
    lines_in cost (names_start given (given + length (made_text cost p bytes))) (cuts_start p)
    (token_lines bytes)

abbrev pub plain_text : List ProofLine → List ℕ
plain_text ls = flat_map (λ l. spaced (line_tokens l)) ls
