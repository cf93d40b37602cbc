-- The solver's log: lines over names, and how names become ids.
use Rattle.std.specs.Prelude.{◌≡◌, ℕ, ◌+◌, ◌<◌, Bool, true, false, List, [], ◌∷◌, length, map}
use Rattle.std.specs.Prelude.{Option, Some, None, ◌==◌, if◌then◌else◌, All, ⊤, slice_index_or}
use Rattle.std.specs.List.{flat_map}
use Rattle.cnf.specs.Literal.{Literal}
use Rattle.text.specs.Writing.{spaced}
use Rattle.cnf.specs.Lrat.{ProofLine, Addition, Deletion, CandidateHints, Live}
use Rattle.cnf.specs.Lrat.{IsId}
use Rattle.cnf.specs.declared.limits.TheConstants.{NUMBER_LIMIT}
use Rattle.lrat_log.specs.declared.log.TheConstants.{LINE_LIMIT}
use Rattle.text.specs.LratText.{line_tokens}
use Rattle.lrat_log.specs.declared.lines.Name.{Name}
use Rattle.lrat_log.specs.declared.lines.Name.TheVariants.{Formula, Added}
use Rattle.lrat_log.specs.declared.lines.Hint.{Hint}
use Rattle.lrat_log.specs.declared.lines.Hint.TheVariants.{Plain, Group}
use Rattle.lrat_log.specs.declared.lines.Kind.{Kind}
use Rattle.lrat_log.specs.declared.lines.Kind.TheVariants.{Learned, Delete, Empty, Axiom}

pub record LogLine : Type 0 where
  pub kind : Kind
  pub clause : List Literal
  pub hints : List Hint

abbrev pub is_delete : Kind → Bool
is_delete Delete = true
is_delete other = false

abbrev pub is_learned : Kind → Bool
is_learned Learned = true
is_learned other = false

abbrev pub is_axiom : Kind → Bool
is_axiom Axiom = true
is_axiom other = false

-- the line of a clause from outside
abbrev pub axiom_line : List Literal → LogLine
axiom_line c = record { kind = Axiom; clause = c; hints = [] }

abbrev pub IsPlain : Hint → Type 0
IsPlain (Plain n) = ⊤
IsPlain (Group n) = ⊥

abbrev pub name_of : Hint → Name
name_of (Plain n) = n
name_of (Group n) = n

abbrev pub number_in : Name → ℕ
number_in (Formula i) = i
number_in (Added j) = j

abbrev pub is_added : Name → Bool
is_added (Formula i) = false
is_added (Added j) = true

abbrev pub is_group : Hint → Bool
is_group (Plain n) = false
is_group (Group n) = true

-- the number in the hint's name is from 1 and below the limit
abbrev pub HasNumber : Hint → Type 0
HasNumber h = IsId (number_in (name_of h))

-- what is known of each line: variables and numbers are from 1 and below the limit; one that
-- deletes has no literals, and its hints are plain
pub record IsLine (l : LogLine) : Type 0 where
  pub literals : All (λ k. IsId k.variable) l.clause
  pub names : All HasNumber l.hints
  pub deletes : is_delete l.kind ≡ true → (l.clause ≡ []) × All IsPlain l.hints

-- the line in this place; past the end, one without literals and hints
abbrev pub line_at : List LogLine → ℕ → LogLine
line_at ls i = slice_index_or ls i (record { kind = Empty; clause = []; hints = [] })

-- what is known of each log
pub record IsLog (ls : List LogLine) : Type 0 where
  pub short : length ls < LINE_LIMIT
  pub lines : All IsLine ls

abbrev pub id_of : ℕ → Name → ℕ
id_of base (Formula i) = i
id_of base (Added j) = base + j

-- the ids of the hints before the first group
abbrev pub leading_ids : ℕ → List Hint → List ℕ
leading_ids base [] = []
leading_ids base (Plain n ∷ hs) = id_of base n ∷ leading_ids base hs
leading_ids base (Group n ∷ hs) = []

abbrev pub group_ids : ℕ → List Hint → List CandidateHints
group_ids base [] = []
group_ids base (Plain n ∷ hs) = group_ids base hs
group_ids base (Group n ∷ hs) =
    record { candidate = id_of base n; hints = leading_ids base hs } ∷ group_ids base hs

-- the line, where the log has `before` additions before it
abbrev pub numbered_line : ℕ → ℕ → LogLine → ProofLine
numbered_line base before l =
    if is_delete l.kind then Deletion (base + before) (map (λ h. id_of base (name_of h)) l.hints)
    else Addition (base + before + 1) l.clause (leading_ids base l.hints) (group_ids base l.hints)

-- the lines of a log with ids in the place of names
abbrev pub numbered_on : ℕ → ℕ → List LogLine → List ProofLine
numbered_on base before [] = []
numbered_on base before (l ∷ ls) = numbered_line base before l
    ∷ numbered_on base (if is_delete l.kind then before else before + 1) ls

abbrev pub numbered_lines : ℕ → List LogLine → List ProofLine
numbered_lines base ls = numbered_on base 0 ls

-- the text of a log
abbrev pub text_of : ℕ → List LogLine → List ℕ
text_of base ls = flat_map (λ l. spaced (line_tokens l)) (numbered_lines base ls)

-- the clauses given, by name
abbrev pub Given : Type 0
Given = List (Name × List Literal)

abbrev pub clauses_in : Given → List (List Literal)
clauses_in given = map (λ g. g.1) given

abbrev pub given_at : Given → ℕ → Option (List Literal)
given_at [] i = None
given_at ((Formula n, c) ∷ more) i = if n == i then Some c else given_at more i
given_at ((Added n, c) ∷ more) i = given_at more i

abbrev pub start_over : Given → ℕ → Live
start_over given base = record { clause_at = given_at given; last = base }

-- the number in each name becomes an id below the limit
abbrev pub HasSmallIds : ℕ → List LogLine → Type 0
HasSmallIds base ls = All (λ l. All (λ h. id_of base (name_of h) < NUMBER_LIMIT) l.hints) ls
