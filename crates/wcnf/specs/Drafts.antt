-- What the lines read so far make, and what one more line makes of it.
use Rattle.std.specs.Prelude.{◌≡◌, ℕ, ◌+◌, ◌<◌, ◌*◌, max, Bool, true, false, ◌&&◌, List, [], ◌∷◌}
use Rattle.std.specs.Prelude.{◌++◌, length, Option, Some, None, is_none, Result, Ok, Err, nat_lt}
use Rattle.std.specs.Prelude.{nat_le, if◌then◌else◌, All}
use Rattle.cnf.specs.Literal.{Literal}
use Rattle.cnf.specs.Clause.{contains_literal, has_repeat}
use Rattle.cnf.specs.Marks.{HasPlace, IsMarked}
use Rattle.cnf.specs.Problem.{Problem, SoftClause}
use Rattle.cnf.specs.declared.limits.TheConstants.{MOST_LITERALS}
use Rattle.wcnf.specs.declared.gathering.TheConstants.{UNMARKED_LENGTH}
use Rattle.wcnf.specs.declared.faults.FaultKind.{FaultKind}
use Rattle.wcnf.specs.declared.faults.FaultKind.TheVariants.{Literal as LiteralFault, NoZero}
use Rattle.wcnf.specs.declared.faults.FaultKind.TheVariants.{AfterZero, Variable, TooMany}
use Rattle.wcnf.specs.Wcnf.{Header}
use Rattle.wcnf.specs.Heads.{SoFar, most_variable, head_of, begins_comment, header_of, is_p}
use Rattle.wcnf.specs.Heads.{◌>>=◌}
use Rattle.text.specs.Words.{Word, Zero, Literal_word, Other, word_of}

-- a clause that is being read, each literal once, and the greatest variable of the text so far
pub record Gathered : Type 0 where
  pub variables : ℕ
  pub literals : List Literal

-- where a clause begins
abbrev pub emptied : ℕ → Gathered
emptied v = record { variables = v; literals = [] }

-- the clause with a literal, unless it is there
abbrev pub with_literal : List Literal → Literal → List Literal
with_literal c l = if contains_literal l c then c else c ++ l ∷ []

-- one more literal of the text
abbrev pub gather : Gathered → Literal → Gathered
gather g l = record { variables = max g.variables l.variable; literals = with_literal g.literals l }

-- two marks for each variable, and those of the clause's literals are set if it is a long one
pub record AreMarked (variables : ℕ) (marks : List Bool) (c : List Literal) : Type 0 where
  pub count : length marks ≡ 2 * variables
  pub marked : UNMARKED_LENGTH < length c → IsMarked marks c
  pub places : All (HasPlace (2 * variables)) c
  pub once : has_repeat c ≡ false

-- after the 0: a token that is neither 0 nor a literal is the lower fault
abbrev pub ended_at : List (List ℕ) → Result (List Literal) FaultKind
ended_at [] = Ok []
ended_at (t ∷ ts) = by (word_of t)
  where
    by : Word → Result (List Literal) FaultKind
    by Other = Err LiteralFault
    by word = Err AfterZero

-- the clause up to the 0 that ends the line, and how many literals stand in the text then
abbrev pub gathered_at : ℕ → Gathered → ℕ → List (List ℕ) → Result (Gathered × ℕ) FaultKind
gathered_at most g n [] = Err NoZero
gathered_at most g n (t ∷ ts) = by (word_of t) (λ l. gathered_at most (gather g l) (n + 1) ts)
  where
    by : Word → (Literal → Result (Gathered × ℕ) FaultKind) → Result (Gathered × ℕ) FaultKind
    by Other more = Err LiteralFault
    by Zero more = do
      c ← ended_at ts
      Ok (g, n)
    by (Literal_word l) more =
        if nat_lt most l.variable then Err Variable else if nat_le MOST_LITERALS n then Err TooMany
        else more l

-- the instance that the lines so far make, with the header and its line; literals are counted as
-- written
pub record Drafted : Type 0 where
  pub header : Option Header
  pub line : ℕ
  pub variables : ℕ
  pub hard : List (List Literal)
  pub soft : List SoftClause
  pub literals : ℕ
  pub weight : ℕ

abbrev pub nothing_drafted : Drafted
nothing_drafted =
    record {
      header = None;
      line = 0;
      variables = 0;
      hard = [];
      soft = [];
      literals = 0;
      weight = 0;
    }

abbrev pub is_nil : {A : Type 0} → List A → Bool
is_nil [] = true
is_nil (x ∷ xs) = false

-- neither a header nor a clause was read
abbrev pub is_empty : Drafted → Bool
is_empty d = is_none d.header && is_nil d.hard && is_nil d.soft

-- how much was read
abbrev pub totals_of : Drafted → SoFar
totals_of d =
    record { hard = length d.hard; soft = length d.soft; literals = d.literals; weight = d.weight }

-- how many variables the text has
abbrev pub variables_of : Option Header → ℕ → ℕ
variables_of None greatest = greatest
variables_of (Some h) greatest = h.variables

abbrev pub problem_drafted : Drafted → Problem
problem_drafted d =
    record { variables = variables_of d.header d.variables; hard = d.hard; soft = d.soft }

-- one more clause
abbrev pub with_clause : Drafted → Option ℕ → Gathered × ℕ → Drafted
with_clause d None g =
    record {
      header = d.header;
      line = d.line;
      variables = g.0.variables;
      hard = d.hard ++ g.0.literals ∷ [];
      soft = d.soft;
      literals = g.1;
      weight = d.weight;
    }
with_clause d (Some w) g =
    record {
      header = d.header;
      line = d.line;
      variables = g.0.variables;
      hard = d.hard;
      soft = d.soft ++ record { weight = w; clause = g.0.literals } ∷ [];
      literals = g.1;
      weight = d.weight + w;
    }

-- the header on line n
abbrev pub with_header : ℕ → Drafted → Header → Drafted
with_header n d h =
    record {
      header = Some h;
      line = n;
      variables = 0;
      hard = d.hard;
      soft = d.soft;
      literals = d.literals;
      weight = d.weight;
    }

-- the header, by its tokens after the first
abbrev pub drafted_header : ℕ → Drafted → List (List ℕ) → Result Drafted FaultKind
drafted_header n d ts = do
  h ← header_of ts
  Ok (with_header n d h)

-- one more clause line, by its first token and the others
abbrev pub drafted_clause : Drafted → List ℕ → List (List ℕ) → Result Drafted FaultKind
drafted_clause d t ts = do
  w ← head_of d.header (totals_of d) t
  g ← gathered_at (most_variable d.header) (emptied d.variables) d.literals ts
  Ok (with_clause d w g)

-- the header where it has to stand, else one more clause line
abbrev pub drafted_tokens : ℕ → Drafted → List ℕ → List (List ℕ) → Result Drafted FaultKind
drafted_tokens n d t ts =
    if is_empty d && is_p t then drafted_header n d ts else drafted_clause d t ts

-- one more line, with its number
abbrev pub drafted_line : ℕ → Drafted → List (List ℕ) → Result Drafted FaultKind
drafted_line n d [] = Ok d
drafted_line n d (t ∷ ts) = if begins_comment t then Ok d else drafted_tokens n d t ts
