-- Worked values of rows, of a schedule, and of what is worthwhile; and
-- signatures, entries against one, and clauses against marks.
use Rattle.std.specs.Prelude.{◌≡◌, ℕ, Bool, true, false, List, [], ◌∷◌, fold, Some, None, refl}
use Rattle.cnf.specs.Literal.{Literal, positive as p, negative as n}
use Rattle.eliminate_tables.specs.Against.{against_of}
use Rattle.eliminate_tables.specs.declared.against.Against.TheVariants.{Apart, Within, ButFor}
use Rattle.eliminate_tables.specs.Rows.{Roomed, cleaned, with_space}
use Rattle.eliminate_tables.specs.Schedule.{ScheduleState, entered, left, first_of, without_first}
use Rattle.eliminate_tables.specs.Schedule.{is_candidate}
use Rattle.eliminate_tables.specs.Signatures.{signature_of, all_within}
use Rattle.eliminate_tables.specs.Worthwhile.{give_tautology, is_worthwhile}

-- the clause 0 was deleted, and one row is cleaned of it
one_cleaned : cleaned ((0 ∷ 1 ∷ []) ∷ (0 ∷ []) ∷ []) (None ∷ Some (p 1 ∷ []) ∷ []) 0
    ≡ (1 ∷ []) ∷ (0 ∷ []) ∷ []
one_cleaned = refl

-- rows of which the first is full
abbrev full : Roomed ℕ
full = record {
  rows = (0 ∷ 1 ∷ 1 ∷ 1 ∷ 1 ∷ 1 ∷ 1 ∷ 1 ∷ []) ∷ (0 ∷ []) ∷ [];
  rooms = 8 ∷ 4 ∷ [];
}

-- one entry of eight goes, which is no less than an eighth
one_goes : with_space full (None ∷ Some (p 1 ∷ []) ∷ []) 0 ≡ record {
  rows = (1 ∷ 1 ∷ 1 ∷ 1 ∷ 1 ∷ 1 ∷ 1 ∷ []) ∷ (0 ∷ []) ∷ [];
  rooms = 8 ∷ 4 ∷ [];
}
one_goes = refl

-- none goes, so it gets twice its room
none_goes : with_space full (Some (n 1 ∷ []) ∷ Some (p 1 ∷ []) ∷ []) 0
    ≡ record full { rooms = 16 ∷ 4 ∷ [] }
none_goes = refl

-- one that has space stays as it is
has_space : with_space full (None ∷ Some (p 1 ∷ []) ∷ []) 1 ≡ full
has_space = refl

-- no clause of two variables
abbrev none : ScheduleState
none = record {
  counts = 0 ∷ 0 ∷ 0 ∷ 0 ∷ [];
  queued = false ∷ false ∷ [];
  waiting = [];
}

-- the clause -2 1 came
abbrev entered_one : ScheduleState
entered_one = record {
  counts = 1 ∷ 0 ∷ 0 ∷ 1 ∷ [];
  queued = true ∷ true ∷ [];
  waiting = 2 ∷ 1 ∷ [];
}

enters : fold entered none (n 2 ∷ p 1 ∷ []) ≡ entered_one
enters = refl

leaves : (fold left entered_one (n 2 ∷ p 1 ∷ [])).counts ≡ none.counts
leaves = refl

pops : first_of entered_one.waiting ≡ Some 2
pops = refl

popped : without_first entered_one entered_one.waiting ≡ record {
  counts = entered_one.counts;
  queued = true ∷ false ∷ [];
  waiting = 1 ∷ [];
}
popped = refl

candidate : is_candidate entered_one (p 1) ≡ true
candidate = refl

no_candidate : is_candidate none (p 1) ≡ false
no_candidate = refl

-- the clauses 1 2 and 1 3
abbrev with_one : List (List Literal)
with_one = (p 1 ∷ p 2 ∷ []) ∷ (p 1 ∷ p 3 ∷ []) ∷ []

-- the resolvents 2 4 and 3 4 are no more than the three clauses
worth : is_worthwhile (p 1) with_one ((n 1 ∷ p 4 ∷ []) ∷ []) ≡ true
worth = refl

-- with three clauses of the negation there are six of five
abbrev with_not_one : List (List Literal)
with_not_one = (n 1 ∷ p 4 ∷ []) ∷ (n 1 ∷ p 5 ∷ []) ∷ (n 1 ∷ p 6 ∷ []) ∷ []

no_worth : is_worthwhile (p 1) with_one with_not_one ≡ false
no_worth = refl

clash : give_tautology (p 1) (p 1 ∷ p 2 ∷ []) (n 1 ∷ n 2 ∷ []) ≡ true
clash = refl

two_literals : signature_of (p 1 ∷ n 2 ∷ []) ≡ 9
two_literals = refl

-- the bits start again after 32 variables
wrapped : signature_of (p 33 ∷ []) ≡ 1
wrapped = refl

five_entries : all_within 9 (1 ∷ 8 ∷ 9 ∷ 2 ∷ 0 ∷ []) ≡ true ∷ true ∷ true ∷ false ∷ true ∷ []
five_entries = refl

-- the marks of 'one or not two'
abbrev marks : List Bool
marks = true ∷ false ∷ false ∷ true ∷ []

within : against_of marks (n 2 ∷ p 1 ∷ []) ≡ Within
within = refl

-- one literal stands here with the other sign
but_for_two : against_of marks (p 1 ∷ p 2 ∷ []) ≡ ButFor (p 2)
but_for_two = refl

-- two do
apart : against_of marks (n 1 ∷ p 2 ∷ []) ≡ Apart
apart = refl

-- of three neither sign is marked
apart_three : against_of marks (p 1 ∷ p 3 ∷ []) ≡ Apart
apart_three = refl
