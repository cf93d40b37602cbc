-- A worked log: the formula has one clause, and the first addition has the id 2.
use Rattle.std.specs.Prelude.{◌≡◌, ℕ, true, false, List, [], ◌∷◌, ◌++◌, length, Some, None, Ok}
use Rattle.std.specs.Prelude.{refl}
use lib.Chars.{codes}
use Rattle.std.specs.Fmt.{digits}
use Rattle.std.specs.List.{flat_map}
use Rattle.cnf.specs.Literal.{positive as p, negative as n}
use Rattle.lrat_log.specs.declared.lines.Hint.TheVariants.{Plain as PlainHint}
use Rattle.lrat_log.specs.declared.lines.Kind.TheVariants.{Unit as UnitKind, Delete}
use Rattle.lrat_log.specs.declared.lines.Name.TheVariants.{Formula, Added}
use Rattle.lrat_read.specs.Words.{CountLine, GroupLine, FormLine, CutLine, BoundLine}
use Rattle.cuts_log.specs.Events.{Event, Plain, Word, lines_of, text_of}
use Rattle.cuts_log.specs.Facts.{is_worth}
use Rattle.cuts_log.specs.Given.{FormulaState, all_live, deleted, formula_at}

abbrev row : List ℕ → List ℕ
row bs = bs ++ 10 ∷ []

abbrev learned : Event
learned = Plain (record {
  kind = UnitKind;
  clause = p 1 ∷ [];
  hints = PlainHint (Added 1) ∷ PlainHint (Formula 1) ∷ [];
})

abbrev gone : Event
gone = Plain (record { kind = Delete; clause = []; hints = PlainHint (Added 1) ∷ [] })

abbrev events : List Event
events = Word (FormLine (Some 1) []) [] ∷ Word (CutLine (n 2 ∷ [])) ((n 2 ∷ []) ∷ []) ∷ learned
    ∷ gone ∷ Word (BoundLine 3) [] ∷ Word (CutLine []) ([] ∷ []) ∷ []

text : text_of 1 0 events
    ≡ flat_map row (codes "form 1 0" ∷ codes "cut -2 0" ∷ codes "3 1 0 2 1 0" ∷ codes "3 d 2 0"
    ∷ codes "bound 3 0" ∷ codes "cut 0" ∷ [])
unfolding digits
text = refl

-- the form and the bound are no lines of the search
seen : length (lines_of events) ≡ 4
seen = refl

-- a count of two with one output makes two clauses
behind : text_of 1 0 (Word (CountLine 1 (p 1 ∷ p 2 ∷ [])) ((n 1 ∷ p 3 ∷ []) ∷ (n 2 ∷ p 3 ∷ []) ∷ [])
    ∷ Plain (record { kind = UnitKind; clause = p 3 ∷ []; hints = PlainHint (Added 2) ∷ [] }) ∷ [])
    ≡ flat_map row (codes "count 1 1 2 0" ∷ codes "4 3 0 3 0" ∷ [])
unfolding digits
behind = refl

grouped : text_of 3 0 (Word (GroupLine (n 1 ∷ p 2 ∷ []) (3 ∷ [])) [] ∷ [])
    ≡ row (codes "group -1 2 0 3 0")
unfolding digits
grouped = refl

-- of two clauses the first was deleted, and an addition
abbrev left : FormulaState
left = deleted (PlainHint (Formula 1) ∷ PlainHint (Added 1) ∷ [])
    (all_live ((p 1 ∷ []) ∷ (n 2 ∷ []) ∷ []))

deleted_one : formula_at left 1 ≡ None
deleted_one = refl

live_one : formula_at left 2 ≡ Some (n 2 ∷ [])
live_one = refl

none_behind : formula_at left 3 ≡ None
none_behind = refl

enough : is_worth (Ok (Some 3)) 3 ≡ true
enough = refl

too_little : is_worth (Ok (Some 3)) 4 ≡ false
too_little = refl

nothing : is_worth (Ok None) 0 ≡ false
nothing = refl
