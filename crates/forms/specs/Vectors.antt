-- Worked lines.
use Rattle.std.specs.Prelude.{◌≡◌, ℕ, true, false, List, [], ◌∷◌, Option, Some, None, Result, Ok}
use Rattle.std.specs.Prelude.{Err, refl}
use Rattle.std.specs.Option.{option_map}
use Rattle.cnf.specs.Literal.{Literal, positive as p, negative as n}
use Rattle.forms.specs.declared.faults.LineFault.{LineFault}
use Rattle.forms.specs.declared.faults.LineFault.TheVariants.{Name}
use Rattle.forms.specs.declared.types.NamedFact.{NamedFact}
use Rattle.cnf.specs.Formula.{numbered}
use Rattle.cnf.specs.Refute.{Clauses}
use Rattle.forms.specs.Forms.{Forms, Made, count_line, cut_line, fact_size, form_line, forms_of}
use Rattle.forms.specs.Forms.{Group, Numbered, at_number, group_line, heard, inputs_of, more_line}
use Rattle.forms.specs.Forms.{outputs_at}

-- 3 for the first variable, 4 for the second
abbrev shop : Forms
shop = forms_of 2 ((3, p 1) ∷ (4, p 2) ∷ [])

-- one of both is needed
abbrev at : Clauses
at = numbered ((p 1 ∷ p 2 ∷ []) ∷ [])

abbrev clause : ℕ → NamedFact
clause w = record { weight = w; is_numbered = false; number = 1 }

abbrev item : ℕ → NamedFact
item w = record { weight = w; is_numbered = true; number = 1 }

abbrev worth : Result Forms LineFault → List Literal → Result (Option ℕ) LineFault
worth (Err e) c = Err e
worth (Ok s) c = cut_line c s

-- three times the first clause
all : worth (form_line at (Some 1) (clause 3 ∷ []) shop) [] ≡ Ok (Some 3)
all = refl

coffee : worth (form_line at (Some 1) [] shop) (n 2 ∷ []) ≡ Ok (Some 4)
coffee = refl

tea : worth (form_line at (Some 1) [] (heard (p 1 ∷ []) shop)) [] ≡ Ok (Some 3)
tea = refl

no_form : cut_line [] shop ≡ Err Name
no_form = refl

twice : worth (form_line at (Some 1) [] shop) (p 1 ∷ n 1 ∷ []) ≡ Err Name
twice = refl

unknown : worth (form_line at (Some 1) [] shop) (p 3 ∷ []) ≡ Err Name
unknown = refl

-- half of 7, which is the least value where there is no tea, rounded up
half : worth (form_line at (Some 2) (clause 7 ∷ []) shop) (p 1 ∷ []) ≡ Ok (Some 4)
half = refl

on : Result Made LineFault → (Forms → Result (Option ℕ) LineFault) → Result (Option ℕ) LineFault
on (Err e) next = Err e
on (Ok m) next = next m.forms

-- a count of both with one output, which is known to be true
counted : on (count_line 1 (p 1 ∷ p 2 ∷ []) shop)
    (λ s. worth (form_line at (Some 1) (item 3 ∷ []) (heard (p 3 ∷ []) s)) []) ≡ Ok (Some 3)
unfolding on
counted = refl

abbrev grown : Result Forms LineFault → List Literal → Result (Option ℕ) LineFault
grown (Err e) c = Err e
grown (Ok s) c = on (more_line 1 s) (cut_line c)

-- its second output belongs to its fact
more : on (count_line 1 (p 1 ∷ p 2 ∷ []) shop)
    (λ s. grown (form_line at (Some 1) (item 3 ∷ []) (heard (p 3 ∷ []) s)) (n 4 ∷ []))
    ≡ Ok (Some 6)
unfolding on
more = refl

abbrev next : Result Forms LineFault → (Forms → Result Forms LineFault) → Result Forms LineFault
next (Err e) line = Err e
next (Ok s) line = line s

-- the form with two facts more
goes_on : worth (next (form_line at (Some 1) (clause 1 ∷ []) shop)
    (form_line at None (clause 2 ∷ []))) [] ≡ Ok (Some 3)
goes_on = refl

-- not both; 3 where the first is false, 4 where the second is
abbrev apart : Clauses
apart = numbered ((n 1 ∷ n 2 ∷ []) ∷ [])

either : worth (next (group_line apart (p 1 ∷ p 2 ∷ []) (1 ∷ [])
    (forms_of 2 ((3, n 1) ∷ (4, n 2) ∷ []))) (form_line apart (Some 1) (item 3 ∷ []))) []
    ≡ Ok (Some 3)
either = refl

both_may_be : group_line at (p 1 ∷ p 2 ∷ []) (1 ∷ []) shop ≡ Err Name
both_may_be = refl

-- the fact of the empty clause has a term
empty : fact_size (numbered ([] ∷ [])) [] (clause 1) ≡ Some 1
empty = refl

-- what has a number after a line
abbrev numbered_after : Result Made LineFault → List Numbered
numbered_after (Err e) = []
numbered_after (Ok m) = (m.forms).numbered

abbrev cups : List Numbered
cups = numbered_after (count_line 1 (p 1 ∷ p 2 ∷ []) shop)

cups_inputs : option_map inputs_of (at_number cups 1) ≡ Some (p 1 ∷ p 2 ∷ [])
cups_inputs = refl

cups_outputs : outputs_at cups 1 ≡ Some (p 3 ∷ [])
cups_outputs = refl

group_outputs : outputs_at (Group (p 1 ∷ p 2 ∷ []) ∷ []) 1 ≡ None
group_outputs = refl
