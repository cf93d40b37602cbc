-- Linear lower bounds of the cost, and what follows from them (valid inequalities, Chvátal 1973).
-- A fact is a linear function of the variables that is at least 0 in each solution that is cheap
-- enough. A form is a multiple of the cost, less multiples of facts. So it is at most that multiple
-- of the cost, and what its least value exceeds is too dear.
use Rattle.std.specs.Prelude.{ℕ, zero, suc, ℤ, pos, negsuc, ◌+ℤ◌, ◌-ℤ◌, ◌+◌, ◌-◌}
use Rattle.std.specs.Prelude.{◌/◌, min, max, Bool, true, false, not, ◌&&◌, ◌||◌, List, [], ◌∷◌}
use Rattle.std.specs.Prelude.{◌++◌, length, map, Option, Some, None, Result, Ok, Err, nat_le}
use Rattle.std.specs.Prelude.{slice_get, slice_set, if◌then◌else◌}
use Rattle.std.specs.List.{list_all}
use Rattle.std.specs.Option.{option_map}
use Rattle.cnf.specs.Literal.{Literal, negation}
use Rattle.cnf.specs.Clause.{contains_literal, greatest_variable, has_repeat, is_tautology}
use Rattle.cnf.specs.declared.limits.TheConstants.{NUMBER_LIMIT}
use Rattle.totalizer.specs.Stages.{Tree, Staged, outputs_of, size_of, stage, totalizer_of}
use Rattle.linear.specs.Linear.{plus_constant, plus_literals}
use Rattle.linear.specs.Costs.{CostForm, fixed_by, falsified, form_of, least, least_where}
use Rattle.linear.specs.Costs.{restarted, widened}
use Rattle.cnf.specs.Refute.{Clauses}
use Rattle.forms.specs.declared.types.NamedFact.{NamedFact}
use Rattle.forms.specs.declared.faults.LineFault.{LineFault}
use Rattle.forms.specs.declared.faults.LineFault.TheVariants.{Name, Limit}
use Rattle.forms.specs.declared.faults.TheConstants.{MOST_COUNT_CLAUSES, MOST_TERMS}

-- what has a number: facts with a number are said of these
pub data Numbered : Type 0 where
  -- a count: the number of its literals that are true, less that of its outputs that are; the
  -- present form has it `multiplier` times
  Count : (inputs : List Literal) (tree : Tree) (multiplier : ℕ) → Numbered
  -- a group: 1, less the number of its literals that are true
  Group : (inputs : List Literal) → Numbered

-- what the lines so far leave
pub record Forms : Type 0 where
  -- the greatest variable of the formula and of counts
  pub variables : ℕ
  -- the present form, and the variables that a unit clause has given a value
  pub form : CostForm
  -- there was a form line
  pub has_form : Bool
  -- counts and groups, that with number 1 first
  pub numbered : List Numbered
  -- how many clauses counts have made
  pub made : ℕ
  -- how many terms the facts of form lines have had
  pub terms : ℕ

-- before the first line: a formula with variables up to a number, and the weights of the
-- relaxation literals
abbrev pub forms_of : ℕ → List (ℕ × Literal) → Forms
forms_of variables weights = record {
  variables = variables;
  form = form_of (variables + 1) weights;
  has_form = false;
  numbered = [];
  made = 0;
  terms = 0;
}

-- a clause is live from now on: where it is a unit clause its variable has a value
abbrev pub heard : List Literal → Forms → Forms
heard (l ∷ []) s =
    let wide = widened (l.variable + 1) s.form in
    record s { form = record wide { fixed = fixed_by l wide.fixed } }
heard c s = s

-- literals of different variables, all of which are there
abbrev pub are_known : Forms → List Literal → Bool
are_known s c =
    nat_le (greatest_variable c) s.variables && not (has_repeat c || is_tautology c)

-- a line's clauses, and what it leaves
pub record Made : Type 0 where
  pub forms : Forms
  pub clauses : List (List Literal)

-- the variables of a stage are there, unless its clauses would be too many
abbrev pub with_stage : Forms → Staged → (Forms → Forms) → Result Made LineFault
with_stage s g next =
    if nat_le (s.made + length g.clauses) MOST_COUNT_CLAUSES then Ok (record {
      forms = next (record s {
        variables = g.fresh - 1;
        form = widened g.fresh s.form;
        made = s.made + length g.clauses;
      });
      clauses = g.clauses;
    }) else Err Limit

-- a count of these literals has such a totalizer; no form has its fact
abbrev pub counted : List Literal → Forms → Staged → Result Made LineFault
counted inputs s g = with_stage s g (λ t. record t {
  numbered = s.numbered ++ Count inputs g.tree 0 ∷ [];
})

-- a count of these literals, with `outputs` outputs
abbrev pub count_line : ℕ → List Literal → Forms → Result Made LineFault
count_line outputs inputs s =
    if are_known s inputs && nat_le 1 outputs && nat_le outputs (length inputs) then
    counted inputs s (totalizer_of outputs (s.variables + 1) inputs) else Err Name

-- by number from 1
abbrev pub at_number : List Numbered → ℕ → Option Numbered
at_number ns zero = None
at_number ns (suc j) = slice_get ns j

-- the form with w times these literals more
abbrev pub plus : ℤ → List Literal → CostForm → CostForm
plus w ls f = record f { added = plus_literals w ls f.added }

-- the last of the literals, if there is one
abbrev pub last_of : List Literal → List Literal
last_of [] = []
last_of (l ∷ []) = l ∷ []
last_of (l ∷ k ∷ more) = last_of (k ∷ more)

-- what is counted, or is a group
abbrev pub inputs_of : Numbered → List Literal
inputs_of (Count inputs tree multiplier) = inputs
inputs_of (Group inputs) = inputs

-- the outputs of a count
abbrev pub count_outputs : Option Numbered → Option (List Literal)
count_outputs None = None
count_outputs (Some (Group inputs)) = None
count_outputs (Some (Count inputs tree multiplier)) = Some (outputs_of tree)

-- the outputs of the count with this number, if there is one
abbrev pub outputs_at : List Numbered → ℕ → Option (List Literal)
outputs_at ns number = count_outputs (at_number ns number)

-- the stage that makes a count's next output; new variables from v on
abbrev pub next_stage : ℕ → Tree → Staged
next_stage v tree = stage (length (outputs_of tree) + 1) v tree

-- the count with this number has one more output, which belongs to the count's fact in the form
abbrev pub more_grown : ℕ → List Literal → ℕ → Forms → Staged → Result Made LineFault
more_grown number inputs multiplier s g = with_stage s g (λ t. record t {
  form = plus (pos multiplier) (last_of (outputs_of g.tree)) t.form;
  numbered = slice_set s.numbered (number - 1) (Count inputs g.tree multiplier);
})

-- one more output of the count with this number
abbrev pub more_line : ℕ → Forms → Result Made LineFault
more_line number s = by (at_number s.numbered number)
  where
    by : Option Numbered → Result Made LineFault
    by None = Err Name
    by (Some (Group inputs)) = Err Name
    by (Some (Count inputs tree multiplier)) =
        if nat_le (size_of tree) (length (outputs_of tree)) then Err Name else
        more_grown number inputs multiplier s (next_stage (s.variables + 1) tree)

-- the pairs of each literal with those before it
abbrev pub pairs_with : Literal → List Literal → List (Literal × Literal)
pairs_with l before = map (λ k. (k, l)) before

abbrev pub pairs_after : List Literal → List Literal → List (Literal × Literal)
pairs_after before [] = []
pairs_after before (l ∷ ls) = pairs_with l before ++ pairs_after (before ++ l ∷ []) ls

abbrev pub pairs_of : List Literal → List (Literal × Literal)
pairs_of ls = pairs_after [] ls

-- the clause has no literal but the negations of the pair
abbrev pub excludes : Literal × Literal → List Literal → Bool
excludes pair c = list_all (λ l. contains_literal l (negation pair.0 ∷ negation pair.1 ∷ [])) c

-- each pair has a clause of its own, by its number
abbrev pub are_excluded : Clauses → List (Literal × Literal) → List ℕ → Bool
are_excluded at [] [] = true
are_excluded at [] (i ∷ is) = false
are_excluded at (p ∷ ps) [] = false
are_excluded at (p ∷ ps) (i ∷ is) = by (at i) && are_excluded at ps is
  where
    by : Option (List Literal) → Bool
    by None = false
    by (Some c) = excludes p c

-- a group of these literals, at most one of which is true, as the clauses with these numbers say,
-- one for each pair
abbrev pub group_line : Clauses → List Literal → List ℕ → Forms → Result Forms LineFault
group_line at inputs ids s =
    if are_known s inputs && nat_le 2 (length inputs) && are_excluded at (pairs_of inputs) ids
    then Ok (record s { numbered = s.numbered ++ Group inputs ∷ [] }) else Err Name

abbrev pub clause_size : List Literal → ℕ
clause_size c = max 1 (length c)

abbrev pub numbered_size : Numbered → ℕ
numbered_size (Group inputs) = length inputs
numbered_size (Count inputs tree multiplier) = length inputs + length (outputs_of tree)

-- how many terms a fact has, at least one: that of a clause is the number of its literals that are
-- true, less 1; or it is that of a count or group. None where it is not there
abbrev pub fact_size : Clauses → List Numbered → NamedFact → Option ℕ
fact_size at ns f =
    if f.is_numbered then option_map numbered_size (at_number ns f.number)
    else option_map clause_size (at f.number)

-- of all facts, where they are there
abbrev pub plus_size : ℕ → Option ℕ → Option ℕ
plus_size m rest = option_map (λ n. m + n) rest

abbrev pub facts_size : Clauses → List Numbered → List NamedFact → Option ℕ
facts_size at ns [] = Some 0
facts_size at ns (f ∷ fs) = add (fact_size at ns f) (facts_size at ns fs)
  where
    add : Option ℕ → Option ℕ → Option ℕ
    add None rest = None
    add (Some m) rest = plus_size m rest

abbrev pub less : ℕ → List Literal → CostForm → CostForm
less w ls f = plus (pos 0 -ℤ pos w) ls f

abbrev pub plus_number : ℤ → CostForm → CostForm
plus_number w f = record f { added = plus_constant w f.added }

-- the form less w times the fact of a clause
abbrev pub less_clause : ℕ → List Literal → Forms → Forms
less_clause w c s = record s {
  form = plus_number (pos w) (less w c (widened (greatest_variable c + 1) s.form));
  terms = s.terms + clause_size c;
}

-- less w times the fact of a count or group
abbrev pub less_item : ℕ → Numbered → CostForm → CostForm
less_item w (Group inputs) f = plus_number (pos 0 -ℤ pos w) (plus (pos w) inputs f)
less_item w (Count inputs tree multiplier) f = plus (pos w) (outputs_of tree) (less w inputs f)

-- how many times the form has its fact; no group's is counted
abbrev pub multiplier_of : Numbered → ℕ
multiplier_of (Group inputs) = 0
multiplier_of (Count inputs tree multiplier) = multiplier

-- the form has its fact w times more
abbrev pub cited : ℕ → Numbered → Numbered
cited w (Group inputs) = Group inputs
cited w (Count inputs tree multiplier) = Count inputs tree (multiplier + w)

abbrev pub less_numbered : ℕ → ℕ → Forms → Forms
less_numbered w j s = by (at_number s.numbered j)
  where
    by : Option Numbered → Forms
    by None = s
    by (Some n) = record s {
      form = less_item w n s.form;
      numbered = slice_set s.numbered (j - 1) (cited w n);
      terms = s.terms + numbered_size n;
    }

-- less its weight times a fact, which is there
abbrev pub less_fact : Clauses → Forms → NamedFact → Forms
less_fact at s f = if f.is_numbered then less_numbered f.weight f.number s else by (at f.number)
  where
    by : Option (List Literal) → Forms
    by None = s
    by (Some c) = less_clause f.weight c s

abbrev pub less_facts : Clauses → Forms → List NamedFact → Forms
less_facts at s [] = s
less_facts at s (f ∷ fs) = less_facts at (less_fact at s f) fs

-- no fact belongs to a form that is gone
abbrev pub without_multiplier : Numbered → Numbered
without_multiplier (Count inputs tree multiplier) = Count inputs tree 0
without_multiplier (Group inputs) = Group inputs

abbrev pub cleared : List Numbered → List Numbered
cleared ns = map without_multiplier ns

-- `scale` times the cost, in place of the present form, or that form itself
abbrev pub begun : Option ℕ → Forms → Forms
begun None s = s
begun (Some scale) s =
    record s { form = restarted scale s.form; has_form = true; numbered = cleared s.numbered }

-- a form: `scale` times the cost or the present form, less these facts
abbrev pub form_line : Clauses → Option ℕ → List NamedFact → Forms → Result Forms LineFault
form_line at scale facts s =
    if goes_on scale && not s.has_form then Err Name else by (facts_size at s.numbered facts)
  where
    goes_on : Option ℕ → Bool
    goes_on None = true
    goes_on (Some d) = false

    by : Option ℕ → Result Forms LineFault
    by None = Err Name
    by (Some size) =
        if nat_le (s.terms + size) MOST_TERMS then Ok (less_facts at (begun scale s) facts)
        else Err Limit

-- what a least value is worth: the greatest cost k up to 2^62 for which it is above the scale times
-- k - 1. None where it is so for no cost
abbrev pub worth_of : ℕ → ℤ → Option ℕ
worth_of zero low = by low
  where
    by : ℤ → Option ℕ
    by (pos zero) = None
    by (pos (suc n)) = Some NUMBER_LIMIT
    by (negsuc n) = None
worth_of (suc d) low = by (low +ℤ pos d)
  where
    by : ℤ → Option ℕ
    by (pos n) = Some (min NUMBER_LIMIT (n / suc d))
    by (negsuc n) = None

-- what the cut is worth, a clause of these literals: in a cheaper solution it is true, since else
-- the form would be too great
abbrev pub cut_line : List Literal → Forms → Result (Option ℕ) LineFault
cut_line c s =
    if are_known s c && s.has_form then
    Ok (worth_of (s.form).scale (least_where s.form (falsified c (s.form).fixed)))
    else Err Name

-- what the form is worth by itself
abbrev pub bound_line : Forms → Result (Option ℕ) LineFault
bound_line s = if s.has_form then Ok (worth_of (s.form).scale (least s.form)) else Err Name
