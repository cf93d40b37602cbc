-- The facts of a form that are listed.
use Rattle.std.specs.Prelude.{◌≡◌, ℕ, ◌-◌, List, [], ◌∷◌, ◌++◌, length, take, IsPermutation}
use Rattle.std.specs.Prelude.{Bool, true, false, Option, if◌then◌else◌, ◌==◌}
use Rattle.std.specs.List.Sorted.{IsNonDecreasingBy}
use Rattle.std.specs.Fmt.{decimal}
use Rattle.std.specs.Io.KnownBytes.{Appends}
use lib.Chars.{codes}
use Rattle.text.specs.Writing.{AppendsPart}
use Rattle.lrat_read.specs.Words.{NamedFact}
use Rattle.explain.specs.Falsified.{most_weight}
use Rattle.explain_text.specs.Sheets.{Displays}
use Rattle.explain_text.specs.declared.sheet.Sheet.{Sheet}
use Rattle.explain_certificate.specs.declared.reasons.TheConstants.{MOST_LISTED}

-- the first of all, by their weights, the greatest first
pub record AreHeaviest (all listed : List NamedFact) : Type 0 where
  pub sorted : List NamedFact
  pub permutes : IsPermutation all sorted
  pub heaviest : IsNonDecreasingBy (λ f. most_weight - f.weight) sorted
  pub first : listed ≡ take MOST_LISTED sorted

-- how many times something is taken
abbrev pub times_text : ℕ → List ℕ
times_text times =
    if times == 1 then codes ", once" else codes ", " ++ (decimal times ++ codes " times")

-- a numbered fact is that of a group or that of a count, another one is that of a clause
abbrev pub kind_text : Bool → Bool → List ℕ
kind_text true true = codes "group "
kind_text true false = codes "count "
kind_text false is_group = codes "clause "

-- which fact the form has, and how many times
abbrev pub fact_text : Bool → NamedFact → List ℕ
fact_text is_group f =
    codes "less "
    ++ (kind_text f.is_numbered is_group ++ (decimal f.number ++ times_text f.weight))

-- what is said of a fact: whether it is that of a group, if it is numbered, and the rest
pub record Said : Type 0 where
  pub is_group : Bool
  pub details : List ℕ

-- each fact with what is said of it
abbrev pub facts_text : List NamedFact → List Said → List ℕ
facts_text (f ∷ fs) (d ∷ ds) = fact_text d.is_group f ++ (d.details ++ facts_text fs ds)
facts_text fs ds = []

-- some text was put
abbrev pub Adds : Option (List ℕ) → Sheet → Option (List ℕ) → Sheet → Type 0
Adds out sheet out' sheet' = (text : List ℕ) × Displays out sheet text out' sheet'

-- so was a fact, with what is said of it
abbrev pub AddsFact : NamedFact → Option (List ℕ) → Sheet → Option (List ℕ) → Sheet → Type 0
AddsFact f out sheet out' sheet' =
    (said : Said) × Displays out sheet (fact_text said.is_group f ++ said.details) out' sheet'

-- so were facts, each with what is said of it
pub record AddsFacts (fs : List NamedFact) (out : Option (List ℕ)) (sheet : Sheet)
    (out' : Option (List ℕ)) (sheet' : Sheet) : Type 0 where
  pub details : List Said
  pub each : length fs ≡ length details
  pub shown : Displays out sheet (facts_text fs details) out' sheet'

-- these facts are listed, and nothing else is as such
pub record IsListing (listed : List NamedFact) (text : List ℕ) : Type 0 where
  pub head : List ℕ
  pub details : List Said
  pub each : length listed ≡ length details
  pub rest : List ℕ
  pub is : text ≡ head ++ (facts_text listed details ++ rest)

abbrev pub WritesListing : List NamedFact → Option (List ℕ) → Option (List ℕ) → Type 0
WritesListing listed out out' = (text : List ℕ) × IsListing listed text × Appends out out' text

-- a beginning of it was written
abbrev pub BreaksListing : List NamedFact → Option (List ℕ) → Option (List ℕ) → Type 0
BreaksListing listed out out' =
    (text : List ℕ) × IsListing listed text × AppendsPart out out' text
