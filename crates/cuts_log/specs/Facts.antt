-- Facts as lines spell them, and what lines are worth.
use Rattle.std.specs.Prelude.{ℕ, Bool, false, List, ◌++◌, Option, Some, None, Result}
use Rattle.std.specs.Prelude.{Ok, Err, nat_le}
use Rattle.std.specs.List.{flat_map}
use lib.Chars.{codes}
use Rattle.cnf.specs.Lrat.{IsId}
use Rattle.forms.specs.declared.faults.LineFault.{LineFault}
use Rattle.forms.specs.declared.types.NamedFact.{NamedFact as FormFact}
use Rattle.lrat_read.specs.Words.{NamedFact}
use Rattle.lrat_log.specs.declared.lines.Hint.{Hint}
use Rattle.lrat_log.specs.Log.{id_of, name_of}
use Rattle.lrat_log.specs.Texts.{number_text}

-- a fact as a line spells it
abbrev pub spelled : FormFact → NamedFact
spelled f = record { weight = f.weight; is_numbered = f.is_numbered; number = f.number }

-- its numbers can be spelled
pub record CanBeSaid (f : FormFact) : Type 0 where
  pub weight : IsId f.weight
  pub number : IsId f.number

-- it is worth at least `least`
abbrev pub is_worth : Result (Option ℕ) LineFault → ℕ → Bool
is_worth (Ok (Some w)) least = nat_le least w
is_worth (Ok None) least = false
is_worth (Err e) least = false

-- texts of tokens with a space behind each
abbrev pub scale_text : Option ℕ → List ℕ
scale_text (Some d) = number_text false d
scale_text None = codes "+ "

abbrev pub fact_text : NamedFact → List ℕ
fact_text f = number_text false f.weight ++ number_text f.is_numbered f.number

abbrev pub facts_text : List NamedFact → List ℕ
facts_text fs = flat_map fact_text fs

abbrev pub ids_text : ℕ → List Hint → List ℕ
ids_text base hints = flat_map (λ h. number_text false (id_of base (name_of h))) hints

abbrev pub numbers_text : List ℕ → List ℕ
numbers_text ns = flat_map (number_text false) ns
