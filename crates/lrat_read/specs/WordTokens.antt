-- How the lines that begin with a word are spelled.
use Rattle.std.specs.Prelude.{◌≡◌, ℕ, ◌<◌, List, [], ◌∷◌, ◌++◌, map, All, Option, Some, None}
use Rattle.std.specs.Prelude.{if◌then◌else◌}
use Rattle.std.specs.List.{flat_map}
use Rattle.std.specs.Fmt.{decimal}
use lib.Chars.{codes}
use Rattle.cnf.specs.Lrat.{IsId}
use Rattle.cnf.specs.declared.limits.TheConstants.{NUMBER_LIMIT}
use Rattle.text.specs.Text.{literal_text}
use Rattle.lrat_read.specs.Words.{NamedFact, WordLine, CountLine, MoreLine, GroupLine, FormLine}
use Rattle.lrat_read.specs.Words.{CutLine, BoundLine}

abbrev pub fact_tokens : NamedFact → List (List ℕ)
fact_tokens f =
    decimal f.weight ∷ (if f.is_numbered then 45 ∷ decimal f.number else decimal f.number) ∷ []

abbrev pub scale_token : Option ℕ → List ℕ
scale_token None = codes "+"
scale_token (Some d) = decimal d

-- how a line is spelled
abbrev pub word_tokens : WordLine → List (List ℕ)
word_tokens (CountLine outputs inputs) =
    codes "count" ∷ decimal outputs ∷ map literal_text inputs ++ codes "0" ∷ []
word_tokens (MoreLine number) = codes "more" ∷ decimal number ∷ codes "0" ∷ []
word_tokens (GroupLine inputs ids) =
    codes "group" ∷ map literal_text inputs ++ codes "0" ∷ (map decimal ids ++ codes "0" ∷ [])
word_tokens (FormLine scale facts) =
    codes "form" ∷ scale_token scale ∷ flat_map fact_tokens facts ++ codes "0" ∷ []
word_tokens (CutLine c) = codes "cut" ∷ map literal_text c ++ codes "0" ∷ []
word_tokens (BoundLine lower) = codes "bound" ∷ decimal lower ∷ codes "0" ∷ []

abbrev pub IsNamed : NamedFact → Type 0
IsNamed f = IsId f.weight × IsId f.number

abbrev pub IsScale : Option ℕ → Type 0
IsScale None = Unit {0}
IsScale (Some d) = d < NUMBER_LIMIT

-- the numbers of a line can be spelled
abbrev pub HasWordNumbers : WordLine → Type 0
HasWordNumbers (CountLine outputs inputs) =
    (outputs < NUMBER_LIMIT) × All (λ l. IsId l.variable) inputs × (inputs ≡ [] → ⊥)
HasWordNumbers (MoreLine number) = IsId number
HasWordNumbers (GroupLine inputs ids) = All (λ l. IsId l.variable) inputs × All IsId ids
HasWordNumbers (FormLine scale facts) = IsScale scale × All IsNamed facts
HasWordNumbers (CutLine c) = All (λ l. IsId l.variable) c
HasWordNumbers (BoundLine lower) = lower < NUMBER_LIMIT
