-- How the lines of an LRAT certificate are spelled.
use Rattle.std.specs.Prelude.{◌≡◌, ℕ, ◌<◌, Bool, true, false, List, [], ◌∷◌, ◌++◌, map, filter}
use Rattle.std.specs.Prelude.{All}
use Rattle.std.specs.List.{flat_map}
use Rattle.std.specs.Fmt.{decimal}
use lib.Chars.{codes}
use Rattle.cnf.specs.Lrat.{CandidateHints, ProofLine, Addition, Deletion, IsId}
use Rattle.cnf.specs.declared.limits.TheConstants.{NUMBER_LIMIT}
use Rattle.text.specs.Text.{token_lines, literal_text}

-- how a line is spelled
abbrev pub group_tokens : CandidateHints → List (List ℕ)
group_tokens g = (45 ∷ decimal g.candidate) ∷ map decimal g.hints

abbrev pub line_tokens : ProofLine → List (List ℕ)
line_tokens (Addition id clause hints groups) =
    decimal id ∷ map literal_text clause ++ codes "0" ∷ map decimal hints
    ++ flat_map group_tokens groups ++ codes "0" ∷ []
line_tokens (Deletion lead ids) = decimal lead ∷ codes "d" ∷ map decimal ids ++ codes "0" ∷ []

abbrev pub HasNumbers : ProofLine → Type 0
HasNumbers (Addition id clause hints groups) =
    (id < NUMBER_LIMIT) × All (λ l. IsId l.variable) clause × All IsId hints
    × All (λ g. IsId g.candidate × All IsId g.hints) groups
HasNumbers (Deletion lead ids) = (lead < NUMBER_LIMIT) × All IsId ids

abbrev pub has_tokens : List (List ℕ) → Bool
has_tokens [] = false
has_tokens (t ∷ ts) = true

-- the bytes are these lines; a line without tokens is ignored
pub record IsTextOf (bytes : List ℕ) (ls : List ProofLine) : Type 0 where
  pub spelled : filter has_tokens (token_lines bytes) ≡ map line_tokens ls
  pub numbers : All HasNumbers ls
