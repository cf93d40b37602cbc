-- Result texts: what they say, and the first line that cannot stand there.
use Rattle.std.specs.Prelude.{◌≡◌, ℕ, ◌+◌, ◌<◌, Bool, true, false, not, ◌&&◌, List, [], ◌∷◌}
use Rattle.std.specs.Prelude.{◌++◌, map, filter, Option, Some, None, Result as Outcome, Ok, Err}
use Rattle.std.specs.Prelude.{nat_lt, ◌==◌, if◌then◌else◌, All}
use Rattle.std.specs.Fmt.{decimal}
use lib.Chars.{codes}
use Rattle.cnf.specs.declared.limits.TheConstants.{NUMBER_LIMIT}
use Rattle.text.specs.Text.{token_lines, number_of}
use Rattle.lrat_result.specs.declared.report.Claim.{Claim}
use Rattle.lrat_result.specs.declared.report.Claim.TheVariants.{Optimum, Unsat, Sat, Limit}

-- what a result says
pub data Said : Type 0 where
  OptimumFound : (cost : ℕ) (bits : List Bool) → Said
  Unsatisfiable : Said
  Satisfiable : (cost : ℕ) (bits : List Bool) → Said
  Unknown : Said

-- costs that fall
abbrev pub fall_to : List ℕ → ℕ → Type 0
fall_to [] c = Unit {0}
fall_to (d ∷ []) c = c < d
fall_to (d ∷ e ∷ ds) c = (e < d) × fall_to (e ∷ ds) c

abbrev pub cost_tokens : ℕ → List (List ℕ)
cost_tokens c = codes "o" ∷ decimal c ∷ []

abbrev pub digit_of : Bool → ℕ
digit_of b = if b then 49 else 48

abbrev pub bits_tokens : List Bool → List (List ℕ)
bits_tokens [] = codes "v" ∷ []
bits_tokens (b ∷ bs) = codes "v" ∷ map digit_of (b ∷ bs) ∷ []

-- the lines of a result, where costs are told before the last one
abbrev pub result_tokens : List ℕ → Said → List (List (List ℕ))
result_tokens before (OptimumFound c bits) =
    map cost_tokens before ++ cost_tokens c ∷ (codes "s" ∷ codes "OPTIMUM" ∷ codes "FOUND" ∷ [])
    ∷ bits_tokens bits ∷ []
result_tokens before (Satisfiable c bits) =
    map cost_tokens before ++ cost_tokens c ∷ (codes "s" ∷ codes "SATISFIABLE" ∷ [])
    ∷ bits_tokens bits ∷ []
result_tokens before Unsatisfiable = (codes "s" ∷ codes "UNSATISFIABLE" ∷ []) ∷ []
result_tokens before Unknown = (codes "s" ∷ codes "UNKNOWN" ∷ []) ∷ []

abbrev pub FallsTo : List ℕ → Said → Type 0
FallsTo before (OptimumFound c bits) =
    fall_to before c × All (λ d. d < NUMBER_LIMIT) (before ++ c ∷ [])
FallsTo before (Satisfiable c bits) =
    fall_to before c × All (λ d. d < NUMBER_LIMIT) (before ++ c ∷ [])
FallsTo before Unsatisfiable = before ≡ []
FallsTo before Unknown = before ≡ []

-- a line without tokens, or a comment
abbrev pub is_ignored : List (List ℕ) → Bool
is_ignored [] = true
is_ignored ([] ∷ ts) = false
is_ignored ((b ∷ bs) ∷ ts) = b == 99

abbrev pub result_lines : List ℕ → List (List (List ℕ))
result_lines text = filter (λ l. not (is_ignored l)) (token_lines text)

-- the result says this
abbrev pub Says : List ℕ → Said → Type 0
Says text said =
    (before : List ℕ) × FallsTo before said × (result_lines text ≡ result_tokens before said)

-- a result as it was read, with the lines that a verdict names
pub record Report : Type 0 where
  pub said : Said
  pub cost_line : ℕ
  pub status_line : ℕ
  pub bits_line : ℕ

abbrev pub same_bytes : List ℕ → List ℕ → Bool
same_bytes [] [] = true
same_bytes (x ∷ xs) (y ∷ ys) = (x == y) && same_bytes xs ys
same_bytes other others = false

abbrev pub claim_of : List (List ℕ) → Option Claim
claim_of (s ∷ t ∷ []) = if same_bytes s (codes "s") then alone t else None
  where
    alone : List ℕ → Option Claim
    alone u =
        if same_bytes u (codes "UNSATISFIABLE") then Some Unsat
        else if same_bytes u (codes "SATISFIABLE") then Some Sat
        else if same_bytes u (codes "UNKNOWN") then Some Limit else None
claim_of (s ∷ t ∷ u ∷ []) =
    if same_bytes s (codes "s") && same_bytes t (codes "OPTIMUM")
    && same_bytes u (codes "FOUND") then Some Optimum else None
claim_of other = None

abbrev pub cost_of : List (List ℕ) → Option ℕ
cost_of (o ∷ t ∷ []) = if same_bytes o (codes "o") then small (number_of t) else None
  where
    small : Option ℕ → Option ℕ
    small None = None
    small (Some c) = if nat_lt c NUMBER_LIMIT then Some c else None
cost_of other = None

abbrev pub bits_on : List ℕ → Option (List Bool)
bits_on [] = Some []
bits_on (b ∷ bs) =
    if b == 48 then onto false (bits_on bs) else if b == 49 then onto true (bits_on bs) else None
  where
    onto : Bool → Option (List Bool) → Option (List Bool)
    onto x None = None
    onto x (Some xs) = Some (x ∷ xs)

abbrev pub bits_of : List (List ℕ) → Option (List Bool)
bits_of (v ∷ []) = if same_bytes v (codes "v") then Some [] else None
bits_of (v ∷ t ∷ []) = if same_bytes v (codes "v") then bits_on t else None
bits_of other = None

-- nothing but ignored lines; else the line that cannot stand there
abbrev pub ended : ℕ → Report → List (List (List ℕ)) → Outcome Report ℕ
ended n report [] = Ok report
ended n report (l ∷ ls) = if is_ignored l then ended (n + 1) report ls else Err n

-- the line of the bits, after that of the status
abbrev pub with_bits : ℕ → (List Bool → ℕ → Report) → List (List (List ℕ)) → Outcome Report ℕ
with_bits n report [] = Err 0
with_bits n report (l ∷ ls) = if is_ignored l then with_bits (n + 1) report ls else read (bits_of l)
  where
    read : Option (List Bool) → Outcome Report ℕ
    read None = Err n
    read (Some bits) = ended (n + 1) (report bits n) ls

-- the last cost, with its line
abbrev pub result_on : Option (ℕ × ℕ) → ℕ → List (List (List ℕ)) → Outcome Report ℕ
result_on last n [] = Err 0
result_on last n (l ∷ ls) =
    if is_ignored l then result_on last (n + 1) ls
    else cost (cost_of l) (λ c. result_on (Some (c, n)) (n + 1) ls)
  where
    falls : Option (ℕ × ℕ) → ℕ → Bool
    falls None c = true
    falls (Some (d, at)) c = nat_lt c d

    with_claim : Option Claim → Option (ℕ × ℕ) → Outcome Report ℕ
    with_claim None x = Err n
    with_claim (Some Unsat) None =
        ended (n + 1)
        (record { said = Unsatisfiable; cost_line = 0; status_line = n; bits_line = 0 }) ls
    with_claim (Some Limit) None =
        ended (n + 1) (record { said = Unknown; cost_line = 0; status_line = n; bits_line = 0 }) ls
    with_claim (Some Optimum) (Some (c, at)) =
        with_bits (n + 1)
        (λ bits m. record
        { said = OptimumFound c bits; cost_line = at; status_line = n; bits_line = m }) ls
    with_claim (Some Sat) (Some (c, at)) =
        with_bits (n + 1)
        (λ bits m. record
        { said = Satisfiable c bits; cost_line = at; status_line = n; bits_line = m }) ls
    with_claim other x = Err n

    cost : Option ℕ → (ℕ → Outcome Report ℕ) → Outcome Report ℕ
    cost (Some c) more = if falls last c then more c else Err n
    cost None more = with_claim (claim_of l) last

-- what a result says, or the first line that cannot stand there, or 0 where it ends too soon
abbrev pub report_of : List ℕ → Outcome Report ℕ
report_of text = result_on None 1 (token_lines text)
