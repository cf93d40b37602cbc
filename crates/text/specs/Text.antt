-- Tokens, numbers and literals of a text. Its lines are `lines` of std: each line feed ends one,
-- and one carriage return before it is dropped.
use Rattle.std.specs.Prelude.{◌≡◌, ℕ, zero, suc, ◌+◌, ◌-◌, ◌*◌, ◌<◌, Bool, true, false, not, ◌&&◌}
use Rattle.std.specs.Prelude.{◌||◌, List, [], ◌∷◌, ◌++◌, map, length, take, drop, All, Option, Some}
use Rattle.std.specs.Prelude.{None, nat_le, ◌==◌, if◌then◌else◌}
use Rattle.std.specs.List.{list_all, enumerate_from}
use Rattle.std.specs.Str.Lines.{lines}
use Rattle.std.specs.Fmt.{decimal}
use Rattle.cnf.specs.Literal.{Literal}
use Rattle.cnf.specs.declared.limits.TheConstants.{NUMBER_LIMIT}

abbrev pub is_blank : ℕ → Bool
is_blank b = (b == 32) || (b == 9)

abbrev pub begins_with_token : List ℕ → Bool
begins_with_token [] = false
begins_with_token (b ∷ bs) = not (is_blank b)

-- b begins a token, or goes before the first one
abbrev pub put_byte : ℕ → Bool → List (List ℕ) → List (List ℕ)
put_byte b false ts = (b ∷ []) ∷ ts
put_byte b true [] = (b ∷ []) ∷ []
put_byte b true (t ∷ ts) = (b ∷ t) ∷ ts

-- the longest runs of bytes that are not blanks
abbrev pub tokens_of : List ℕ → List (List ℕ)
tokens_of [] = []
tokens_of (b ∷ bs) =
    if is_blank b then tokens_of bs else put_byte b (begins_with_token bs) (tokens_of bs)

-- the tokens of each line
abbrev pub token_lines : List ℕ → List (List (List ℕ))
token_lines text = map tokens_of (lines text)

-- how a literal is spelled: its variable in digits, with a dash before it for negation
abbrev pub literal_text : Literal → List ℕ
literal_text l = if l.negated then 45 ∷ decimal l.variable else decimal l.variable

abbrev pub is_digit : ℕ → Bool
is_digit b = nat_le 48 b && nat_le b 57

abbrev pub value_on : ℕ → List ℕ → ℕ
value_on n [] = n
value_on n (b ∷ bs) = value_on (10 * n + (b - 48)) bs

-- the value of 0, or of a digit from 1 to 9 followed by digits
abbrev pub number_of : List ℕ → Option ℕ
number_of [] = None
number_of (b ∷ []) = if is_digit b then Some (b - 48) else None
number_of (b ∷ c ∷ bs) =
    if is_digit b && not (b == 48) && list_all is_digit (c ∷ bs) then Some (value_on 0 (b ∷ c ∷ bs))
    else None

-- a number from 1, with a dash before it for negation
abbrev pub literal_of : List ℕ → Option Literal
literal_of [] = None
literal_of (b ∷ bs) =
    if b == 45 then signed true (number_of bs) else signed false (number_of (b ∷ bs))
  where
    signed : Bool → Option ℕ → Option Literal
    signed s None = None
    signed s (Some zero) = None
    signed s (Some (suc n)) = Some (record { variable = suc n; negated = s })

-- the value, where it is at most the limit; else one more than that
abbrev pub capped : ℕ → ℕ
capped n = if nat_le n NUMBER_LIMIT then n else NUMBER_LIMIT + 1

-- the lines with their numbers
abbrev pub numbered_text : List ℕ → List (ℕ × List ℕ)
numbered_text text = enumerate_from 1 (lines text)

abbrev pub IsNoFeed : List ℕ → Type 0
IsNoFeed bytes = All (λ b. (b == 10) ≡ false) bytes

-- the first line feed stands there
pub record IsFirstFeed (bytes : List ℕ) (end : ℕ) : Type 0 where
  pub within : end < length bytes
  pub split : bytes ≡ take end bytes ++ 10 ∷ drop (end + 1) bytes
  pub before : IsNoFeed (take end bytes)
