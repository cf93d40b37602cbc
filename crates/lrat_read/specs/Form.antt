-- The form of a certificate's line: signed numbers, blocks of them that 0 ends, additions and
-- deletions.
use Rattle.std.specs.Prelude.{ℕ, zero, suc, Bool, true, false, List, [], ◌∷◌, map, Option, Some}
use Rattle.std.specs.Prelude.{None, nat_lt, ◌==◌, if◌then◌else◌}
use Rattle.std.specs.List.{list_any}
use Rattle.cnf.specs.Literal.{Literal}
use Rattle.text.specs.Text.{number_of}
use Rattle.cnf.specs.Lrat.{CandidateHints}
use Rattle.cnf.specs.declared.limits.TheConstants.{NUMBER_LIMIT}

-- with its dash, where it has one
abbrev pub signed_of : List ℕ → Option (Bool × ℕ)
signed_of [] = None
signed_of (b ∷ bs) =
    if b == 45 then tagged true (number_of bs) else tagged false (number_of (b ∷ bs))
  where
    tagged : Bool → Option ℕ → Option (Bool × ℕ)
    tagged s None = None
    tagged s (Some n) = if nat_lt n NUMBER_LIMIT then Some (s, n) else None

-- a number without a dash
abbrev pub unsigned_of : List ℕ → Option ℕ
unsigned_of t = undashed (signed_of t)
  where
    undashed : Option (Bool × ℕ) → Option ℕ
    undashed None = None
    undashed (Some (true, n)) = None
    undashed (Some (false, n)) = Some n

-- a dash is a negation
abbrev pub literal_from : Bool × ℕ → Literal
literal_from x = record { variable = x.1; negated = x.0 }

-- numbers that are not 0, up to the first 0, and what follows that
abbrev pub block_of : List (List ℕ) → Option (List (Bool × ℕ) × List (List ℕ))
block_of [] = None
block_of (t ∷ ts) = on (signed_of t) ts (block_of ts)
  where
    onto : Bool × ℕ → Option (List (Bool × ℕ) × List (List ℕ))
        → Option (List (Bool × ℕ) × List (List ℕ))
    onto x None = None
    onto x (Some (xs, rest)) = Some (x ∷ xs, rest)

    on : Option (Bool × ℕ) → List (List ℕ) → Option (List (Bool × ℕ) × List (List ℕ))
        → Option (List (Bool × ℕ) × List (List ℕ))
    on None ts more = None
    on (Some (false, zero)) ts more = Some ([], ts)
    on (Some (true, zero)) ts more = None
    on (Some (s, suc n)) ts more = onto (s, suc n) more

pub data Parsed : Type 0 where
  Addition : ℕ → List Literal → List (Bool × ℕ) → Parsed
  Deletion : List ℕ → Parsed
  Malformed : Parsed

abbrev pub line_of : List (List ℕ) → Parsed
line_of [] = Malformed
line_of (t ∷ ts) = led (signed_of t) ts
  where
    ends : Option (List (Bool × ℕ) × List (List ℕ)) → Option (List (Bool × ℕ))
    ends None = None
    ends (Some (xs, [])) = Some xs
    ends (Some (xs, t ∷ ts)) = None

    deletion : Option (List (Bool × ℕ)) → Parsed
    deletion None = Malformed
    deletion (Some xs) = if list_any (λ x. x.0) xs then Malformed else Deletion (map (λ x. x.1) xs)

    hinted : ℕ → List (Bool × ℕ) → Option (List (Bool × ℕ)) → Parsed
    hinted id c None = Malformed
    hinted id c (Some hs) = Addition id (map literal_from c) hs

    addition : ℕ → Option (List (Bool × ℕ) × List (List ℕ)) → Parsed
    addition id None = Malformed
    addition id (Some (c, rest)) = hinted id c (ends (block_of rest))

    after_lead : ℕ → List (List ℕ) → Parsed
    after_lead id [] = Malformed
    after_lead id (u ∷ us) =
        if is_d u then deletion (ends (block_of us)) else addition id (block_of (u ∷ us))
      where
        is_d : List ℕ → Bool
        is_d (b ∷ []) = b == 100
        is_d other = false

    led : Option (Bool × ℕ) → List (List ℕ) → Parsed
    led None us = Malformed
    led (Some (true, n)) us = Malformed
    led (Some (false, n)) us = after_lead n us

-- leading hints, and then the groups
abbrev pub leading : List (Bool × ℕ) → List ℕ
leading [] = []
leading ((false, h) ∷ hs) = h ∷ leading hs
leading ((true, h) ∷ hs) = []

abbrev pub groups_of : List (Bool × ℕ) → List CandidateHints
groups_of [] = []
groups_of ((false, h) ∷ hs) = groups_of hs
groups_of ((true, h) ∷ hs) = record { candidate = h; hints = leading hs } ∷ groups_of hs
