-- Clauses in one flat list of literals, each with a head that says where its literals lie.
use Rattle.std.specs.Prelude.{◌≡◌, ℕ, ◌+◌, ◌<◌, ◌^◌, Bool, true, List, [], ◌∷◌, Option, Some, None}
use Rattle.std.specs.Prelude.{map, length, slice_range, if◌then◌else◌}
use Rattle.std.specs.List.{AllByRecursion}
use Rattle.cnf.specs.Literal.{Literal}
use Rattle.clauses.specs.declared.heads.ClauseSpan.{ClauseSpan}
use Rattle.clauses.specs.Slots.{StoreState}

-- where the literals of a clause lie, and whether it is still there
pub record Head : Type 0 where
  pub start : ℕ
  pub length : ℕ
  pub live : Bool

abbrev pub head_of : ClauseSpan → Bool → Head
head_of s live = record { start = s.start; length = s.length; live = live }

abbrev pub span_of : Head → ClauseSpan
span_of h = record { start = h.start; length = h.length }

abbrev pub literals_under : List Literal → Head → List Literal
literals_under literals h = slice_range literals h.start (h.start + h.length)

abbrev pub slot_of : List Literal → Head → Option (List Literal)
slot_of literals h = if h.live then Some (literals_under literals h) else None

abbrev pub slots_of : List Literal → List Head → List (Option (List Literal))
slots_of literals heads = map (slot_of literals) heads

abbrev pub state_of : List Literal → List Head → StoreState
state_of literals heads = record {
  slots = slots_of literals heads;
  used = length literals + length heads;
}

-- each clause lies where the one before it ends, from one place to another
abbrev pub IsLaid : ℕ → List Head → ℕ → Type 0
IsLaid from [] to = from ≡ to
IsLaid from (h ∷ hs) to = (h.start ≡ from) × IsLaid (from + h.length) hs to

-- the live clauses
abbrev pub clauses_in : List Literal → List Head → List (List Literal)
clauses_in literals [] = []
clauses_in literals (h ∷ hs) =
    if h.live then literals_under literals h ∷ clauses_in literals hs else clauses_in literals hs

abbrev pub AllLive : List Head → Type 0
AllLive hs = AllByRecursion (λ h. h.live ≡ true) hs

pub record IsStore (literals : List Literal) (heads : List Head) : Type 0 where
  pub laid : IsLaid 0 heads (length literals)
  pub few_literals : length literals < 2 ^ 32
  pub few_heads : length heads < 2 ^ 32
