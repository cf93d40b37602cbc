-- Clauses whose ids lead straight to the places of their literals.
use Rattle.std.specs.Prelude.{◌≡◌, ℕ, ◌+◌, ◌-◌, ◌<◌, ◌≤◌, ◌^◌, Bool, true, not, List, [], ◌∷◌, ◌++◌}
use Rattle.std.specs.Prelude.{length, take, drop, get_or, replicate, slice_range, nat_le, ◌==◌}
use Rattle.std.specs.Prelude.{if◌then◌else◌}
use Rattle.cnf.specs.Literal.{Literal}
use Rattle.lrat_live.specs.declared.spans.LiveSpan.{LiveSpan}
use Rattle.lrat_live.specs.declared.spans.TheConstants.{DEAD, MOST_KEPT}

abbrev pub is_live : LiveSpan → Bool
is_live s = not (s.start == DEAD)

-- that of no clause
abbrev pub nowhere : LiveSpan
nowhere = record { start = DEAD; length = 0 }

abbrev pub literals_at : List Literal → LiveSpan → List Literal
literals_at literals s = slice_range literals s.start (s.start + s.length)

-- the live clauses, under the ids from n on
abbrev pub spanned : List Literal → ℕ → List LiveSpan → List (ℕ × List Literal)
spanned literals n [] = []
spanned literals n (s ∷ ss) =
    if is_live s then (n, literals_at literals s) ∷ spanned literals (n + 1) ss
    else spanned literals (n + 1) ss

-- the spans of clauses that lie one after another, from a place on
abbrev pub spans_from : ℕ → List (List Literal) → List LiveSpan
spans_from start [] = []
spans_from start (c ∷ cs) =
    record { start = start; length = length c } ∷ spans_from (start + length c) cs

-- the live ones lie within the first `most` literals
abbrev pub AreWithin : List LiveSpan → ℕ → Type 0
AreWithin ss most = (p : ℕ) (d : LiveSpan) → p < length ss → is_live (get_or ss p d) ≡ true
    → (get_or ss p d).start + (get_or ss p d).length ≤ most

-- where the next one may begin
abbrev pub end_of : ℕ → LiveSpan → ℕ
end_of from s = if is_live s then s.start + s.length else from

-- the live ones lie one behind the other, from one place to another
abbrev pub AreSpread : ℕ → List LiveSpan → ℕ → Type 0
AreSpread from [] to = from ≤ to
AreSpread from (s ∷ ss) to =
    (is_live s ≡ true → from ≤ s.start) × AreSpread (end_of from s) ss to

-- as many spans as a place says, the last ones of no clause where there are fewer
abbrev pub padded : ℕ → List LiveSpan → List LiveSpan
padded place ss = take place ss ++ replicate (place - length ss) nowhere

-- those of the formula, and those that were added of late
pub record NearParts : Type 0 where
  pub given : List (ℕ × List Literal)
  pub recent : List (ℕ × List Literal)

-- all clauses, with those that are far
abbrev pub all_of : NearParts → List (ℕ × List Literal) → List (ℕ × List Literal)
all_of near far = near.given ++ (far ++ near.recent)

-- the id of a place: the formula has `given` clauses, and `gap` ids are passed over after them
abbrev pub id_at : ℕ → ℕ → ℕ → ℕ
id_at given gap place = if nat_le place given then place else place + gap

abbrev pub given_in : List Literal → List LiveSpan → ℕ → List (ℕ × List Literal)
given_in literals spans given = spanned literals 0 (take (given + 1) spans)

abbrev pub recent_in : List Literal → List LiveSpan → ℕ → ℕ → List (ℕ × List Literal)
recent_in literals spans given gap =
    spanned literals (given + 1 + gap) (drop (given + 1) spans)

-- a live clause has the id, and its span this place
pub record IsPlace (spans : List LiveSpan) (given gap id place : ℕ) : Type 0 where
  pub within : place < length spans
  pub live : is_live (get_or spans place nowhere) ≡ true
  pub is : id ≡ id_at given gap place

pub record IsNear (literals : List Literal) (spans : List LiveSpan) (given given_literals gap : ℕ)
    : Type 0 where
  pub covers : given + 1 ≤ length spans
  pub first_id : given + 1 + gap < 2 ^ 64
  pub last_id : gap + length spans ≤ 2 ^ 64
  pub formula : AreSpread 0 (take (given + 1) spans) given_literals
  pub recent : AreSpread given_literals (drop (given + 1) spans) (length literals)
  pub few : length literals ≤ MOST_KEPT
