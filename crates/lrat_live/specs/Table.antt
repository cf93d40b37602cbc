-- Clauses in one flat list of literals, each with an entry that says where its literals lie.
use Rattle.std.specs.Prelude.{◌≡◌, ℕ, ◌+◌, ◌<◌, ◌≤◌, Bool, true, List, [], ◌∷◌, map, length}
use Rattle.std.specs.Prelude.{slice_index, slice_range, take, if◌then◌else◌}
use Rattle.std.specs.List.{AllByRecursion}
use Rattle.cnf.specs.Numbers.{RisesFrom}
use Rattle.cnf.specs.Literal.{Literal}
use Rattle.lrat_live.specs.Chains.{IsChained}
use Rattle.lrat_live.specs.declared.entries.AddedEntry.{AddedEntry}
use Rattle.lrat_live.specs.declared.spans.TheConstants.{MOST_KEPT}

-- an entry without its link
pub record EntrySpan : Type 0 where
  pub id : ℕ
  pub start : ℕ
  pub length : ℕ
  pub live : Bool

abbrev pub entry_span : AddedEntry → EntrySpan
entry_span e = record { id = e.id; start = e.start; length = e.length; live = e.live }

abbrev pub entry_spans : List AddedEntry → List EntrySpan
entry_spans es = map entry_span es

abbrev pub keys_of : List EntrySpan → List ℕ
keys_of cs = map (λ c. c.id) cs

abbrev pub nexts_of : List AddedEntry → List ℕ
nexts_of es = map (λ e. e.next) es

abbrev pub literals_in : List Literal → EntrySpan → List Literal
literals_in literals c = slice_range literals c.start (c.start + c.length)

-- the live clauses
abbrev pub clauses_in : List Literal → List EntrySpan → List (ℕ × List Literal)
clauses_in literals [] = []
clauses_in literals (c ∷ cs) =
    if c.live then (c.id, literals_in literals c) ∷ clauses_in literals cs
    else clauses_in literals cs

abbrev pub AllLive : List EntrySpan → Type 0
AllLive cs = AllByRecursion (λ c. c.live ≡ true) cs

-- each lies where the one before it ends, from one place to another
abbrev pub IsLaid : ℕ → List EntrySpan → ℕ → Type 0
IsLaid from [] to = from ≡ to
IsLaid from (c ∷ cs) to = (c.start ≡ from) × IsLaid (from + c.length) cs to

-- clauses and literals came behind those that were there
pub record IsGrown (ls : List Literal) (cs : List EntrySpan) (ms : List Literal)
    (ds : List EntrySpan) : Type
    0 where
  pub literals : take (length ls) ms ≡ ls
  pub count : length cs ≤ length ds
  pub spans : take (length cs) ds ≡ cs

-- the last key is below
abbrev pub IsAboveLast : ℕ → List ℕ → Type 0
IsAboveLast key ks = (p : ℕ) → p + 1 ≡ length ks → slice_index ks p < key

pub record IsTable (literals : List Literal) (entries : List AddedEntry)
    (heads : List ℕ) : Type 0 where
  pub laid : IsLaid 0 (entry_spans entries) (length literals)
  pub rising : RisesFrom 0 (keys_of (entry_spans entries))
  pub few_literals : length literals ≤ MOST_KEPT
  pub few_entries : length entries ≤ MOST_KEPT
  pub room : length entries ≤ length heads
  pub chained : IsChained (length heads) heads (keys_of (entry_spans entries)) (nexts_of entries)
