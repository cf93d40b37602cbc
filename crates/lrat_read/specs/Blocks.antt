-- What the blocks of a line are read as.
use Rattle.std.specs.Prelude.{◌≡◌, ℕ, ◌≤◌, Bool, false, true, List, [], map, length, drop, Option}
use Rattle.std.specs.Prelude.{Some, None}
use Rattle.cnf.specs.Literal.{Literal}
use Rattle.text.specs.Text.{tokens_of}
use Rattle.lrat_read.specs.Form.{block_of, literal_from}
use Rattle.lrat_read.specs.Reader.{is_large_clause}
use Rattle.lrat_read.specs.Words.{ended_ids, ended_literals}
use Rattle.lrat_read.specs.declared.blocks.LitsEnd.{LitsEnd}

-- the block that begins at a place, as literals
abbrev pub IsLitsRead : List ℕ → ℕ → List Literal → Option LitsEnd → Type 0
IsLitsRead line at lits None = block_of (tokens_of (drop at line)) ≡ None
IsLitsRead line at lits (Some e) =
    (xs : List (Bool × ℕ))
    × (block_of (tokens_of (drop at line)) ≡ Some (xs, tokens_of (drop e.end line)))
    × (e.end ≤ length line)
    × (is_large_clause (map literal_from xs) ≡ e.is_large)
    × (e.is_large ≡ false → map literal_from xs ≡ lits)

-- the last block of a line, as literals
abbrev pub AreLastLitsRead : List ℕ → ℕ → List Literal → Option LitsEnd → Type 0
AreLastLitsRead line at lits None = ended_literals (tokens_of (drop at line)) ≡ None
AreLastLitsRead line at lits (Some e) =
    (c : List Literal) × (ended_literals (tokens_of (drop at line)) ≡ Some c)
    × (is_large_clause c ≡ e.is_large) × (e.is_large ≡ false → c ≡ lits)

-- the last block of a line, as numbers without dashes: whether it is one, with nothing after it
abbrev pub AreIdsRead : List ℕ → ℕ → List ℕ → Bool → Type 0
AreIdsRead line at ids true = ended_ids (tokens_of (drop at line)) ≡ Some ids
AreIdsRead line at ids false = ended_ids (tokens_of (drop at line)) ≡ None

-- the block that begins at a place, as hints
abbrev pub IsHintsRead : List ℕ → ℕ → List (Bool × ℕ) → Option ℕ → Type 0
IsHintsRead line at hints None = block_of (tokens_of (drop at line)) ≡ None
IsHintsRead line at hints (Some e) =
    (block_of (tokens_of (drop at line)) ≡ Some (hints, tokens_of (drop e line)))
    × (e ≤ length line)

-- the last block of a line, as hints: whether it is one, with nothing after it
abbrev pub IsLastRead : List ℕ → ℕ → List (Bool × ℕ) → Bool → Type 0
IsLastRead line at hints true = block_of (tokens_of (drop at line)) ≡ Some (hints, [])
IsLastRead line at hints false =
    (xs : List (Bool × ℕ)) → block_of (tokens_of (drop at line)) ≡ Some (xs, []) → ⊥
