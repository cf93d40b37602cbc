-- How a log lies in memory: the literals of all lines in one list, their hints in another, and for
-- each line where its own end.
use Rattle.std.specs.Prelude.{◌≡◌, ℕ, zero, suc, ◌+◌, ◌≤◌, List, [], ◌∷◌, length, slice_range}
use Rattle.cnf.specs.Literal.{Literal}
use Rattle.lrat_log.specs.declared.lines.Hint.{Hint}
use Rattle.lrat_log.specs.declared.heads.LineHead.{LineHead}
use Rattle.lrat_log.specs.Log.{LogLine, IsLog}

-- the lines of the heads, where those before end at these places
abbrev pub lines_from : ℕ → ℕ → List LineHead → List Literal → List Hint → List LogLine
lines_from i j [] lits hints = []
lines_from i j (h ∷ hs) lits hints =
    record {
      kind = h.kind;
      clause = slice_range lits i h.lits_end;
      hints = slice_range hints j h.hints_end;
    } ∷ lines_from h.lits_end h.hints_end hs lits hints

abbrev pub lines_in : List LineHead → List Literal → List Hint → List LogLine
lines_in heads lits hints = lines_from 0 0 heads lits hints

-- the ends rise, up to the last literal and the last hint
abbrev pub AreEndsFrom : ℕ → ℕ → List LineHead → List Literal → List Hint → Type 0
AreEndsFrom i j [] lits hints = (i ≡ length lits) × (j ≡ length hints)
AreEndsFrom i j (h ∷ hs) lits hints =
    (i ≤ h.lits_end) × (h.lits_end ≤ length lits) × (j ≤ h.hints_end)
    × (h.hints_end ≤ length hints)
    × AreEndsFrom h.lits_end h.hints_end hs lits hints

pub record IsFlat (heads : List LineHead) (lits : List Literal) (hints : List Hint) : Type 0 where
  pub log : IsLog (lines_in heads lits hints)
  pub ends : AreEndsFrom 0 0 heads lits hints

-- how many literals, and hints, the first k lines have
abbrev pub lits_before : ℕ → List LineHead → ℕ → ℕ
lits_before i hs zero = i
lits_before i [] (suc k) = i
lits_before i (h ∷ hs) (suc k) = lits_before h.lits_end hs k

abbrev pub hints_before : ℕ → List LineHead → ℕ → ℕ
hints_before j hs zero = j
hints_before j [] (suc k) = j
hints_before j (h ∷ hs) (suc k) = hints_before h.hints_end hs k

-- how many literals, and hints, the first k lines of a log have
abbrev pub lits_on : List LogLine → ℕ → ℕ
lits_on ls zero = 0
lits_on [] (suc k) = 0
lits_on (l ∷ ls) (suc k) = length l.clause + lits_on ls k

abbrev pub hints_on : List LogLine → ℕ → ℕ
hints_on ls zero = 0
hints_on [] (suc k) = 0
hints_on (l ∷ ls) (suc k) = length l.hints + hints_on ls k
