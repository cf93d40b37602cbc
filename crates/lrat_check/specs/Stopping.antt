-- How far the certificate of a reader is read. A line is judged once its line feed is there, and
-- the reader is asked for READ_SIZE bytes at once.
use Rattle.std.specs.Prelude.{◌≡◌, ℕ, ◌+◌, ◌^◌, ◌≤◌, List, [], ◌∷◌, ◌++◌, length, Option, ◌⊎◌}
use Rattle.std.specs.Prelude.{◌==◌, if◌then◌else◌}
use Rattle.std.specs.Io.KnownBytes.{Consumes}
use Rattle.text.specs.declared.watched.TheConstants.{READ_SIZE}
use Rattle.text.specs.Text.{IsNoFeed}
use Rattle.lrat_machine.specs.declared.verdicts.Verdict.{Verdict}

-- the number of line feeds
abbrev pub feeds : List ℕ → ℕ
feeds [] = 0
feeds (b ∷ bs) = (if b == 10 then 1 else 0) + feeds bs

-- behind these bytes the verdict is the same, whatever comes
abbrev pub Settles : (List ℕ → Verdict) → List ℕ → Type 0
Settles verdict bytes = (v : Verdict) × ((more : List ℕ) → verdict (bytes ++ more) ≡ v)

-- the bytes go at most `most` lines on behind some that leave the verdict open
pub record GoesOnFor (most : ℕ) (verdict : List ℕ → Verdict) (bytes : List ℕ) : Type 0 where
  pub done : List ℕ
  pub over : List ℕ
  pub split : bytes ≡ done ++ over
  pub few : feeds over ≤ most
  pub is_open : Settles verdict done → ⊥

-- what a reader gave, from what it had left to what it has left: nothing, or no more than 2^17
-- lines behind bytes that leave the verdict open
pub record StopsInTime (verdict : List ℕ → Verdict) (old new : Option (List ℕ)) : Type 0 where
  pub bytes : List ℕ
  pub read : Consumes old new bytes
  pub in_time : (bytes ≡ []) ⊎ GoesOnFor (2 ^ 17) verdict bytes

-- the last piece of the bytes was read where the lines that had ended left the verdict open
pub record ReadsOn (verdict : List ℕ → Verdict) (bytes : List ℕ) : Type 0 where
  pub front : List ℕ
  pub piece : List ℕ
  pub split : bytes ≡ front ++ piece
  pub small : length piece ≤ READ_SIZE
  pub done : List ℕ
  pub rest : List ℕ
  pub cut : front ≡ done ++ rest
  pub unfinished : IsNoFeed rest
  pub is_open : Settles verdict done → ⊥
