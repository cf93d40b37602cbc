-- Where the last line of a certificate ends.
use Rattle.std.specs.Prelude.{ℕ, ◌+◌, List, [], ◌∷◌, ◌==◌, if◌then◌else◌}

-- how many bytes go up to the last line feed, after some of them and then these
abbrev pub ended_after : ℕ → ℕ → List ℕ → ℕ
ended_after count ended [] = ended
ended_after count ended (b ∷ bs) =
    ended_after (count + 1) (if b == 10 then count + 1 else ended) bs
