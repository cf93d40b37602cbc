-- A text on its way to a writer, after a failure of which nothing more is written.
use Rattle.std.specs.Prelude.{◌≡◌, ℕ, Bool, true, false, List, [], ◌∷◌, ◌++◌, Option}
use Rattle.std.specs.Prelude.{if◌then◌else◌}
use Rattle.text.specs.Writing.{AppendsPart, PassesOn}

pub record OutState : Type 0 where
  -- what the writer has, if it is known
  pub had : Option (List ℕ)
  -- what was put out and not written
  pub held : List ℕ
  -- a write has failed
  pub failed : Bool

-- nothing was put out yet
abbrev pub fresh : Option (List ℕ) → OutState
fresh had = record { had = had; held = []; failed = false }

-- a line feed, where one is due
abbrev pub feed : Bool → List ℕ
feed due = if due then 10 ∷ [] else []

-- it counts as put out
abbrev pub with_feed : Bool → OutState → OutState
with_feed due o = record o { held = if due then o.held ++ 10 ∷ [] else o.held }

-- the text was put out; where a write failed the writer has a beginning of what was held and it
pub record Says (old : OutState) (text : List ℕ) (new : OutState) : Type 0 where
  pub whole : new.failed ≡ false
      → (old.failed ≡ false) × PassesOn old.had old.held text new.had new.held
  pub part : old.failed ≡ false → new.failed ≡ true
      → AppendsPart old.had new.had (old.held ++ text)
  pub stays : old.failed ≡ true → new ≡ old
