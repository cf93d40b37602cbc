-- Clauses that are to be detached, in the list of those that wait.
use Rattle.std.specs.Prelude.{ℕ, Bool, not, List, filter}
pub use Rattle.propagate_watches.specs.Doomed.{is_doomed}

abbrev pub spared : List Bool → List ℕ → List ℕ
spared doomed references = filter (λ r. not (is_doomed doomed r)) references
