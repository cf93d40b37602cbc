-- What the facts of a line are read as.
use Rattle.std.specs.Prelude.{◌≡◌, ℕ, Bool, true, false, List, drop, Some, None}
use Rattle.text.specs.Text.{tokens_of}
use Rattle.lrat_read.specs.Words.{NamedFact, ended_facts}

-- the facts from a place on, up to the 0 that ends the line: whether there is nothing else
abbrev pub AreFactsRead : List ℕ → ℕ → List NamedFact → Bool → Type 0
AreFactsRead line at facts true = ended_facts (tokens_of (drop at line)) ≡ Some facts
AreFactsRead line at facts false = ended_facts (tokens_of (drop at line)) ≡ None
