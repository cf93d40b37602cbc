-- The stamps so far are 0.
use Rattle.std.proofs.Common.{◌≡◌, ℕ, ◌<◌, get_or}
use Rattle.linear.specs.declared.terms.Term.{Term}
use Rattle.linear.specs.Terms.{costs, values}
use Rattle.linear.proofs.terms.take_stamps.Given as goal

abbrev pub invariant-loop-term : goal.invariant-loop-term
invariant-loop-term l = record {
  costs : costs l.terms ≡ costs l.initial.terms;
  values : values l.terms ≡ values l.initial.terms;
  none : (k : ℕ) → k < l.term-index → (d : Term) → (get_or l.terms k d).stamp < 1;
}
