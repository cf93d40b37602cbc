-- The clauses of the part so far are those at the places so far, which are within.
use Rattle.std.proofs.Common.{◌≡◌, ◌<◌, ◌++◌, All, length, take}
use Rattle.contradiction.specs.Contradictions.{clauses_at}
use Rattle.contradiction.proofs.trials.are_same.Given as goal

abbrev pub invariant-loop-place : goal.invariant-loop-place
invariant-loop-place l = record {
  split : l.part ≡ clauses_at l.hard (take l.place-index l.places) ++ l.rest;
  within : All (λ k. k < length l.hard) (take l.place-index l.places);
}
