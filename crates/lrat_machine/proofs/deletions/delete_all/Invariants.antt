use Rattle.std.proofs.Common.{◌≡◌, ℕ}
use Rattle.lrat_machine.specs.Rup.{deleted_from}
use Rattle.lrat_machine.specs.Steps.{IsBase, live_of}
use Rattle.lrat_machine.specs.Verdict.{deleted}
use Rattle.lrat_machine.proofs.Effects.{ids_from}
use Rattle.lrat_machine.proofs.deletions.delete_all.Given as goal

abbrev pub invariant-loop-hint : goal.invariant-loop-hint
invariant-loop-hint l = record {
  rest : (last : ℕ) → deleted (live_of last l.fn.live) (ids_from l.hints 0)
      ≡ deleted (live_of last l.live) (ids_from l.hints l.hint-index);
  listed : deleted_from l.fn.live (ids_from l.hints 0)
      ≡ deleted_from l.live (ids_from l.hints l.hint-index);
  base : (variables last : ℕ) → IsBase variables last l.fn.live → IsBase variables last l.live;
}
