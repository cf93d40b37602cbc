-- Why there is no further output.
use Rattle.std.proofs.Common.{◌+◌, ap, arith, length, Some, ◌∙◌}
use Rattle.forms.specs.Forms.{at_number}
use Rattle.forms.specs.Stamped.{numbered_at}
use Rattle.forms.proofs.NextOutput.{all_there, can_grow, no_count, no_item, too_many}
use Rattle.forms.proofs.growing.more_fault.Goals as goal

pub returns-in_default : goal.returns-in_default
returns-in_default c = λ s present ns made.
    no_item c.args.number s
    (ap (λ l. at_number l c.args.number) ns ∙ c.in_default.ensures present)

pub returns-in-Group : goal.returns-in-Group
returns-in-Group c = λ s present ns made.
    no_count c.args.number s c.in-Group.field-0.items
    (ap (λ l. at_number l c.args.number) ns ∙ c.in-Some.ensures present
    ∙ ap (λ n. Some (numbered_at present n)) c.in-Group.is)

pub returns-then-outputs-size : goal.returns-then-outputs-size
returns-then-outputs-size c = λ s present ns made.
    all_there c.args.number s _ c.in-Count.count.totalizer _
    (ap (λ l. at_number l c.args.number) ns ∙ c.in-Some.ensures present
    ∙ ap (λ n. Some (numbered_at present n)) c.in-Count.is)
    (omega (arith, c.size.ensures, ap length c.outputs.ensures, c.if-outputs-size.true))

pub returns-then-count_stage_clauses-made : goal.returns-then-count_stage_clauses-made
returns-then-count_stage_clauses-made c = λ s present ns made.
    too_many c.args.number s _ c.in-Count.count.totalizer _
    (ap (λ l. at_number l c.args.number) ns ∙ c.in-Some.ensures present
    ∙ ap (λ n. Some (numbered_at present n)) c.in-Count.is)
    (omega (arith, c.size.ensures, ap length c.outputs.ensures, c.if-outputs-size.false))
    (omega (
      arith,
      made,
      c.count_stage_clauses.ensures (s.variables + 1),
      c.if-count_stage_clauses-made.true,
    ))

pub returns-else-count_stage_clauses-made : goal.returns-else-count_stage_clauses-made
returns-else-count_stage_clauses-made c = λ s present ns made.
    can_grow c.args.number s _ c.in-Count.count.totalizer _
    (ap (λ l. at_number l c.args.number) ns ∙ c.in-Some.ensures present
    ∙ ap (λ n. Some (numbered_at present n)) c.in-Count.is)
    (omega (arith, c.size.ensures, ap length c.outputs.ensures, c.if-outputs-size.false))
    (omega (
      arith,
      made,
      c.requires,
      c.count_stage_clauses.ensures (s.variables + 1),
      c.if-count_stage_clauses-made.false,
    ))
