-- The bytes that were taken hold the lines that were judged, or those that were passed over.
use Rattle.std.proofs.Common.{◌≡◌, ◌+◌, ◌≤◌, ◌++◌, ◌∙◌, None, true, false, length, replicate, take}
use Rattle.std.proofs.Common.{ap, sym, subst, arith}
use Rattle.std.proofs.lemmas.List.{length-take-le}
use Rattle.lrat_read.specs.Blanks.{no_tokens}
use Rattle.lrat_check.specs.Pieces.{CheckerState, JudgesLines, ReadingState}
use Rattle.lrat_check.proofs.PieceLaws.{holds_seen, lines_more}
use Rattle.lrat_check.proofs.ReadingLaws.{lines_passed, lines_within, read_ends}
use Rattle.lrat_check.proofs.pieces.Checker.take_batch.Goals as goal

pub returns-then-blank-gt0-clause-holds : goal.returns-then-blank-gt0-clause-holds
returns-then-blank-gt0-clause-holds c = λ formula bytes h.
    let s = c.self.inside in
    let old : ReadingState = record { machine = s.machine; rest = s.rest; refused = s.refused } in
    let open_end : old.refused ≡ None =
    ap (λ (x : CheckerState). (x.reading).refused) c.self.view_is ∙ c.requires.open in
    let blank = c.blank_lines-blank in
    let text = take blank.result.bytes c.args.text.now in
    let size = length-take-le blank.result.bytes c.args.text.now blank.ensures.within in
    let empty = c.is_empty.ensures.empty c.if-not-is_empty.false in
    let passed : JudgesLines old.machine text c.pass_over.new.self None =
    subst (λ m. JudgesLines old.machine text m None) (sym c.pass_over.ensures)
    (lines_passed old.machine blank.result.count text blank.ensures.read) in
    let behind : JudgesLines old.machine (old.rest ++ text) c.pass_over.new.self None =
    subst (λ x. JudgesLines old.machine x c.pass_over.new.self None)
    (ap (λ x. x ++ text) (sym empty)) passed in
    lines_more old _ text open_end
    (read_ends text (replicate blank.result.count no_tokens) blank.ensures.read
    (omega (arith, size, c.if-blank-gt0.true))) empty
    (subst (JudgesLines old.machine (old.rest ++ text) c.pass_over.new.self)
    (sym open_end) behind)
    formula bytes (holds_seen _ _ c.self.view_is formula bytes h)

pub judge_batch-requires : goal.judge_batch-requires
judge_batch-requires c =
    let size = length-take-le c.in_ok-count.count c.args.text.now c.in_ok-count.ensures.within in
    let few = lines_within _ c.read.new.self c.in_ok-count.ensures.read in
    let lines = ap (λ (x : CheckerState). ((x.reading).machine).lines) c.self.view_is in
    omega (
      arith,
      size,
      few,
      lines,
      c.in_ok-count.ensures.within,
      c.requires.room,
      c.requires.small,
    )

pub invariant_of-self-in_err-self-inside : goal.invariant_of-self-in_err-self-inside
invariant_of-self-in_err-self-inside c =
    let size = length-take-le c.in_ok-count.count c.args.text.now c.in_ok-count.ensures.within in
    let few = lines_within _ c.read.new.self c.in_ok-count.ensures.read in
    let room = subst (λ (x : CheckerState). ((x.reading).machine).lines + length (x.reading).rest
    + length c.args.text.now ≤ x.fed) (sym c.self.view_is) c.requires.room in (
      omega (
        arith,
        size,
        few,
        room,
        c.in_ok-count.ensures.within,
        c.judge_batch.ensures.lines,
      ),
      c.self.invariant.1,
    )

pub invariant_of-self-then-count-gt0 : goal.invariant_of-self-then-count-gt0
invariant_of-self-then-count-gt0 c =
    let size = length-take-le c.in_ok-count.count c.args.text.now c.in_ok-count.ensures.within in
    let few = lines_within _ c.read.new.self c.in_ok-count.ensures.read in
    let room = subst (λ (x : CheckerState). ((x.reading).machine).lines + length (x.reading).rest
    + length c.args.text.now ≤ x.fed) (sym c.self.view_is) c.requires.room in
    let works : c.self.inside.failed ≡ false =
    ap (λ (x : CheckerState). x.failed) c.self.view_is ∙ c.requires.works in (
      omega (
        arith,
        size,
        few,
        room,
        c.in_ok-count.ensures.within,
        c.judge_batch.ensures.lines,
      ),
      λ failed. absurd (let two : false ≡ true = sym works ∙ failed in cc),
    )

pub returns-in_ok-self-inside-clause-holds : goal.returns-in_ok-self-inside-clause-holds
returns-in_ok-self-inside-clause-holds c = λ formula bytes h.
    let s = c.self.inside in
    let old : ReadingState = record { machine = s.machine; rest = s.rest; refused = s.refused } in
    let size = length-take-le c.in_ok-count.count c.args.text.now c.in_ok-count.ensures.within in
    let empty = c.is_empty.ensures.empty c.if-not-is_empty.false in
    let text = take c.in_ok-count.count c.args.text.now in
    lines_more old _ text
    (ap (λ (x : CheckerState). (x.reading).refused) c.self.view_is ∙ c.requires.open)
    (read_ends text c.read.new.self c.in_ok-count.ensures.read
    (omega (arith, size, c.if-count-gt0.true))) empty
    (subst (λ x. JudgesLines old.machine x c.judge_batch.new.machine
    c.in_ok-self-inside.field-0) (ap (λ x. x ++ text) (sym empty))
    (c.in_ok-self-inside.ensures.judges text c.in_ok-count.ensures.read))
    formula bytes (holds_seen _ _ c.self.view_is formula bytes h)

pub returns-in_ok-self-inside-clause-lines : goal.returns-in_ok-self-inside-clause-lines
returns-in_ok-self-inside-clause-lines c =
    let size = length-take-le c.in_ok-count.count c.args.text.now c.in_ok-count.ensures.within in
    let few = lines_within _ c.read.new.self c.in_ok-count.ensures.read in
    let lines = ap (λ (x : CheckerState). ((x.reading).machine).lines) c.self.view_is in
    omega (arith, size, few, lines, c.judge_batch.ensures.lines)
