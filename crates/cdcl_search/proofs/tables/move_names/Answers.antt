use Rattle.std.proofs.Common.{◌≡◌, ◌<◌, ℕ, length, sym, ◌∙◌, ap, subst, arith}
use Rattle.std.proofs.lemmas.List.{get_or_default}
use Rattle.lrat_log.specs.declared.lines.Name.TheVariants.{Formula}
use Rattle.clauses.specs.Slots.{old_at, new_at}
use Rattle.cdcl_search.specs.Invariant.{name_at}
use Rattle.cdcl_search.specs.Moves.{NamesMoved}
use Rattle.cdcl_search.proofs.MovingNames.{names_start, names_step_at, names_end}
use Rattle.cdcl_search.proofs.tables.move_names.Goals as goal

pub loop-old-init : goal.loop-old-init
loop-old-init c = names_start c.args.names.now.items c.args.pairs.now

pub loop-old-preserved : goal.loop-old-preserved
loop-old-preserved c =
    let ms = c.args.pairs.now in
    let i = c.loop-old.old-index in
    let same = get_or_default ms i c.loop-old-item.result (0, 0) c.loop-old-test.true in
    let old : c.index.result ≡ old_at ms i =
    c.index.ensures ∙ ap (λ (p : ℕ × ℕ). p.0) (c.loop-old-item.is ∙ same) in
    let new : c.index-in-loop-old-2.result ≡ new_at ms i = c.index-in-loop-old-2.ensures
    ∙ ap (λ (p : ℕ × ℕ). p.1) (c.loop-old-item.is ∙ same) in
    let room : old_at ms i < length c.args.names.now.items =
    c.requires.old_within i (0, 0) c.loop-old-test.true in
    names_step_at c.args.names.now.items ms c.requires.rising c.requires.lower c.requires.old_within
    c.loop-old.names.items i c.index-in-loop-old-2.result c.index-in-loop-old.result.now
    c.loop-old.invariant c.loop-old-test.true new
    (c.index-in-loop-old.ensures
    ∙ get_or_default c.loop-old.names.items c.index.result c.index-in-loop-old.result.now
    (Formula 0) (omega (arith, c.loop-old.invariant.long))
    ∙ ap (name_at c.loop-old.names.items) old)

pub returns-clause-moved : goal.returns-clause-moved
returns-clause-moved c =
    let all =
    names_end c.args.names.now.items c.args.pairs.now c.requires.rising c.requires.lower
    c.requires.old_within c.loop-old.names.items c.loop-old.old-index c.args.places
    c.loop-old.invariant
    c.loop-old-test.false c.requires.new_within in
    subst (λ xs. NamesMoved c.args.names.now.items xs c.args.pairs.now)
    (sym c.truncate.ensures.items) all
