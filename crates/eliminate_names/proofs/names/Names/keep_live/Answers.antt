-- Place after place is looked at.
use Rattle.std.proofs.Common.{◌∙◌, ◌<◌, List, ap, arith, length, sym}
use Rattle.std.proofs.lemmas.List.{get_or_default}
use Rattle.clauses.specs.Slots.{Slots, clause_at}
use Rattle.lrat_log.specs.declared.lines.Name.{Name}
use Rattle.lrat_log.specs.declared.lines.Name.TheVariants.{Formula}
use Rattle.eliminate_names.specs.Work.{name_at}
use Rattle.eliminate_names.proofs.Together.{closing_live, closing_dead}
use Rattle.eliminate_names.proofs.names.Names.keep_live.Goals as goal
use Rattle.eliminate_names.proofs.names.Names.keep_live.Goals.{in-Some, in-None}

pub loop-place-preserved : goal.loop-place-preserved
loop-place-preserved c =
    let slots : Slots = c.args.store.now.slots in
    let all : List Name = c.args.self.now.names in
    let items : List Name = (c.loop-place.self-inside).names in
    let i = c.loop-place.place in
    let lt : i < length slots = omega arith in
    elim c.match-live_at.branch [
      | in-Some w ↦
          let at = w.in-Some.ensures.live in
          let there = ap (clause_at slots) (sym at.0) ∙ at.1.1 in
          let within : i < length items =
          (let l = c.loop-place.invariant.closing.long in omega (arith, l, c.requires)) in
          let name = name_at items i in
          let read = get_or_default items i (Formula 1) name within in
          rw (w.self-inside-is, w.copy.ensures, w.kept-is) (record {
            closing = closing_live items all slots c.loop-place.kept i at.1.0 name
                c.requires lt there read c.loop-place.invariant.closing;
            additions = c.loop-place.invariant.additions;
          })
      | in-None w ↦
          rw (w.self-inside-is, w.kept-is) (record {
            closing = closing_dead items all slots c.loop-place.kept i c.requires lt
                (c.live_at.ensures.none w.in-None.is) c.loop-place.invariant.closing;
            additions = c.loop-place.invariant.additions;
          })
    ]
