use Rattle.std.proofs.Common.{◌≡◌, ◌+◌, ◌≤◌, true, length, refl, sym, ◌∙◌, ap, subst}
use Rattle.std.proofs.Common.{arith}
use Rattle.std.specs.Prelude.{All}
use Rattle.propagate.specs.Trail.{depth_of, kept_to}
use Rattle.propagate.specs.Watches.{is_attached}
use Rattle.propagate.specs.Fits.{IsWithin}
use Rattle.propagate.proofs.Laws.{kept_low}
use Rattle.analyze.specs.Analyzer.{IsRefutedBy, decided}
use Rattle.lrat_log.specs.declared.lines.Kind.TheVariants.{Learned}
use Rattle.lrat_log.specs.Log.{LogLine}
use Rattle.cdcl_search.specs.declared.search.Search.{Search}
use Rattle.cdcl_search.specs.Invariant.{IsRunning}
use Rattle.cdcl_search.specs.Running.{Writes, tables_of}
use Rattle.cdcl_search.proofs.HintNames.{hint_ids}
use Rattle.cdcl_search.proofs.Written.{writes_learned}
use Rattle.cdcl_search.proofs.Lessons.{refutes_live, live_attached}
use Rattle.cdcl_search.proofs.EngineMoves.{runs_chosen}
use Rattle.cdcl_search.proofs.Added.{runs_added}
use Rattle.cdcl_search.proofs.LogLines.{by_hints}
use Rattle.cdcl_search.proofs.CoreLines.{zero_noted, core_within, core_adds, core_new}
use Rattle.cdcl_search.proofs.CoreLines.{core_has}
use Rattle.cdcl_search.proofs.cores.learn_core.Goals as goal

pub hints_of-requires-clause-attached : goal.hints_of-requires-clause-attached
hints_of-requires-clause-attached g c =
    let s = c.args.search.now in
    let k = c.requires.lesson in
    let rs = c.args.clause.now.hints.items in
    subst (All (λ r. is_attached s.engine r ≡ true)) (sym c.as_slice.ensures.value)
    (live_attached s.engine s.store.slots rs c.requires.runs.running.searches
    (refutes_live s.store.slots _ rs k.final.hints))

pub hints_of-requires-clause-noted : goal.hints_of-requires-clause-noted
hints_of-requires-clause-noted g c =
    let s = c.args.search.now in
    zero_noted s.store.slots s.engine.trail s.units.items s.noted c.as_slice.result.now
    c.requires.runs.running.units c.requires.noted

pub add_line-requires-clause-can : goal.add_line-requires-clause-can
add_line-requires-clause-can g c =
    let s = c.args.search.now in
    let k = c.requires.lesson in
    let within =
    core_within s.engine s.store.slots k.literal k.reason c.args.clause.now
    c.requires.runs.running.searches.fits k.falsified k.small k.final in
    let same : c.backtrack.new.self.engine.variables ≡ s.engine.variables =
    c.backtrack.ensures.moves.engine.variables
    ∙ ap (λ (x : Search). (x.engine).variables) c.hints_of.ensures.only_stamps in
    record {
      ready = c.backtrack.ensures.moves.ready;
      within =
          subst (λ n. IsWithin n c.as_slice-lits.result.now) (sym same)
          (subst (IsWithin s.engine.variables) (sym c.as_slice-lits.ensures.value) within);
    }

pub add_line-requires-clause-hints : goal.add_line-requires-clause-hints
add_line-requires-clause-hints g c =
    let s = c.args.search.now in
    let slots = s.store.slots in
    let k = c.requires.lesson in
    let rs = c.as_slice.result.now in
    let D = decided k.literal s.engine.trail in
    let refutes =
    subst (IsRefutedBy slots D c.args.clause.now.lits.items) (sym c.as_slice.ensures.value)
    k.final.hints in
    let recorded = c.requires.runs.running.recorded in
    hint_ids slots s.names.items s.engine.trail rs c.deref.result.now
    (rw c.deref.ensures.value c.in_ok-hints.ensures.hints) recorded.names.as_many recorded.numbers
    (refutes_live slots _ rs refutes)

pub returns-clause-learns : goal.returns-clause-learns
returns-clause-learns g c =
    let s = c.args.search.now in
    let p = c.args.input.now in
    let ls = g.S.Sink.lines c.args.sink.now in
    let T = s.engine.trail in
    let k = c.requires.lesson in
    let lits = c.as_slice-lits.result.now in
    let rs = c.as_slice.result.now in
    let hints = c.deref.result.now in
    let m = c.backtrack.new.self in
    let n = c.add_line.new.self in
    let l : LogLine = record { kind = Learned; clause = lits; hints = hints } in
    let adds =
    core_adds s p ls c.args.clause.now lits rs s.names.items hints c.requires.runs k
    c.as_slice-lits.ensures.value c.as_slice.ensures.value refl
    (rw c.deref.ensures.value c.in_ok-hints.ensures.hints) in
    let goes : Search → Type 0 = λ (x : Search). IsRunning x.engine (x.store).slots p.stack
    (tables_of x) p.frozen.items p.first p.given ls in
    let stamped : goes c.hints_of.new.self =
    subst goes (sym c.hints_of.ensures.only_stamps) c.requires.runs.running in
    let moved = c.backtrack.ensures.state p ls stamped in
    let low = kept_low 0 c.hints_of.new.self.engine.trail in
    let none : depth_of (kept_to 0 c.hints_of.new.self.engine.trail) ≡ 0 = omega arith in
    let flat : depth_of m.engine.trail ≡ 0 = ap depth_of c.backtrack.ensures.moves.trail ∙ none in
    let stamps : m.stamps.items ≡ c.hints_of.new.self.stamps.items =
    ap (λ (x : Search). (x.stamps).items) c.backtrack.ensures.moves.engine.rest in
    let additions : m.additions ≡ s.additions =
    ap (λ (x : Search). x.additions) c.backtrack.ensures.moves.engine.rest
    ∙ ap (λ (x : Search). x.additions) c.hints_of.ensures.only_stamps in
    let past : All (λ x. x ≤ m.additions + 1) m.stamps.items =
    subst (λ j. All (λ x. x ≤ j + 1) m.stamps.items) (sym additions)
    (subst (All (λ x. x ≤ s.additions + 1)) (sym stamps) c.hints_of.ensures.past) in
    let added = c.in_ok-reference.ensures.added in
    let written =
    runs_added m n p ls (g.S.Sink.lines c.add_line.new.sink) l _ k.final.others moved
    c.backtrack.ensures.moves.ready.room past (λ level below. absurd (omega arith))
    (c.as_slice-lits.ensures.value ∙ k.final.split)
    (by_hints (length p.frozen.items) p.given ls l adds) added in
    record {
      runs = runs_chosen n c.note_learned.new.self p _
          (ap (λ x. x.variables) c.note_learned.ensures.same_view) written;
      writes =
          subst (λ x. Writes p.given ls x 1) (sym added.lines)
          (writes_learned p.given ls l refl refl adds
          (core_new s p ls c.args.clause.now lits c.requires.runs k c.as_slice-lits.ensures.value));
      has = core_has m.store.slots n.store.slots lits c.args.clause.now.lits.items
          added.stored.slots c.as_slice-lits.ensures.value;
    }
