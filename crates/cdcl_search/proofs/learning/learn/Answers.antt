use Rattle.std.proofs.Common.{◌≡◌, ◌+◌, ◌<◌, ◌≤◌, true, refl, sym, ◌∙◌, ap, subst, arith}
use Rattle.std.specs.Prelude.{All}
use Rattle.propagate.specs.Trail.{depth_of, kept_to}
use Rattle.propagate.specs.Watches.{is_attached}
use Rattle.propagate.specs.Fits.{IsWithin}
use Rattle.analyze.specs.Analyzer.{IsRefutedBy}
use Rattle.lrat_log.specs.declared.lines.Kind.TheVariants.{Learned}
use Rattle.lrat_log.specs.Log.{LogLine}
use Rattle.lrat_log.specs.declared.log.TheConstants.{LINE_LIMIT}
use Rattle.lrat_log.proofs.Laws.{when_err}
use Rattle.cdcl_search.specs.declared.search.Search.{Search}
use Rattle.cdcl_search.specs.Invariant.{IsRunning}
use Rattle.cdcl_search.specs.Running.{IsReady, Writes, tables_of}
use Rattle.cdcl_search.proofs.HintNames.{hint_ids}
use Rattle.cdcl_search.proofs.Written.{writes_learned}
use Rattle.cdcl_search.proofs.MoreMoves.{learn_is_new}
use Rattle.cdcl_search.proofs.Lessons.{refutes_live, live_attached, conflict_of, all_noted}
use Rattle.cdcl_search.proofs.Lessons.{asserting_within, back_low, is_lesson, runs_learned}
use Rattle.cdcl_search.proofs.EngineMoves.{runs_chosen}
use Rattle.cdcl_search.proofs.learning.learn.Given.{Over}
use Rattle.cdcl_search.proofs.learning.learn.Goals as goal
use Rattle.cdcl_search.proofs.learning.learn.Goals.{After-backtrack}

pub analyze-requires-clause-falsified : goal.analyze-requires-clause-falsified
analyze-requires-clause-falsified g c =
    let s = c.args.search.now in
    conflict_of s.engine s.store.slots c.args.conflict c.requires.runs.running.searches
    c.requires.deep c.requires.conflict

pub hints_of-requires-clause-attached : goal.hints_of-requires-clause-attached
hints_of-requires-clause-attached g c =
    let s = c.args.search.now in
    let learned = c.in_ok-learned.learned in
    subst (All (λ r. is_attached s.engine r ≡ true)) (sym c.as_slice.ensures.value)
    (live_attached s.engine s.store.slots learned.hints.items c.requires.runs.running.searches
    (refutes_live s.store.slots _ learned.hints.items c.in_ok-learned.ensures.hints))

pub hints_of-requires-clause-noted : goal.hints_of-requires-clause-noted
hints_of-requires-clause-noted g c =
    let s = c.args.search.now in
    all_noted s.store.slots s.engine.trail s.units.items s.noted c.as_slice.result.now
    c.requires.runs.running.units c.requires.deep

pub learn_from-lbd-requires-clause-hints : goal.learn_from-lbd-requires-clause-hints
learn_from-lbd-requires-clause-hints g c =
    let s = c.args.search.now in
    let learned = c.in_ok-learned.learned in
    subst (λ (x : Search). All (λ r. is_attached x.engine r ≡ true) learned.hints.items)
    (sym c.hints_of.ensures.only_stamps)
    (live_attached s.engine s.store.slots learned.hints.items c.requires.runs.running.searches
    (refutes_live s.store.slots _ learned.hints.items c.in_ok-learned.ensures.hints))

pub learn_from-lbd-requires-clause-within : goal.learn_from-lbd-requires-clause-within
learn_from-lbd-requires-clause-within g c =
    let s = c.args.search.now in
    let learned = c.in_ok-learned.learned in
    subst (λ (x : Search). IsWithin (x.engine).variables learned.lits.items)
    (sym c.hints_of.ensures.only_stamps)
    (asserting_within s.engine s.store.slots learned.lits.items learned.back_level
    c.requires.runs.running.searches.fits c.in_ok-learned.ensures.asserting)

pub backtrack-requires-clause-level : goal.backtrack-requires-clause-level
backtrack-requires-clause-level g c =
    let s = c.args.search.now in
    let learned = c.in_ok-learned.learned in
    let same : depth_of c.learn_from-lbd.new.self.engine.trail ≡ depth_of s.engine.trail =
    ap (λ (x : Search). depth_of (x.engine).trail) c.learn_from-lbd.ensures.only_policy
    ∙ ap (λ (x : Search). depth_of (x.engine).trail) c.hints_of.ensures.only_stamps in
    let low =
    back_low s.engine.trail learned.lits.items learned.back_level
    c.in_ok-learned.ensures.asserting in
    omega arith

pub add_line-requires-clause-can : goal.add_line-requires-clause-can
add_line-requires-clause-can g c =
    let s = c.args.search.now in
    let learned = c.in_ok-learned.learned in
    let within =
    asserting_within s.engine s.store.slots learned.lits.items learned.back_level
    c.requires.runs.running.searches.fits c.in_ok-learned.ensures.asserting in
    let same : c.backtrack.new.self.engine.variables ≡ s.engine.variables =
    c.backtrack.ensures.moves.engine.variables
    ∙ ap (λ (x : Search). (x.engine).variables) c.learn_from-lbd.ensures.only_policy
    ∙ ap (λ (x : Search). (x.engine).variables) c.hints_of.ensures.only_stamps in
    record {
      ready = c.backtrack.ensures.moves.ready;
      within =
          subst (λ n. IsWithin n c.as_slice-2.result.now) (sym same)
          (subst (IsWithin s.engine.variables) (sym c.as_slice-2.ensures.value) within);
    }

pub add_line-requires-clause-hints : goal.add_line-requires-clause-hints
add_line-requires-clause-hints g c =
    let s = c.args.search.now in
    let slots = s.store.slots in
    let learned = c.in_ok-learned.learned in
    let rs = c.as_slice.result.now in
    let refutes =
    subst (IsRefutedBy slots s.engine.trail learned.lits.items) (sym c.as_slice.ensures.value)
    c.in_ok-learned.ensures.hints in
    let recorded = c.requires.runs.running.recorded in
    hint_ids slots s.names.items s.engine.trail rs c.deref.result.now
    (rw c.deref.ensures.value c.in_ok-hints.ensures.hints)
    recorded.names.as_many recorded.numbers (refutes_live slots _ rs refutes)

pub returns-clause-learns : goal.returns-clause-learns
returns-clause-learns g c =
    let s = c.args.search.now in
    let p = c.args.input.now in
    let ls = g.S.Sink.lines c.args.sink.now in
    let T = s.engine.trail in
    let learned = c.in_ok-learned.learned in
    let lesson =
    is_lesson s p ls learned.lits.items c.as_slice-2.result.now learned.back_level
    learned.hints.items c.as_slice.result.now _ c.deref.result.now c.requires.runs
    c.requires.deep
    c.in_ok-learned.ensures.asserting c.in_ok-learned.ensures.hints
    (rw c.deref.ensures.value c.in_ok-hints.ensures.hints)
    c.as_slice-2.ensures.value c.as_slice.ensures.value refl in
    let m = c.backtrack.new.self in
    let n = c.add_line.new.self in
    let l : LogLine =
    record {
      kind = Learned;
      clause = c.as_slice-2.result.now;
      hints = c.deref.result.now;
    } in
    let goes : Search → Type 0 = λ (x : Search). IsRunning x.engine (x.store).slots p.stack
    (tables_of x) p.frozen.items p.first p.given ls in
    let bumped : goes c.learn_from-lbd.new.self =
    subst goes (sym c.learn_from-lbd.ensures.only_policy)
    (subst goes (sym c.hints_of.ensures.only_stamps) c.requires.runs.running) in
    let moved = c.backtrack.ensures.state p ls bumped in
    let trail : m.engine.trail ≡ kept_to learned.back_level T = c.backtrack.ensures.moves.trail
    ∙ ap (λ (x : Search). kept_to learned.back_level (x.engine).trail)
    c.learn_from-lbd.ensures.only_policy
    ∙ ap (λ (x : Search). kept_to learned.back_level (x.engine).trail)
    c.hints_of.ensures.only_stamps in
    let stamps : m.stamps.items ≡ c.hints_of.new.self.stamps.items =
    ap (λ (x : Search). (x.stamps).items) c.backtrack.ensures.moves.engine.rest
    ∙ ap (λ (x : Search). (x.stamps).items) c.learn_from-lbd.ensures.only_policy in
    let additions : m.additions ≡ s.additions =
    ap (λ (x : Search). x.additions) c.backtrack.ensures.moves.engine.rest
    ∙ ap (λ (x : Search). x.additions) c.learn_from-lbd.ensures.only_policy
    ∙ ap (λ (x : Search). x.additions) c.hints_of.ensures.only_stamps in
    let past : All (λ x. x ≤ m.additions + 1) m.stamps.items =
    subst (λ k. All (λ x. x ≤ k + 1) m.stamps.items) (sym additions)
    (subst (All (λ x. x ≤ s.additions + 1)) (sym stamps) c.hints_of.ensures.past) in
    let added = c.in_ok-reference.ensures.added in
    let written =
    runs_learned m n p ls (g.S.Sink.lines c.add_line.new.sink) l T learned.back_level moved
    c.backtrack.ensures.moves.ready.room past lesson.asserting trail lesson.adds added in
    let run = c.requires.runs.running in
    let same : m.engine.variables ≡ s.engine.variables = c.backtrack.ensures.moves.engine.variables
    ∙ ap (λ (x : Search). (x.engine).variables) c.learn_from-lbd.ensures.only_policy
    ∙ ap (λ (x : Search). (x.engine).variables) c.hints_of.ensures.only_stamps in
    record {
      runs = runs_chosen n c.note_learned.new.self p _
          (ap (λ x. x.variables) c.note_learned.ensures.same_view) written;
      variables = added.stored.variables ∙ same;
      writes =
          subst (λ x. Writes p.given ls x 1) (sym added.lines)
          (writes_learned p.given ls l refl refl lesson.adds
          (λ base above. learn_is_new s.engine s.store.slots s.names.items p.given ls l
          learned.back_level run.searches run.recorded.names lesson.asserting c.requires.deep
          base above));
    }

pub hints_of-requires-clause-past : goal.hints_of-requires-clause-past
hints_of-requires-clause-past g c = c.requires.runs.past

pub hints_of-requires-clause-few : goal.hints_of-requires-clause-few
hints_of-requires-clause-few g c = c.requires.runs.few

pub returns-in_err-learned-clause-err : goal.returns-in_err-learned-clause-err
returns-in_err-learned-clause-err g c = when_err _ refl

pub returns-in_err-hints-clause-err : goal.returns-in_err-hints-clause-err
returns-in_err-hints-clause-err g c = when_err _ refl

pub learn_from-lbd-requires-clause-ready : goal.learn_from-lbd-requires-clause-ready
learn_from-lbd-requires-clause-ready g c = c.hints_of.ensures.ready

pub backtrack-requires-clause-ready : goal.backtrack-requires-clause-ready
backtrack-requires-clause-ready g c =
    let ready = c.hints_of.ensures.ready in
    subst IsReady (sym c.learn_from-lbd.ensures.only_policy) (record {
      searches = ready.searches;
      room = record {
        policy = c.learn_from-lbd.ensures.variables ∙ ready.room.policy;
        analyzer = ready.room.analyzer;
        few = ready.room.few;
        stamps = ready.room.stamps;
        units = ready.room.units;
      };
      named = ready.named;
    })

-- the additions are as many as before
as_many : (g : Over) (c : After-backtrack g)
    → c.backtrack.new.self.additions ≡ c.args.search.now.additions
as_many g c = ap (λ (x : Search). x.additions) c.backtrack.ensures.moves.engine.rest
    ∙ ap (λ (x : Search). x.additions) c.learn_from-lbd.ensures.only_policy
    ∙ ap (λ (x : Search). x.additions) c.hints_of.ensures.only_stamps

pub add_line-requires-clause-counted : goal.add_line-requires-clause-counted
add_line-requires-clause-counted g c =
    as_many g (goal.at.add_line-requires-clause-counted g c).After-backtrack
    ∙ c.requires.runs.running.recorded.log.counted

pub add_line-requires-clause-few : goal.add_line-requires-clause-few
add_line-requires-clause-few g c =
    subst (λ n. n < LINE_LIMIT)
    (sym (as_many g (goal.at.add_line-requires-clause-few g c).After-backtrack))
    c.requires.runs.few

pub returns-in_err-reference-clause-err : goal.returns-in_err-reference-clause-err
returns-in_err-reference-clause-err g c = when_err _ c.in_err-reference.ensures.err

pub returns-in_err-reference-clause-follows : goal.returns-in_err-reference-clause-follows
returns-in_err-reference-clause-follows g c = c.add_line.ensures.follows

pub returns-clause-follows : goal.returns-clause-follows
returns-clause-follows g c = c.add_line.ensures.follows
