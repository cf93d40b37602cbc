-- The empty clause follows from the conflict and the unit clauses of level 0.
use Rattle.std.proofs.Common.{◌≡◌, ◌<◌, true, [], ◌∷◌, ◌++◌, refl, sym, ◌∙◌, ap, subst, arith}
use Rattle.std.proofs.lemmas.Result.{on_ok_weaker, on_err_weaker}
use Rattle.std.proofs.lemmas.List.Elements.{All-cons, All-nil}
use Rattle.cnf.specs.Literal.{Literal}
use Rattle.propagate.specs.Trail.{depth_of}
use Rattle.propagate.specs.Watches.{is_attached}
use Rattle.lrat_log.specs.declared.lines.Kind.TheVariants.{Empty}
use Rattle.lrat_log.specs.Log.{LogLine}
use Rattle.cdcl_search.specs.Running.{IsEnded, StaysOpen, Writes}
use Rattle.cdcl_search.proofs.HintNames.{hint_ids}
use Rattle.cdcl_search.proofs.Placing.{adding_line}
use Rattle.cdcl_search.proofs.Written.{writes_short, writes_join, either, refused}
use Rattle.cdcl_search.proofs.EmptyLine.{all_noted, adds_empty, is_ended}
use Rattle.cdcl_search.proofs.noting.write_empty.Goals as goal

pub hints_of-requires-clause-attached : goal.hints_of-requires-clause-attached
hints_of-requires-clause-attached g c =
    let s = c.note_units.new.search in
    let k = c.in_ok-note_units.ensures.notes.leaves.keeps in
    let w = k.false_stays c.args.conflict c.requires.conflict in
    All-cons (λ q. is_attached s.engine q ≡ true) c.args.conflict []
    (k.runs.running.searches.all_attached c.args.conflict (w.0, w.1))
    (All-nil (λ q. is_attached s.engine q ≡ true))

pub hints_of-requires-clause-noted : goal.hints_of-requires-clause-noted
hints_of-requires-clause-noted g c =
    let s = c.note_units.new.search in
    all_noted s c.args.input.now (g.S.Sink.lines c.note_units.new.sink) (c.args.conflict ∷ [])
    c.in_ok-note_units.ensures.notes.leaves.keeps.runs c.in_ok-note_units.ensures.notes.leaves.all

pub append-requires : goal.append-requires
append-requires g c =
    let s = c.note_units.new.search in
    let e = c.in_ok-note_units.ensures.notes.leaves.keeps in
    let w = e.false_stays c.args.conflict c.requires.conflict in
    record {
      line = adding_line Empty [] c.deref.result.now (s.engine).variables refl e.runs.room.few
          (All-nil (λ (l : Literal). 0 < l.variable), omega arith)
          (hint_ids (s.store).slots (s.names).items (s.engine).trail (c.args.conflict ∷ [])
          c.deref.result.now (rw c.deref.ensures.value c.in_ok-hints.ensures.hints)
          e.runs.running.recorded.names.as_many
          e.runs.running.recorded.numbers ((w.0, w.1), tt));
    }

pub returns-in_err-hints-clause-refutes : goal.returns-in_err-hints-clause-refutes
returns-in_err-hints-clause-refutes g c =
    let e = c.in_ok-note_units.ensures.notes in
    refused c.from_residual-in_err-hints.result c.args.input.now
    (g.S.Sink.lines c.args.sink.now) (g.S.Sink.lines c.note_units.new.sink)
    (g.S.Sink.lines c.note_units.new.sink) c.from_residual-in_err-hints.ensures.0
    e.leaves.keeps.runs.running.recorded.log e.writes refl

pub returns-clause-refutes : goal.returns-clause-refutes
returns-clause-refutes g c =
    let s = c.note_units.new.search in
    let p = c.args.input.now in
    let old = g.S.Sink.lines c.args.sink.now in
    let ls = g.S.Sink.lines c.note_units.new.sink in
    let e = c.in_ok-note_units.ensures.notes in
    let k = e.leaves.keeps in
    let adds =
    adds_empty s p ls c.deref.result.now c.args.conflict k.runs (ap depth_of k.trail
    ∙ c.requires.flat) (k.false_stays c.args.conflict c.requires.conflict)
    (rw c.deref.ensures.value c.in_ok-hints.ensures.hints) in
    let l : LogLine = record { kind = Empty; clause = []; hints = c.deref.result.now } in
    let log = k.runs.running.recorded.log in
    record {
      leaves =
          on_ok_weaker c.append.result
          (λ a. subst (IsEnded p) (sym a)
          (is_ended s p ls c.deref.result.now k.runs adds)) c.append.ensures.ok;
      writes =
          either c.append.result c.append.ensures.ok c.append.ensures.err
          (λ a. subst (λ x. Writes p.given old x 0) (sym a)
          (writes_join p.given old ls (ls ++ l ∷ []) 0 0 e.writes
          (writes_short p.given ls l refl (omega arith) refl adds)))
          (λ b. subst (λ x. Writes p.given old x 0) (sym b) e.writes);
      err =
          on_err_weaker c.append.result (λ b. subst (StaysOpen p) (sym b)
          (record { stays = log.stays; unrefuted = log.unrefuted })) c.append.ensures.err;
    }

pub hints_of-requires-clause-ready : goal.hints_of-requires-clause-ready
hints_of-requires-clause-ready g c =
    let runs = c.in_ok-note_units.ensures.notes.leaves.keeps.runs in
    record {
      searches = runs.running.searches;
      room = runs.room;
      named = runs.running.recorded.names.as_many;
    }

pub hints_of-requires-clause-past : goal.hints_of-requires-clause-past
hints_of-requires-clause-past g c = c.in_ok-note_units.ensures.notes.leaves.keeps.runs.past

pub hints_of-requires-clause-few : goal.hints_of-requires-clause-few
hints_of-requires-clause-few g c = c.in_ok-note_units.ensures.notes.leaves.keeps.runs.few
