-- The next literal of level 0 follows from its reason.
use Rattle.std.proofs.Common.{◌≡◌, ◌+◌, ◌-◌, ◌<◌, ◌^◌, List, [], ◌∷◌, ◌++◌, length, get_or, true}
use Rattle.std.proofs.Common.{Some, None, sym, ◌∙◌, ap, subst, arith, refl, set}
use Rattle.std.proofs.lemmas.Option.{none-some}
use Rattle.std.proofs.lemmas.List.Elements.{All-cons, All-nil}
use Rattle.cnf.specs.Literal.{Literal}
use Rattle.clauses.specs.Slots.{clause_at}
use Rattle.propagate.specs.Trail.{Assigned, literals_of, reason_in}
use Rattle.propagate.specs.Watches.{is_attached, IsVariable}
use Rattle.cdcl_search.specs.declared.search.Search.{Search}
use Rattle.cdcl_search.specs.Running.{HasRoom, LogsLine, Writes}
use Rattle.cdcl_search.proofs.HintNames.{hint_ids}
use Rattle.cdcl_search.proofs.Placing.{literal_small}
use Rattle.cdcl_search.proofs.UnitLines.{flat_reason, IsNext, is_next, next_noted, adds_unit}
use Rattle.cdcl_search.proofs.UnitLines.{runs_noted}
use Rattle.analyze.proofs.Laws.{reason_at}
use Rattle.std.proofs.lemmas.List.{get_or-map, get_or_default, length-map}
use Rattle.lrat_log.specs.declared.lines.Kind.TheVariants.{Unit as UnitKind}
use Rattle.lrat_log.specs.Log.{LogLine}
use Rattle.lrat_log.specs.declared.log.TheConstants.{LINE_LIMIT}
use Rattle.lrat_log.proofs.Laws.{when_err}
use Rattle.cdcl_order.specs.Orders.{positive}
use Rattle.cdcl_search.proofs.Written.{writes_short}
use Rattle.cdcl_search.proofs.noting.note_unit.Goals as goal
use Rattle.cdcl_search.proofs.noting.note_unit.Goals.{After-index-trail-search, In-Some}

-- the literal is one of the engine's
named : (g : _) (c : After-index-trail-search g)
    → IsVariable c.args.search.now.engine.variables c.index-trail-search.result
named g c =
    let s = c.args.search.now in
    literal_small s.engine (s.store).slots s.noted c.index-trail-search.result
    c.requires.runs.running.searches.fits c.requires.next
    (c.index-trail-search.is
    ∙ ap (λ x. get_or x s.noted c.index-trail-search.result) c.trail.ensures)

-- it follows from its reason
next : (g : _) (c : In-Some g) → IsNext c.args.search.now.store.slots c.args.search.now.engine.trail
    c.args.search.now.noted c.index-trail-search.result c.in-Some.reason
next g c =
    let s = c.args.search.now in
    is_next (s.store).slots (s.engine).trail s.noted c.index-trail-search.result c.in-Some.reason
    c.requires.runs.running.searches.fits.reasons c.requires.next
    (c.index-trail-search.is
    ∙ ap (λ x. get_or x s.noted c.index-trail-search.result) c.trail.ensures)
    (ap (reason_in (s.engine).trail) (sym c.variable-2.ensures.variable) ∙ sym c.reason.ensures
    ∙ c.in-Some.is)

pub reason-requires : goal.reason-requires
reason-requires g c =
    let s = c.args.search.now in
    let small = named g (goal.at.reason-requires g c).After-index-trail-search in
    let v = c.variable-2.ensures.variable in
    omega (arith, small.1)

pub unreachable-requires : goal.unreachable-requires
unreachable-requires g c =
    let s = c.args.search.now in
    let T = (s.engine).trail in
    let k = c.index-trail-search.result in
    let d : Assigned = record { literal = k; reason = None } in
    let at = c.index-trail-search.is ∙ ap (λ x. get_or x s.noted k) c.trail.ensures in
    let is : k ≡ (get_or T s.noted d).literal =
    at ∙ get_or-map (λ (x : Assigned). x.literal) T s.noted d k c.requires.next in
    let w = flat_reason T s.noted d c.requires.flat c.requires.next in
    let found : reason_in T c.variable-2.result ≡ Some w.0 =
    ap (reason_in T) (c.variable-2.ensures.variable ∙ ap (λ (x : Literal). x.variable) is)
    ∙ reason_at (clause_at (s.store).slots) T s.noted d
    c.requires.runs.running.searches.fits.reasons c.requires.next ∙ w.1 in
    none-some w.0 (sym c.in_default.is ∙ c.reason.ensures ∙ found)

pub hints_of-requires-clause-attached : goal.hints_of-requires-clause-attached
hints_of-requires-clause-attached g c =
    let s = c.args.search.now in
    let r = c.in-Some.reason in
    let n = next g (goal.at.hints_of-requires-clause-attached g c).In-Some in
    All-cons (λ q. is_attached s.engine q ≡ true) r []
    (c.requires.runs.running.searches.all_attached r (n.clause, n.here))
    (All-nil (λ q. is_attached s.engine q ≡ true))

pub hints_of-requires-clause-noted : goal.hints_of-requires-clause-noted
hints_of-requires-clause-noted g c =
    let s = c.args.search.now in
    let r = c.in-Some.reason in
    let n = next g (goal.at.hints_of-requires-clause-noted g c).In-Some in
    next_noted (s.store).slots (s.engine).trail c.index-trail-search.result r (s.units).items
    s.noted c.requires.runs.running.searches.fits.reasons c.requires.flat n
    c.requires.runs.running.units

pub add_line-requires-clause-can : goal.add_line-requires-clause-can
add_line-requires-clause-can g c =
    let s = c.args.search.now in
    let small = named g (goal.at.add_line-requires-clause-can g c).After-index-trail-search in
    let kept : (c.hints_of.new.self.engine).variables ≡ (s.engine).variables =
    ap (λ (x : Search). (x.engine).variables) c.hints_of.ensures.only_stamps in
    record {
      ready = c.hints_of.ensures.ready;
      within = (
        All-cons (λ (l : Literal). 0 < l.variable) c.index-trail-search.result [] small.0
            (All-nil (λ (l : Literal). 0 < l.variable)),
        (let h = small.1 in omega (arith, kept)),
      );
    }

pub add_line-requires-clause-hints : goal.add_line-requires-clause-hints
add_line-requires-clause-hints g c =
    let s = c.args.search.now in
    let r = c.in-Some.reason in
    let n = next g (goal.at.add_line-requires-clause-hints g c).In-Some in
    hint_ids (s.store).slots (s.names).items (s.engine).trail (r ∷ []) c.deref.result.now
    (rw c.deref.ensures.value c.in_ok-hints.ensures.hints)
    c.requires.runs.running.recorded.names.as_many c.requires.runs.running.recorded.numbers
    ((n.clause, n.here), tt)

pub index_mut-requires : goal.index_mut-requires
index_mut-requires g c =
    let s = c.args.search.now in
    let small = named g (goal.at.index_mut-requires g c).After-index-trail-search in
    let same : length (c.add_line.new.self.units).items ≡ length (s.units).items =
    ap (λ v. length v.items) c.in_ok-unit.ensures.added.stored.units
    ∙ ap (λ (x : Search). length (x.units).items) c.hints_of.ensures.only_stamps in
    let room = c.requires.runs.room.units in
    let v = c.variable.ensures.variable in
    let low = small.1 in
    let one = small.0 in
    omega (arith, (c.add_line.new.self.units).ok.0)

pub returns-clause-notes : goal.returns-clause-notes
returns-clause-notes g c =
    let s = c.args.search.now in
    let k = c.index-trail-search.result in
    let T = (s.engine).trail in
    let slots = (s.store).slots in
    let at = c.index-trail-search.is ∙ ap (λ x. get_or x s.noted k) c.trail.ensures in
    let r = c.in-Some.reason in
    let run = c.requires.runs.running in
    let reasons = run.searches.fits.reasons in
    let n = next g (goal.at.returns-clause-notes g c).In-Some in
    let small = named g (goal.at.returns-clause-notes g c).After-index-trail-search in
    let few_k : k.variable < 2 ^ 27 =
    (let a = c.variable.ensures.small in let b = c.variable.ensures.variable in omega arith) in
    let adds =
    adds_unit slots T (s.names).items c.args.input.now.given
    (g.S.Sink.lines c.args.sink.now) c.deref.result.now k s.noted r reasons
    c.requires.flat n run.recorded.names
    (rw c.deref.ensures.value c.in_ok-hints.ensures.hints) few_k in
    let stamped : Search = record s { stamps = (c.hints_of.new.self).stamps } in
    let only : c.hints_of.new.self ≡ stamped = c.hints_of.ensures.only_stamps in
    let room : HasRoom stamped = subst HasRoom only c.hints_of.ensures.ready.room in
    let A : List Literal = literals_of T in
    let first : k ≡ get_or A s.noted (positive 0) =
    at ∙ get_or_default A s.noted k (positive 0)
    (let long : length A ≡ length T = length-map T (λ (x : Assigned). x.literal) in
    omega (arith, c.requires.next)) in
    let ls = g.S.Sink.lines c.args.sink.now in
    let now = g.S.Sink.lines c.add_line.new.sink in
    let l : LogLine =
    record { kind = UnitKind; clause = k ∷ []; hints = c.deref.result.now } in
    let added : LogsLine stamped c.add_line.new.self ls now l =
    subst (λ (x : Search). LogsLine x c.add_line.new.self ls now l) only
    c.in_ok-unit.ensures.added in
    let stored = added.stored in
    record {
      runs =
          runs_noted stamped c.add_line.new.self _ c.args.input.now ls now c.deref.result.now k
          (c.variable.result - 1) c.in_ok-unit.unit run room c.hints_of.ensures.past
          c.requires.flat c.requires.next at adds added
          (ap (λ x. x - 1) c.variable.ensures.variable)
          (c.in_ok-unit.ensures.reference ∙ ap (λ (x : Search). length (x.store).slots) only)
          (record {
            engine = refl;
            slots = refl;
            names = refl;
            units =
                ap (set (c.add_line.new.self.units).items (c.variable.result - 1)) c.new.ensures;
            noted = refl;
            kept = refl;
            additions = refl;
            stamps = refl;
            policy = refl;
            analyzer = refl;
          });
      noted = ap (λ n. n + 1) stored.noted;
      trail = stored.trail;
      variables = stored.variables;
      policy = stored.policy;
      slots = stored.slots ∙ ap (λ x. slots ++ Some (x ∷ []) ∷ []) first;
      writes =
          subst (λ x. Writes c.args.input.now.given ls x 0) (sym added.lines)
          (writes_short c.args.input.now.given ls l refl (omega arith) refl adds);
    }

pub hints_of-requires-clause-ready : goal.hints_of-requires-clause-ready
hints_of-requires-clause-ready g c = record {
  searches = c.requires.runs.running.searches;
  room = c.requires.runs.room;
  named = c.requires.runs.running.recorded.names.as_many;
}

pub hints_of-requires-clause-past : goal.hints_of-requires-clause-past
hints_of-requires-clause-past g c = c.requires.runs.past

pub hints_of-requires-clause-few : goal.hints_of-requires-clause-few
hints_of-requires-clause-few g c = c.requires.runs.few

pub returns-in_err-hints-clause-err : goal.returns-in_err-hints-clause-err
returns-in_err-hints-clause-err g c = when_err _ refl

pub add_line-requires-clause-counted : goal.add_line-requires-clause-counted
add_line-requires-clause-counted g c =
    ap (λ (x : Search). x.additions) c.hints_of.ensures.only_stamps
    ∙ c.requires.runs.running.recorded.log.counted

pub add_line-requires-clause-few : goal.add_line-requires-clause-few
add_line-requires-clause-few g c =
    subst (λ (x : Search). x.additions < LINE_LIMIT) (sym c.hints_of.ensures.only_stamps)
    c.requires.runs.few

pub returns-in_err-unit-clause-err : goal.returns-in_err-unit-clause-err
returns-in_err-unit-clause-err g c = when_err _ c.in_err-unit.ensures.err

pub returns-in_err-unit-clause-follows : goal.returns-in_err-unit-clause-follows
returns-in_err-unit-clause-follows g c = c.add_line.ensures.follows

pub returns-clause-follows : goal.returns-clause-follows
returns-clause-follows g c = c.add_line.ensures.follows

pub overflow_add-search : goal.overflow_add-search
overflow_add-search g c =
    let s = c.args.search.now in
    let same : c.add_line.new.self.noted ≡ s.noted = c.in_ok-unit.ensures.added.stored.noted
    ∙ ap (λ (x : Search). x.noted) c.hints_of.ensures.only_stamps in
    let long : length c.trail.result.now ≡ length s.engine.trail = ap length c.trail.ensures
    ∙ length-map s.engine.trail (λ (a : Assigned). a.literal) in
    let fits = c.trail.type_inv in
    let next = c.requires.next in
    omega arith
