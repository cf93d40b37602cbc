use Rattle.std.proofs.Common.{◌≡◌, ◌<◌, length, sym, ap, subst, ◌∙◌, arith, rules}
use Rattle.std.specs.Prelude.{All}
use Rattle.std.specs.Vec.{with_items}
use Rattle.std.proofs.lemmas.List.{with_items_is}
use Rattle.std.proofs.lemmas.Result.{IfOk-weaker}
use Rattle.analyze.specs.Analyzer.{Learns}
use Rattle.analyze.specs.Marks.{IsClear}
use Rattle.analyze.specs.Met.{AreVariables}
use Rattle.analyze.proofs.analyzer.Analyzer.analyze.Goals as goal

pub learn-learned-requires-clause-can : goal.learn-learned-requires-clause-can
learn-learned-requires-clause-can c = record {
  fits = c.requires.fits;
  live = c.requires.live;
  falsified = c.requires.falsified;
  deep = c.requires.deep;
}

pub learn-learned-requires-clause-unmarked : goal.learn-learned-requires-clause-unmarked
learn-learned-requires-clause-unmarked c =
    let spare = c.self.invariant.spare in
    let same = c.clear.ensures.capacity in
    record {
      room = subst (λ n. c.args.engine.now.variables < n) (sym c.self.view_is) c.requires.room;
      clear = c.self.invariant.clear;
      none = c.clear.ensures.items;
      spare = omega arith;
    }

pub clear-requires-2-clause-small : goal.clear-requires-2-clause-small
clear-requires-2-clause-small c = λ k d lt.
    let s = c.requires.fits.small k d lt in
    let high = s.1 in
    let room = c.requires.room in
    let is : length c.self.inside.marking.marks.items ≡ c.args.self.now = c.self.view_is in
    let same : length c.deref_mut.result.now ≡ length c.self.inside.marking.marks.items =
    ap length c.deref_mut.ensures.value ∙ c.learn-learned.ensures.lists.long in
    (s.0, omega arith)

pub clear-requires-2-clause-listed : goal.clear-requires-2-clause-listed
clear-requires-2-clause-listed c =
    rw (c.deref_mut.ensures.value, c.deref_mut-2.ensures.value)
    c.learn-learned.ensures.lists.listed

pub returns-clause-asserting : goal.returns-clause-asserting
returns-clause-asserting c = IfOk-weaker c.learn-learned.result
    (Learns c.args.store.now.slots c.args.engine.now.trail c.args.conflict) _
    (λ learned h. h.asserting) c.learn-learned.ensures.learns

pub returns-clause-hints : goal.returns-clause-hints
returns-clause-hints c = IfOk-weaker c.learn-learned.result
    (Learns c.args.store.now.slots c.args.engine.now.trail c.args.conflict) _
    (λ learned h. h.hints) c.learn-learned.ensures.learns

pub returns-clause-order : goal.returns-clause-order
returns-clause-order c = IfOk-weaker c.learn-learned.result
    (Learns c.args.store.now.slots c.args.engine.now.trail c.args.conflict) _
    (λ learned h. h.order) c.learn-learned.ensures.learns

pub invariant_of-self : goal.invariant_of-self
invariant_of-self c =
    let old = c.learn-learned.new.marking in
    let lists = c.learn-learned.ensures.lists in
    let left = (with_items old.marks c.clear-2.new.marks).items in
    let marks : left ≡ c.clear-2.new.marks =
    with_items_is old.marks c.clear-2.new.marks
    (omega (arith, c.clear-2.ensures.long, c.deref_mut.ensures.len)) in
    let long : length left ≡ length c.deref_mut.result.now =
    ap length marks ∙ c.clear-2.ensures.long in
    let same : length left ≡ length old.marks.items = long ∙ ap length c.deref_mut.ensures.value in
    let kept : length c.clear-2.new.met ≡ length c.deref_mut-2.result.now = search rules in
    let met =
    with_items_is old.met c.clear-2.new.met (omega (arith, kept, c.deref_mut-2.ensures.len)) in
    record {
      clear = subst IsClear (sym marks) c.clear-2.ensures.clear;
      spare = omega (arith, same, lists.long, lists.spare);
      named =
          subst (AreVariables left) (sym met)
          (subst (λ n. All (λ v. (0 < v) × (v < n)) c.clear-2.new.met) (sym long)
          c.clear-2.ensures.named);
      beside =
          subst (λ n. All (λ v. (0 < v) × (v < n)) old.list.items) (sym same)
          c.learn-learned.ensures.beside;
    }
