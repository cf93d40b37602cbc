use Rattle.std.proofs.Common.{◌≡◌, ◌<◌, length, sym, ap, subst, ◌∙◌, arith}
use Rattle.analyze.proofs.analyzer.Analyzer.analyze_final.Goals as goal

pub learn_final-learned-requires-clause-unmarked : goal.learn_final-learned-requires-clause-unmarked
learn_final-learned-requires-clause-unmarked c =
    let spare = c.self.invariant.spare in
    let same = c.clear.ensures.capacity in
    record {
      room = subst (λ n. c.args.engine.now.variables < n) (sym c.self.view_is) c.requires.room;
      clear = c.self.invariant.clear;
      none = c.clear.ensures.items;
      spare = omega arith;
    }

pub clear-requires-2-clause-small : goal.clear-requires-2-clause-small
clear-requires-2-clause-small c = λ k d lt.
    let s = c.requires.fits.small k d lt in
    let high = s.1 in
    let room = c.requires.room in
    let is : length c.self.inside.marking.marks.items ≡ c.args.self.now = c.self.view_is in
    let same : length c.deref_mut.result.now ≡ length c.self.inside.marking.marks.items =
    ap length c.deref_mut.ensures.value ∙ c.learn_final-learned.ensures.lists.long in
    (s.0, omega arith)

pub clear-requires-2-clause-listed : goal.clear-requires-2-clause-listed
clear-requires-2-clause-listed c =
    rw (c.deref_mut.ensures.value, c.deref_mut-2.ensures.value)
    c.learn_final-learned.ensures.lists.listed

pub returns-clause-learns : goal.returns-clause-learns
returns-clause-learns c = c.learn_final-learned.ensures.learns
