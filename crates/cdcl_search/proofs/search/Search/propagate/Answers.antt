use Rattle.std.proofs.Common.{◌≡◌, false, refl, ap, ◌∙◌}
use Rattle.std.proofs.lemmas.Bool.{false≢true, false_from_ne_true}
use Rattle.propagate.specs.Trail.{literals_of, depth_of}
use Rattle.analyze.proofs.Laws.{depth_follow}
use Rattle.cdcl_search.specs.Running.{tables_of}
use Rattle.cdcl_search.proofs.Moves.{run_propagate}
use Rattle.cdcl_search.proofs.Fixpoint.{searches_propagate}
use Rattle.cdcl_search.proofs.EngineMoves.{ready_moved, runs_moved}
use Rattle.cdcl_search.proofs.search.Search.propagate.Goals as goal

pub returns-in-Ok-clause-runs : goal.returns-in-Ok-clause-runs
returns-in-Ok-clause-runs c p ls r =
    let s = c.args.self.now in
    let f = c.propagate.new.self in
    let works : f.failed ≡ false =
    false_from_ne_true f.failed (λ e. false≢true (c.in-Ok.ensures.fails.1 e)) in
    runs_moved s f s.policy p ls r c.propagate.ensures.variables refl
    (run_propagate s.engine f s.store.slots p.stack (tables_of s) p.frozen.items p.first
    p.given ls r.running c.propagate.ensures.grows c.propagate.ensures.attached
    c.propagate.ensures.variables works c.propagate.ensures.fits)

pub returns-in-Ok-clause-ready : goal.returns-in-Ok-clause-ready
returns-in-Ok-clause-ready c =
    let s = c.args.self.now in
    let f = c.propagate.new.self in
    let works : f.failed ≡ false =
    false_from_ne_true f.failed (λ e. false≢true (c.in-Ok.ensures.fails.1 e)) in
    ready_moved s f s.policy c.requires c.propagate.ensures.variables refl
    (searches_propagate s.store.slots s.engine f c.requires.searches c.propagate.ensures.grows
    c.propagate.ensures.attached c.propagate.ensures.fits works)

pub returns-in-Ok-clause-depth : goal.returns-in-Ok-clause-depth
returns-in-Ok-clause-depth c =
    let e = c.args.self.now.engine in
    let g = c.propagate.ensures.grows in
    ap depth_of g.1 ∙ depth_follow c.args.self.now.store.slots c.propagate.new.self
    (literals_of e.trail) e.trail g.0 g.2
