use Rattle.std.proofs.Common.{refl}
use Rattle.cdcl_search.specs.Running.{tables_of}
use Rattle.cdcl_search.proofs.Moves.{run_decide}
use Rattle.cdcl_search.proofs.Fixpoint.{searches_decide}
use Rattle.cdcl_search.proofs.EngineMoves.{ready_moved, runs_moved}
use Rattle.cdcl_search.proofs.search.Search.decide.Goals as goal

pub returns : goal.returns
returns c =
    let s = c.args.self.now in
    let f = c.decide.new.self in
    let d = c.decide.ensures in
    let can = c.requires.can in
    let fits = d.fits s.store.slots can.ready.searches.fits in
    record {
      runs = λ p ls r. runs_moved s f s.policy p ls r d.frame.0 refl
          (run_decide s.engine f s.store.slots p.stack (tables_of s) p.frozen.items p.first p.given
          ls c.args.lit r.running can.fixpoint can.noted d.trail d.attached d.frame fits);
      ready = ready_moved s f s.policy can.ready d.frame.0 refl
          (searches_decide s.store.slots s.engine f c.args.lit can.ready.searches can.fixpoint
          d.trail d.attached d.frame.1 fits);
      trail = d.trail;
      engine = record { variables = d.frame.0; rest = refl };
    }
