use Rattle.std.proofs.Common.{◌≤◌, sym, ap, subst}
use Rattle.std.specs.Prelude.{All}
use Rattle.cnf.specs.Literal.{Literal}
use Rattle.propagate.specs.Trail.{literals_of}
use Rattle.cdcl_order.specs.Policies.{PolicyState}
use Rattle.cdcl_search.specs.Running.{tables_of}
use Rattle.cdcl_search.proofs.Moves.{run_backtrack}
use Rattle.cdcl_search.proofs.Fixpoint.{searches_backtrack}
use Rattle.cdcl_search.proofs.EngineMoves.{moved_to, ready_moved, runs_moved, literals_within}
use Rattle.cdcl_search.proofs.search.Search.backtrack.Goals as goal

pub put_back-requires-clause-within : goal.put_back-requires-clause-within
put_back-requires-clause-within c =
    let s = c.args.self.now in
    subst (λ n. All (λ (l : Literal). l.variable ≤ n) (literals_of s.engine.trail))
    (sym c.requires.ready.room.policy)
    (literals_within s.engine.trail s.engine.variables c.requires.ready.searches.fits.small)

pub returns-clause-state : goal.returns-clause-state
returns-clause-state c p ls r =
    let s = c.args.self.now in
    let b = c.backtrack.ensures in
    run_backtrack s.engine c.backtrack.new.self s.store.slots p.stack (tables_of s) p.frozen.items
    p.first p.given ls c.args.level r c.requires.level b.trail b.attached b.frame
    (b.fits s.store.slots c.requires.ready.searches.fits)

pub returns-clause-moves : goal.returns-clause-moves
returns-clause-moves c =
    let s = c.args.self.now in
    let f = c.backtrack.new.self in
    let o = c.put_back.new.policy in
    let b = c.backtrack.ensures in
    let same = c.put_back.ensures.same_view in
    let many = ap (λ (x : PolicyState). x.variables) same in
    let fits = b.fits s.store.slots c.requires.ready.searches.fits in
    record {
      runs = λ p ls r. runs_moved s f o p ls r b.frame.0 many
          (run_backtrack s.engine f s.store.slots p.stack (tables_of s) p.frozen.items p.first
          p.given ls c.args.level r.running c.requires.level b.trail b.attached b.frame fits);
      ready = ready_moved s f o c.requires.ready b.frame.0 many
          (searches_backtrack s.store.slots s.engine f c.args.level c.requires.ready.searches
          c.requires.level b.trail b.attached b.frame.1 fits);
      trail = b.trail;
      engine = record {
        variables = b.frame.0;
        rest = ap (λ (x : PolicyState). moved_to s f x) same;
      };
    }
