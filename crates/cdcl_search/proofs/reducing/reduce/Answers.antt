use Rattle.std.proofs.Common.{refl, sym, ◌∙◌, ap, subst}
use Rattle.cdcl_search.specs.declared.search.Search.{Search}
use Rattle.cdcl_search.specs.Parts.{Reduces}
use Rattle.cdcl_search.proofs.EngineMoves.{runs_chosen}
use Rattle.cdcl_search.proofs.Written.{writes_none, refused_at_once}
use Rattle.cdcl_search.proofs.reducing.reduce.Goals as goal
use Rattle.cdcl_search.proofs.reducing.reduce.Goals.{then-is_sparse+in_ok-compact, else-is_sparse}

pub returns-then-not-is_deletion_due-clause-reduces
    : goal.returns-then-not-is_deletion_due-clause-reduces
returns-then-not-is_deletion_due-clause-reduces g c = record {
  leaves = record { runs = c.requires.runs; long = refl; variables = refl; policy = refl };
  writes = writes_none c.args.input.now.given (g.S.Sink.lines c.args.sink.now);
  err = tt;
}

pub returns-in_err-candidates-clause-reduces : goal.returns-in_err-candidates-clause-reduces
returns-in_err-candidates-clause-reduces g c =
    refused_at_once c.from_residual.result c.args.input.now (g.S.Sink.lines c.args.sink.now)
    c.from_residual.ensures.0 c.requires.runs.running.recorded.log

pub returns-in_err-chosen-clause-reduces : goal.returns-in_err-chosen-clause-reduces
returns-in_err-chosen-clause-reduces g c =
    refused_at_once c.from_residual-in_err-chosen.result c.args.input.now
    (g.S.Sink.lines c.args.sink.now) c.from_residual-in_err-chosen.ensures.0
    c.requires.runs.running.recorded.log

pub delete_all-requires : goal.delete_all-requires
delete_all-requires g c = record {
  runs = runs_chosen c.args.search.now c.choose.new.self c.args.input.now
      (g.S.Sink.lines c.args.sink.now) (ap (λ x. x.variables) c.choose.ensures.same_view)
      c.requires.runs;
}

pub returns-clause-reduces : goal.returns-clause-reduces
returns-clause-reduces g c =
    let p = c.args.input.now in
    let ls = g.S.Sink.lines c.delete_all.new.sink in
    let d = c.in_ok-delete_all.ensures.reduces in
    let r = d.leaves in
    let Leaves : Search → Type 0 = λ s. Reduces c.args.search.now s p ls in
    let policy = r.policy ∙ c.choose.ensures.same_view in
    record {
      leaves = elim c.if-is_sparse.branch [
        | then-is_sparse+in_ok-compact w ↦
            (let m = w.in_ok-compact.ensures in
            subst Leaves (sym w.search-is) (record {
              runs = m.runs p ls r.runs;
              long = m.long ∙ r.long;
              variables = m.variables ∙ r.variables;
              policy = m.policy ∙ policy;
            }))
        | else-is_sparse w ↦ subst Leaves (sym w.search-is) (record {
          runs = r.runs;
          long = r.long;
          variables = r.variables;
          policy = policy;
        })
      ];
      writes = d.writes;
      err = tt;
    }
