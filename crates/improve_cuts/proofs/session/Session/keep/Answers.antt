-- A cheaper solution is kept, or could not be told.
use Rattle.std.proofs.Common.{refl, ap, arith}
use Rattle.cnf.proofs.Laws.{on_ok_at, on_err_at}
use Rattle.cuts_log.specs.Logs.{start_of}
use Rattle.cuts_solver.specs.Solving.{instance_of}
use Rattle.improve_cuts.proofs.Comes.{fails_to_tell, first_failed, first_kept, keeps_it, leads_on}
use Rattle.improve_cuts.proofs.session.Session.keep.Goals as goal

pub returns-then-is_err-clause-follows : goal.returns-then-is_err-clause-follows
returns-then-is_err-clause-follows g c =
    let paid = c.count_answer.ensures in
    let waived = ap (λ b. b.waived) paid in
    let telling = on_err_at c.tell.result c.if-is_err.ensures.value c.tell.ensures.err in
    λ first f. (
      f.0,
      f.1,
      f.2,
      f.3,
      f.4,
      f.5,
      λ start h. c.tell.ensures.follows start (f.6 start h),
      leads_on _ _ _ _ _ f.5 f.7 (fails_to_tell c.args.self.now.instance.now _ _ c.args.solution
          (record {
            meets = record {
              solution = c.requires.solution;
              cheaper = c.requires.cheaper;
              worked = c.requires.works;
              seen = c.tell.ensures.shown;
              search = record {
                origin = record { instance = refl; start = refl; origin = refl };
                held = omega arith;
                limit = ap (λ b. b.limit) paid;
                waives = omega (arith, waived, c.tell.ensures.same_waived);
              };
            };
            telling = telling;
            fault = refl;
          })),
    )

pub returns-then-is_err-clause-first : goal.returns-then-is_err-clause-first
returns-then-is_err-clause-first g c =
    let paid = c.count_answer.ensures in
    let waived = ap (λ b. b.waived) paid in
    let telling = on_err_at c.tell.result c.if-is_err.ensures.value c.tell.ensures.err in
    λ none le. first_failed c.args.self.now.instance.now _ _ c.args.solution none le
    (record {
      meets = record {
        solution = c.requires.solution;
        cheaper = c.requires.cheaper;
        worked = c.requires.works;
        seen = c.tell.ensures.shown;
        search = record {
          origin = record { instance = refl; start = refl; origin = refl };
          held = omega arith;
          limit = ap (λ b. b.limit) paid;
          waives = omega (arith, waived, c.tell.ensures.same_waived);
        };
      };
      telling = telling;
      fault = refl;
    })

pub returns-clause-follows : goal.returns-clause-follows
returns-clause-follows g c =
    let paid = c.count_answer.ensures in
    let waived = ap (λ b. b.waived) paid in
    let cuts = c.set_cost.ensures in
    let telling = on_ok_at c.tell.result c.if-is_err.ensures.value c.tell.ensures.ok in
    λ first f. (
      f.0,
      f.1,
      f.2,
      f.3,
      f.4,
      f.5,
      λ start h. c.tell.ensures.follows start (f.6 start h),
      leads_on _ _ _ _ _ f.5 f.7 (keeps_it c.args.self.now.instance.now _ _ c.args.solution
          (record {
            meets = record {
              solution = c.requires.solution;
              cheaper = c.requires.cheaper;
              worked = c.requires.works;
              seen = c.tell.ensures.shown;
              search = record {
                origin = record {
                  instance = ap instance_of cuts;
                  start = ap (λ s. start_of s.log) cuts;
                  origin = ap (λ s. (((s.log).book).seen).origin) cuts;
                };
                held = omega (arith, ap (λ s. (s.log).cost) cuts);
                limit = ap (λ b. b.limit) paid;
                waives = omega (arith, waived, c.tell.ensures.same_waived);
              };
            };
            telling = telling;
            answers = ap (λ b. b.answers) paid;
            best = refl;
            cuts = ap (λ s. (s.log).cost) cuts;
            fault = c.requires.works;
          })),
    )

pub returns-clause-first : goal.returns-clause-first
returns-clause-first g c =
    let paid = c.count_answer.ensures in
    let waived = ap (λ b. b.waived) paid in
    let cuts = c.set_cost.ensures in
    let telling = on_ok_at c.tell.result c.if-is_err.ensures.value c.tell.ensures.ok in
    λ none le. first_kept c.args.self.now.instance.now _ _ c.args.solution none le
    (record {
      meets = record {
        solution = c.requires.solution;
        cheaper = c.requires.cheaper;
        worked = c.requires.works;
        seen = c.tell.ensures.shown;
        search = record {
          origin = record {
            instance = ap instance_of cuts;
            start = ap (λ s. start_of s.log) cuts;
            origin = ap (λ s. (((s.log).book).seen).origin) cuts;
          };
          held = omega (arith, ap (λ s. (s.log).cost) cuts);
          limit = ap (λ b. b.limit) paid;
          waives = omega (arith, waived, c.tell.ensures.same_waived);
        };
      };
      telling = telling;
      answers = ap (λ b. b.answers) paid;
      best = refl;
      cuts = ap (λ s. (s.log).cost) cuts;
      fault = c.requires.works;
    })
