-- Each place in turn has its name.
use Rattle.std.proofs.Common.{◌≡◌, ◌+◌, ◌∷◌, ◌++◌, [], List, sym, ◌∙◌, ap, subst, arith}
use Rattle.std.specs.Prelude.{All}
use Rattle.std.proofs.lemmas.List.Elements.{All-push}
use Rattle.cnf.specs.Lrat.{IsId}
use Rattle.clauses.specs.Slots.{Slots, clause_at}
use Rattle.lrat_log.specs.Log.{number_in}
use Rattle.lrat_log.specs.declared.lines.Name.{Name}
use Rattle.lrat_log.specs.declared.lines.Name.TheVariants.{Formula}
use Rattle.eliminate_names.specs.Work.{formula_names}
use Rattle.eliminate_names.proofs.Named.{names_some, names_none, names_pushed}
use Rattle.eliminate_names.proofs.names.Names.of.Goals as goal
use Rattle.eliminate_names.proofs.names.Names.of.Goals.{in-Some, in-None}

pub loop-place-preserved : goal.loop-place-preserved
loop-place-preserved c =
    let slots : Slots = c.args.store.now.slots in
    let items : List Name = c.loop-place.names in
    let n = c.loop-place.number in
    let i = c.loop-place.place in
    let pushed : c.push.new.self ≡ items ++ Formula n ∷ [] = c.in_ok-push.ensures.ok
    ∙ ap (λ k. items ++ Formula k ∷ []) c.new.ensures in
    let all : All (λ k. IsId (number_in k)) c.push.new.self =
    subst (All (λ k. IsId (number_in k))) (sym pushed)
    (All-push (λ k. IsId (number_in k)) items (Formula n) c.loop-place.invariant.numbers
    (c.loop-place.invariant.from_one, omega arith)) in
    elim c.match-live_at.branch [
      | in-Some w ↦
          let at = w.in-Some.ensures.live in
          let more : c.match-live_at.number ≡ n + 1 = w.number-is in
          let there = ap (clause_at slots) (sym at.0) ∙ at.1.1 in
          record {
            from_one = omega arith;
            few = (let f = c.loop-place.invariant.few in omega arith);
            numbers = all;
            named =
                rw more (names_pushed items c.push.new.self (formula_names 1 slots) n
                (n + 1) i slots pushed (names_some n i slots at.1.0 there)
                c.loop-place.invariant.named);
          }
      | in-None w ↦
          let same : c.match-live_at.number ≡ n = w.number-is in
          record {
            from_one = (let f = c.loop-place.invariant.from_one in omega arith);
            few = (let f = c.loop-place.invariant.few in omega arith);
            numbers = all;
            named =
                rw same (names_pushed items c.push.new.self (formula_names 1 slots)
                n n i slots
                pushed (names_none n i slots (omega arith) (c.live_at.ensures.none w.in-None.is))
                c.loop-place.invariant.named);
          }
    ]
