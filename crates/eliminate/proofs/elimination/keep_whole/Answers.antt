-- A formula that is left as it is.
use Rattle.std.proofs.Common.{◌≡◌, ◌∙◌, [], refl, sym, ap, subst}
use Rattle.std.specs.Prelude.{All}
use Rattle.cnf.specs.Lrat.{IsId}
use Rattle.clauses.specs.Slots.{Slots, live_clauses}
use Rattle.lrat_log.specs.Log.{number_in}
use Rattle.lrat_log.specs.Steps.{given_of, log_live}
use Rattle.eliminate_names.specs.Work.{NamesState, formula_names, IsNamed}
use Rattle.eliminate.proofs.Listed.{together_holds}
use Rattle.eliminate.proofs.Starting.{named_start}
use Rattle.eliminate.proofs.elimination.keep_whole.Goals as goal
use Rattle.eliminate.proofs.elimination.keep_whole.Goals.{In_ok-names}

-- each clause has its number as its name
named : (c : In_ok-names)
    → IsNamed (given_of (live_clauses c.args.store.now.slots)) c.args.store.now.slots
    c.in_ok-names.names.names []
named c =
    let slots : Slots = c.args.store.now.slots in
    let same : c.in_ok-names.names.names ≡ formula_names 1 slots =
    ap (λ (n : NamesState). n.names) c.in_ok-names.ensures.named in
    subst (λ names. IsNamed (given_of (live_clauses slots)) slots names []) (sym same)
    (named_start slots (subst (All (λ k. IsId (number_in k))) same
    c.in_ok-names.ensures.numbers))

pub move_together-requires : goal.move_together-requires
move_together-requires c = (named (goal.at.move_together-requires c).In_ok-names).long

pub returns : goal.returns
returns c =
    let slots : Slots = c.args.store.now.slots in
    let names = named (goal.at.returns c).In_ok-names in
    rw (c.new-2.ensures, c.new.ensures)
    record {
      together = c.move_together.ensures.slots;
      live =
          λ base above. together_holds slots c.move_together.new.store.slots
          c.in_ok-names.names.names c.in_ok-packed.packed.items base _
          (log_live (given_of (live_clauses slots)) base []) names.numbers names.long
          c.move_together.ensures.slots
          (c.in_ok-packed.ensures ∙ ap (λ (n : NamesState). n.names) c.move_together.ensures.names)
          (names.live base above);
      variables_are = refl;
      none_removed = refl;
    }
