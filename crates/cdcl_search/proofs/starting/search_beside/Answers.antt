use Rattle.std.proofs.Common.{◌≡◌, ℕ, ◌<◌, ◌≤◌, ◌^◌, List, length, replicate, refl, sym, ◌∙◌, ap}
use Rattle.std.proofs.Common.{subst, arith, rules}
use Rattle.std.specs.Prelude.{All}
use Rattle.std.proofs.lemmas.List.{length-replicate}
use Rattle.std.proofs.lemmas.List.Elements.{All-replicate}
use Rattle.std.proofs.lemmas.List.FromFn.{length-enumerate_from}
use Rattle.cnf.specs.Lrat.{IsId}
use Rattle.clauses.specs.Slots.{Slots}
use Rattle.lrat_log.specs.declared.lines.Name.{Name}
use Rattle.lrat_log.specs.Log.{number_in}
use Rattle.cdcl_search.specs.Invariant.{name_at}
use Rattle.cdcl_search.specs.Starts.{AreWithin, IsLiveWithin}
use Rattle.cdcl_search.proofs.Places.{live_within}
use Rattle.cdcl_search.proofs.Started.{listed_names, listed_numbers, listed_within}
use Rattle.cdcl_search.proofs.starting.search_beside.Goals as goal
use Rattle.cdcl_search.proofs.starting.search_beside.Goals.{After-take_names-names}

-- the names are as many as the places
long : (c : After-take_names-names)
    → length c.take_names-names.result.items ≡ length c.args.store.now.slots
long c = sym (length-enumerate_from 0 c.take_names-names.result.items)
    ∙ ap length c.take_names-names.ensures.taken ∙ c.requires.long

pub engine_of-requires : goal.engine_of-requires
engine_of-requires c =
    let names : List Name = c.take_names-names.result.items in
    let slots : Slots = c.args.store.now.slots in
    subst (AreWithin slots) (sym c.vars-variables.ensures)
    (listed_within names slots c.args.stack.now.variables
    (long (goal.at.engine_of-requires c).After-take_names-names)
    (subst (All (λ (n : ℕ × Name). IsLiveWithin slots c.args.stack.now.variables n.0))
    (sym c.take_names-names.ensures.taken) c.requires.live))

pub returns-clause-started : goal.returns-clause-started
returns-clause-started c =
    let e = c.in-Ok.ensures in
    let names : List Name = c.take_names-names.result.items in
    let taken = c.take_names-names.ensures.taken in
    let many = e.variables_are in
    let stamps : (c.in_ok-stamps.stamps).items ≡ replicate c.vars-variables.result 0 =
    search rules in
    let units : (c.in_ok-units.units).items ≡ replicate c.vars-variables.result c.new.result =
    search rules in
    record {
      slots_are = refl;
      trail = e.trail;
      variables = many ∙ c.vars-variables.ensures;
      works = e.works;
      fits = e.fits;
      attached = λ i d lt. let w = c.requires.live i d lt in
          e.attached _ (live_within _ _ w.clause w.live) (w.clause, w.live);
      long = long (goal.at.returns-clause-started c).After-take_names-names;
      named = subst (All (λ (n : ℕ × Name). name_at names n.0 ≡ n.1)) taken (listed_names names);
      numbers = listed_numbers names
          (subst (All (λ (n : ℕ × Name). IsId (number_in n.1))) (sym taken) c.requires.numbers);
      units = units ∙ (λ i. replicate (c.vars-variables.ensures i) (c.new.ensures i));
      noted = refl;
      kept = refl;
      counted = refl;
      room = record {
        policy = ap (λ o. o.variables) c.in_ok-policy.ensures.policy ∙ sym many;
        analyzer = (let room = c.in_ok-policy.ensures.analyzer in omega arith);
        few = subst (λ n. n < 2 ^ 27) (sym (many ∙ c.vars-variables.ensures)) c.requires.few;
        stamps = ap length stamps ∙ length-replicate c.vars-variables.result 0 ∙ sym many;
        units = ap length units ∙ length-replicate c.vars-variables.result c.new.result ∙ sym many;
      };
      past =
          subst (All (λ n. n ≤ c.args.additions)) (sym stamps)
          (All-replicate (λ n. n ≤ c.args.additions) c.vars-variables.result 0 (omega arith));
    }
