-- Before the first line.
use Rattle.std.proofs.Common.{ℕ, pos, ◌+◌, false, List, [], Option, None, Bool, sym, ◌∙◌, ap, arith}
use Rattle.std.proofs.lemmas.Int.{ints}
use Rattle.std.proofs.lemmas.List.{length-replicate}
use Rattle.cnf.specs.Literal.{Literal}
use Rattle.cnf.specs.Problem.{Problem}
use Rattle.cnf.specs.Instance.{IsInstance}
use Rattle.cnf.specs.declared.limits.TheConstants.{NUMBER_LIMIT}
use Rattle.adder.specs.declared.profiles.Profile.TheVariants.{Two}
use Rattle.adder.specs.Network.{relaxed_variables}
use Rattle.linear.specs.Costs.{form_of, zero_below}
use Rattle.linear.proofs.Laws.{agrees_none, value_cost, value_zero, weights_width}
use Rattle.bound.specs.Weighted.{weighted_cnf, weights_of}
use Rattle.bound.proofs.Laws.{weighted_below, weighted_choice, weighted_cost, weighted_hold}
use Rattle.forms.specs.Forms.{forms_of}
use Rattle.lrat_cuts.specs.Cuts.{CutsState, cuts_start}
use Rattle.lrat_cuts.proofs.LawMeaning.{FormHolds}
use Rattle.lrat_cuts.proofs.LawState.{IsSound, put_all_sound}

module _ (p : Problem) (i : IsInstance p) where
  abbrev last : ℕ
  last = relaxed_variables Two p

  abbrev weights : List (ℕ × Literal)
  weights = weights_of p

  start_holds : (k : ℕ) → FormHolds p k last (form_of (last + 1) weights) []
  start_holds k =
      let nothing : Option Bool = None in
      let places = length-replicate (last + 1) nothing in
      let zeros = length-replicate (last + 1) (pos 0) in
      record {
        choice = λ u. let c = weighted_choice p i u in
            (c.0, c.1, record { relaxed = c.2; counts = tt });
        relaxed = omega arith;
        wide = record {
          cost = weights_width weights (zero_below (last + 1)) ∙ zeros ∙ sym places;
          added = zeros ∙ sym places;
        };
        width = omega (arith, places);
        items = tt;
        cost = λ t tight. value_cost (last + 1) weights t (weighted_below p i)
            ∙ ap pos (weighted_cost p t tight);
        fixed = λ t c. agrees_none (last + 1) t;
        groups = λ t c. tt;
        facts = λ t c. let z = value_zero (last + 1) t in omega (arith, ints, z);
      }

  abbrev blank : CutsState
  blank = record {
    live = [];
    last = 0;
    forms = forms_of last weights;
    ended = false;
    worth = NUMBER_LIMIT;
    proved = 0;
  }

  blank_sound : IsSound p blank
  blank_sound = record {
    forms = start_holds NUMBER_LIMIT;
    live = λ t c. tt;
    proved = λ u feasible. omega arith;
  }

  pub start_sound : IsSound p (cuts_start p)
  start_sound =
      let s = put_all_sound p i (weighted_cnf p).clauses blank blank_sound
      (λ t c. weighted_hold p t c.feasible (c.meant).relaxed) in
      record { forms = s.forms; live = s.live; proved = λ u feasible. omega arith }
