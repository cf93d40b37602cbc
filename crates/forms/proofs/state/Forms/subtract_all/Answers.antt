use Rattle.std.proofs.Common.{◌≡◌, ◌+◌, ◌∷◌, ◌∙◌, sym, ap, drop, get_or, subst}
use Rattle.std.proofs.lemmas.List.{at_drop_more}
use Rattle.forms.specs.Forms.{less_fact, less_facts}
use Rattle.forms.specs.Answers.{HasFactRoom}
use Rattle.forms.proofs.FactSizes.{no_fact}
use Rattle.forms.proofs.FormLines.{room_first}
use Rattle.forms.proofs.state.Forms.subtract_all.Goals as goal

pub loop-fact-preserved : goal.loop-fact-preserved
loop-fact-preserved g c =
    let at = g.T.ClauseTable.at c.args.table.now in
    let fs = c.args.facts.now in
    let i = c.loop-fact.fact-index in
    let s = c.loop-fact.self in
    let f = get_or fs i no_fact in
    let rest = drop (i + 1) fs in
    let e : drop i fs ≡ f ∷ rest = at_drop_more (λ x. x) fs i no_fact c.loop-fact-test.true in
    let now : c.subtract.new.self ≡ less_fact at s f = c.in_ok-subtract.ensures in
    let room = (room_first at s f rest (subst (HasFactRoom at s) e c.loop-fact.invariant.room)).1 in
    record {
      whole =
          ap (λ x. less_facts at x rest) now ∙ ap (less_facts at s) (sym e)
          ∙ c.loop-fact.invariant.whole;
      room = subst (λ x. HasFactRoom at x rest) (sym now) room;
    }
