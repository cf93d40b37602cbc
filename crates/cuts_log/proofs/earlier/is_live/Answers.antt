-- The clause that is found is the one at the place, or another; or there is none.
use Rattle.std.proofs.Common.{◌≡◌, Some, sym, ◌∙◌, ap, rules}
use Rattle.std.specs.Option.{option_copied}
use Rattle.std.proofs.lemmas.Bool.{false≢true}
use Rattle.std.proofs.lemmas.Slice.Eq.{slice_eq-Decides}
use Rattle.cuts_log.proofs.earlier.is_live.Goals as goal

pub returns-in-Some-clause-yes : goal.returns-in-Some-clause-yes
returns-in-Some-clause-yes c = λ yes.
    let same = (slice_eq-Decides (λ a b. search rules) c.in-Some.found.now c.get.result.now _
    c.eq.ensures).0 yes in
    sym c.find.ensures ∙ ap option_copied c.in-Some.is ∙ ap Some same ∙ sym c.get.ensures

pub returns-in-Some-clause-no : goal.returns-in-Some-clause-no
returns-in-Some-clause-no c = λ no here.
    let found : Some c.in-Some.found.now ≡ Some c.get.result.now =
    sym (ap option_copied c.in-Some.is) ∙ c.find.ensures ∙ here ∙ c.get.ensures in
    let yes = (slice_eq-Decides (λ a b. search rules) c.in-Some.found.now c.get.result.now _
    c.eq.ensures).1 (some_same _ _ found) in
    false≢true (sym no ∙ yes)
  where
    some_same : {X : Type 0} (a b : X) → Some a ≡ Some b → a ≡ b
    some_same a b e = cc
