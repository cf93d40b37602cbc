-- What the profile's checker says.
use Rattle.std.proofs.Common.{◌≡◌, IfOk, subst}
use Rattle.lrat_check.specs.declared.verdicts.Verdict.TheVariants.{Yes}
use Rattle.lrat_check.specs.Checks.{IsTrueResult}
use Rattle.wmax_commands.proofs.checking.check_as.Goals as goal
use Rattle.wmax_commands.proofs.checking.check_as.Goals.{in-Formula, in-Cuts}

pub returns-in-Ok : goal.returns-in-Ok
returns-in-Ok g c = record {
  sound = λ text answer h.
      let checked : IfOk c.match-profile.checked (λ v. v ≡ Yes → IsTrueResult text answer) =
      elim c.match-profile.branch [
        | in-Formula w ↦
            rw (w.checked-is) (w.check_texts_as-checked.ensures.sound text answer h)
        | in-Cuts w ↦
            rw (w.checked-is) (w.check_cuts_texts-checked.ensures.sound text answer h)
      ] in
      subst (λ r. IfOk r (λ v. v ≡ Yes → IsTrueResult text answer)) c.in-Ok.is checked;
}
