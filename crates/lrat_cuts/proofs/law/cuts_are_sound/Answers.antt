-- What lines prove, and what an end proves.
use Rattle.lrat_cuts.proofs.LawSound.{cuts_sound}
use Rattle.lrat_cuts.proofs.LawWorth.{cuts_prove}
use Rattle.lrat_cuts.proofs.law.cuts_are_sound.Goals as goal

pub returns-clause-lower_bound : goal.returns-clause-lower_bound
returns-clause-lower_bound c = cuts_sound

pub returns-clause-the_cost : goal.returns-clause-the_cost
returns-clause-the_cost c = cuts_prove
