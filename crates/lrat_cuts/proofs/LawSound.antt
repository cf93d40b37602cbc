-- Certificates of forms and cuts are sound.
use Rattle.lrat_cuts.specs.Cuts.{cuts_start}
use Rattle.lrat_cuts.specs.Law.{CutsAreSound}
use Rattle.lrat_cuts.proofs.LawStart.{start_sound}
use Rattle.lrat_cuts.proofs.LawLines.{lines_sound}

pub cuts_sound : CutsAreSound
cuts_sound p cost lines s i e u feasible =
    let sound = lines_sound p i cost lines (cuts_start p) s 1 (start_sound p i) e in
    sound.proved u feasible
