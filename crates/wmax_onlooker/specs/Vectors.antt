-- Where a text for the file `best` is written.
use Rattle.std.specs.Prelude.{◌≡◌, codes, refl}
use Rattle.wmax_onlooker.specs.ResumedFile.{ended_after}
use Rattle.wmax_onlooker.specs.WholeFile.{part_path}

part_of_best : part_path (codes "best") ≡ codes "best.part"
part_of_best = refl

torn_line : ended_after 0 0 (codes "1 d 2 0\n3") ≡ 8
torn_line = refl
