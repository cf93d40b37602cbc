-- No read has failed.
use Rattle.std.proofs.Common.{◌≡◌, ◌-◌, ◌^◌, false}
use Rattle.wcnf.proofs.reading.read_on.Given as goal

abbrev pub invariant-rest : goal.invariant-rest
invariant-rest g l = record {
  works : (l.reader).has_failed ≡ false;
  reader : (l.reader).reader.ghost_name ≡ (l.fn.reader).reader.ghost_name;
}

abbrev pub decreases-rest : goal.decreases-rest
decreases-rest g l = 2 ^ 64 - (l.reader).reads
