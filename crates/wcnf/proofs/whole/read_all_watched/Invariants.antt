-- What was consumed so far is the text so far, and no read has failed.
use Rattle.std.proofs.Common.{◌≡◌, ◌-◌, ◌^◌, false, vec_len}
use Rattle.std.specs.Io.KnownBytes.{Consumes}
use Rattle.wcnf.proofs.whole.read_all_watched.Given as goal

abbrev pub invariant-loop-text : goal.invariant-loop-text
invariant-loop-text g l = record {
  read : Consumes (g.R.Read.remaining (l.fn.reader).reader.now)
      (g.R.Read.remaining (l.reader).reader.now) l.text.items;
  works : (l.reader).has_failed ≡ false;
  reader : (l.reader).reader.ghost_name ≡ (l.fn.reader).reader.ghost_name;
}

abbrev pub decreases-loop-text : goal.decreases-loop-text
decreases-loop-text g l = 2 ^ 64 - vec_len l.text
