-- What is left goes on where the bytes so far end.
use Rattle.std.proofs.Common.{◌≡◌, ◌+◌, drop}
use Rattle.wmax_onlooker.specs.ResumedFile.{ended_after}
use Rattle.wmax_onlooker.proofs.resumed_file.WholeLines.note.Given as goal

abbrev pub invariant-loop-byte : goal.invariant-loop-byte
invariant-loop-byte g l = record {
  file : l.self.file ≡ l.initial.self.file;
  count : l.self.count ≡ l.initial.self.count + l.byte-index;
  ended : ended_after l.self.count l.self.ended (drop l.byte-index l.bytes)
      ≡ ended_after l.initial.self.count l.initial.self.ended l.bytes;
}
