use Rattle.std.proofs.Common.{◌≡◌, length, take}
use Rattle.lrat_live.specs.Chains.{IsChained}
use Rattle.lrat_live.specs.Table.{entry_spans, keys_of, nexts_of}
use Rattle.lrat_live.proofs.entries.link.Given as goal

abbrev pub invariant-loop-i : goal.invariant-loop-i
invariant-loop-i l = record {
  buckets : l.buckets ≡ length l.heads;
  spans : entry_spans l.entries ≡ entry_spans l.fn.entries;
  chained : IsChained (length l.heads) l.heads (take l.i (keys_of (entry_spans l.entries)))
      (nexts_of l.entries);
}
