use Rattle.std.proofs.Common.{◌+◌, ◌-◌, ◌%◌, ◌<◌, ◌∙◌, ℕ, length, arith}
use Rattle.lrat_live.specs.Table.{entry_spans, keys_of}
use Rattle.lrat_live.proofs.Clauses.{place_rising}
use Rattle.lrat_live.proofs.Table.{length-keys, key_at}
use Rattle.lrat_live.proofs.entries.find_near.Goals as goal

pub returns-then-entries-place : goal.returns-then-entries-place
returns-then-entries-place c =
    let es = c.args.entries.now in
    let most : ℕ = 18446744073709551616 in
    let p : ℕ = length es - 1 - (c.in_ok-last.last.now.id + (most - c.args.id)) % most in
    let within : p < length es = omega (arith, c.if-back-entries.false) in
    place_rising 0 c.args.id (keys_of (entry_spans es)) p c.requires
    (omega (arith, within, length-keys es)) (key_at es p _ within ∙ c.if-entries-place.true)
