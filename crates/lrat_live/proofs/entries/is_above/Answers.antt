use Rattle.std.proofs.Common.{◌≡◌, ◌-◌, ◌<◌, arith, ap, subst, sym, ◌∙◌, length, ℕ}
use Rattle.std.specs.Prelude.{slice_index}
use Rattle.std.proofs.lemmas.Bool.{ltb-true, lt-ltb}
use Rattle.lrat_live.specs.Table.{entry_spans, keys_of}
use Rattle.lrat_live.proofs.Table.{length-keys, key_at}
use Rattle.lrat_live.proofs.entries.is_above.Goals as goal

pub returns-in-Some : goal.returns-in-Some
returns-in-Some c =
    let es = c.args.entries.now in
    let last : ℕ = length es - 1 in
    let x = c.in-Some.entry.now in
    let some : 0 < length es = c.in-Some.ensures.item.3.0 in
    let key : slice_index (keys_of (entry_spans es)) last ≡ x.id = key_at es last x (omega arith)
    ∙ sym (ap (λ e. e.id) (c.in-Some.ensures.item.3.1 x)) in (
      λ t p e.
          let here : last ≡ p = omega (arith, length-keys es) in
          let below : x.id < c.args.id = ltb-true x.id c.args.id t in
          subst (λ n. slice_index (keys_of (entry_spans es)) n < c.args.id) here (rw key below),
      λ h. let below : slice_index (keys_of (entry_spans es)) last < c.args.id =
          h last (omega (arith, length-keys es)) in lt-ltb x.id c.args.id (rw key at below),
    )
