-- One reference more.
use Rattle.std.proofs.Common.{◌≡◌, ℕ, ◌+◌, ◌<◌, ◌++◌, ◌∷◌, [], List, length, take, sym, ap}
use Rattle.std.proofs.Common.{◌∙◌, arith}
use Rattle.std.proofs.lemmas.List.{append_assoc, take_more}
use Rattle.std.proofs.lemmas.Option.{get_or_from_slice_get}
use Rattle.eliminate_tables.specs.Rows.{row_at}
use Rattle.eliminate_tables.proofs.rows.Rows.collect.Goals as goal

pub loop-place-preserved : goal.loop-place-preserved
loop-place-preserved c =
    let row : List ℕ = row_at c.args.self.now.rows c.args.row in
    let old : List ℕ = c.args.references.now.items in
    let at = c.loop-place.place in
    let x = c.get.result in
    let within : at < length row =
    omega (arith, c.loop-place-test.true, c.len-place-end.ensures) in
    let more : take (at + 1) row ≡ take at row ++ x ∷ [] = take_more row at x within
    ∙ ap (λ y. take at row ++ y ∷ []) (get_or_from_slice_get row at x x c.get.ensures) in
    c.in_ok-push.ensures.items ∙ ap (λ xs. xs ++ x ∷ []) c.loop-place.invariant
    ∙ append_assoc old (take at row) (x ∷ []) ∙ ap (λ xs. old ++ xs) (sym more)
