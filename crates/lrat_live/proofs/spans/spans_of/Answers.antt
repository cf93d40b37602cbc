use Rattle.std.proofs.Common.{◌≡◌, ◌+◌, ◌∷◌, [], ◌++◌, ◌∙◌, ap, arith, length, take, sym}
use Rattle.lrat_live.specs.Near.{nowhere, spans_from}
use Rattle.lrat_live.proofs.StartLaws.{joined, joined_more, spans_more}
use Rattle.lrat_live.proofs.spans.spans_of.Goals as goal

pub loop-place-preserved : goal.loop-place-preserved
loop-place-preserved c =
    let cs = c.args.clauses.now in
    let p = c.loop-place.place in
    let clause = c.get-length.result.now in
    let more = joined_more cs p clause c.get-length.ensures in
    let at : c.loop-place.start ≡ 0 + length (joined (take p cs)) =
    omega (arith, c.loop-place.invariant.start) in
    record {
      start = omega (arith, more, c.loop-place.invariant.start);
      few = omega (arith, c.if-length-start.false, c.loop-place.invariant.few);
      spans =
          c.in_ok-push-2.ensures.items
          ∙ ap (λ ss. ss ++ record { start = c.loop-place.start; length = length clause } ∷ [])
          c.loop-place.invariant.spans
          ∙ ap (λ n. (nowhere ∷ spans_from 0 (take p cs))
          ++ record { start = n; length = length clause } ∷ []) at
          ∙ ap (λ ss. nowhere ∷ ss) (sym (spans_more 0 cs p clause c.get-length.ensures));
    }
