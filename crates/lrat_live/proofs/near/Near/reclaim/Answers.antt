use Rattle.std.proofs.Common.{◌≡◌, ◌+◌, ◌∙◌, ap, length, drop, arith}
use Rattle.std.proofs.lemmas.List.{take_rest}
use Rattle.lrat_live.specs.Near.{spanned, given_in, recent_in}
use Rattle.lrat_live.proofs.SpanLaws.{spread_le}
use Rattle.lrat_live.proofs.MovedLaws.{written_end, given_squeezed, recent_squeezed, parts_same}
use Rattle.lrat_live.proofs.near.Near.reclaim.Goals as goal

pub overflow_sub-all : goal.overflow_sub-all
overflow_sub-all c =
    let s = c.self.inside in
    omega (
      arith,
      c.len.ensures,
      s.lits.ok.0,
      spread_le s.given_lits (drop (s.given + 1) s.spans.items) (length s.lits.items)
          c.self.invariant.recent,
    )

pub returns-then-is_mostly_dead : goal.returns-then-is_mostly_dead
returns-then-is_mostly_dead c =
    let s = c.self.inside in
    let ls = s.lits.items in
    let ms = c.squeeze.new.lits.items in
    let dm = c.deref_mut.result.now in
    let ys = c.squeeze.new.spans in
    let a = s.given + 1 in
    let now =
    written_end s.spans.items dm ys a s.spans.len c.deref_mut.ensures.value
    c.self.invariant.covers (omega (arith, s.spans.ok.0)) c.squeeze.ensures.count in
    let moved : spanned ms (s.given + 1 + s.gap) ys
    ≡ recent_in ls s.spans.items s.given s.gap =
    c.squeeze.ensures.clauses (s.given + 1 + s.gap)
    ∙ ap (spanned ls (s.given + 1 + s.gap)) (take_rest dm (s.given + 1))
    ∙ ap (λ xs. spanned ls (s.given + 1 + s.gap) (drop (s.given + 1) xs))
    c.deref_mut.ensures.value in
    record {
      unchanged =
          parts_same _ _ (given_in ls s.spans.items s.given)
          (recent_in ls s.spans.items s.given s.gap)
          (ap (λ xs. given_in ms xs s.given) now
          ∙ given_squeezed ls s.spans.items s.given s.given_lits s.gap c.self.invariant ms ys
          c.squeeze.ensures.below)
          (ap (λ xs. recent_in ms xs s.given s.gap) now
          ∙ recent_squeezed ls s.spans.items s.given s.given_lits s.gap c.self.invariant ms ys
          c.squeeze.ensures.below moved)
          ∙ c.self.view_is;
    }
