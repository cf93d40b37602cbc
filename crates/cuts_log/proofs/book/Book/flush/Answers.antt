-- The line feed that was due is put first.
use Rattle.std.proofs.Common.{true, false, refl, sym, ◌∙◌, ap}
use Rattle.std.proofs.lemmas.Bool.{true≢false}
use Rattle.cuts_log.specs.Books.{BookState}
use Rattle.cuts_log.proofs.Noting.{flushes}
use Rattle.cuts_log.proofs.Saying.{says-more}
use Rattle.cuts_log.proofs.book.Book.flush.Goals as goal

pub invariant_of-self : goal.invariant_of-self
invariant_of-self g c =
    let w = ap (λ (b : BookState). b.failed) c.self.view_is ∙ c.requires.works in
    let says = says-more _ _ _ _ _ c.put_feed.ensures c.flush.ensures.says in
    flushes _ c.self.inside.out c.flush.new.self c.self.inside.is_due true c.self.invariant w refl
    says (λ e. absurd (true≢false e))

pub invariant_of-self-else-has_failed : goal.invariant_of-self-else-has_failed
invariant_of-self-else-has_failed g c =
    let w = ap (λ (b : BookState). b.failed) c.self.view_is ∙ c.requires.works in
    let says = says-more _ _ _ _ _ c.put_feed.ensures c.flush.ensures.says in
    flushes _ c.self.inside.out c.flush.new.self c.self.inside.is_due c.self.inside.failed
    c.self.invariant w refl says (λ _. sym c.has_failed.ensures ∙ c.if-has_failed.false)
