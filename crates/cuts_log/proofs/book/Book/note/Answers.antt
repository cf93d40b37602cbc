-- The line's text is put behind what was put.
use Rattle.std.proofs.Common.{◌≡◌, ◌+◌, ◌<◌, false, length, refl, sym, ◌∙◌, ap, arith}
use Rattle.lrat_log.specs.declared.log.TheConstants.{LINE_LIMIT}
use Rattle.cuts_log.specs.Books.{BookState}
use Rattle.cuts_log.specs.Events.{lines_in}
use Rattle.cuts_log.proofs.Noting.{fails_at, notes}
use Rattle.cuts_log.proofs.Saying.{says-more}
use Rattle.cuts_log.proofs.book.Book.note.Goals as goal

pub invariant_of-self : goal.invariant_of-self
invariant_of-self g c =
    let e = g.T.Happens.event c.args.line.now in
    let w = ap (λ (b : BookState). b.failed) c.self.view_is ∙ c.requires.works in
    let says = says-more _ _ _ _ _ c.put_feed.ensures c.put.ensures in
    rw c.seen-self-inside.ensures
    (fails_at _ e c.self.inside.out c.put.new.out c.self.inside.is_due c.self.invariant w refl says)

pub invariant_of-self-2 : goal.invariant_of-self-2
invariant_of-self-2 g c =
    let e = g.T.Happens.event c.args.line.now in
    let w : c.self.inside.failed ≡ false =
    ap (λ (b : BookState). b.failed) c.self.view_is ∙ c.requires.works in
    let room : c.self.inside.lines + length (lines_in e) < LINE_LIMIT =
    omega (arith, ap (λ (b : BookState). b.lines) c.self.view_is, c.requires.room) in
    let written : (c.put.new.out).failed ≡ false = sym c.has_failed.ensures ∙ c.if-has_failed.false
    in
    let says = says-more _ _ _ _ _ c.put_feed.ensures c.put.ensures in
    rw (c.seen-self-inside.ensures, c.lines.ensures, c.added.ensures, w)
    (notes _ e c.self.inside.out c.put.new.out c.self.inside.is_due c.self.invariant w refl says
    room written)
