use Rattle.std.proofs.Common.{◌≡◌, ◌+◌, ◌≤◌, length, ◌∷◌, [], ◌++◌, false, true, get_or, take}
use Rattle.std.proofs.Common.{subst, sym, ap, ◌∙◌}
use Rattle.std.proofs.lemmas.List.{append-nil, append_assoc, take_all, get_or_default}
use Rattle.lrat_live.specs.Counts.{AreCounts, AreRaised}
use Rattle.lrat_live.specs.Near.{is_live, nowhere, literals_at, spanned}
use Rattle.lrat_live.specs.Pages.{count_in}
use Rattle.lrat_live.proofs.CountLaws.{counts_push}
use Rattle.lrat_live.proofs.SpanLaws.{zeros, more_live, more_dead}
use Rattle.lrat_live.proofs.spans.count_live.Goals as goal

pub loop-span-init : goal.loop-span-init
loop-span-init c = λ es n a. subst (AreCounts (count_in c.args.counts.now)) (sym (append-nil es)) a

pub literals_at-requires : goal.literals_at-requires
literals_at-requires c =
    let ss = c.args.spans.now in
    let i = c.loop-span.span-index in
    let live : is_live (get_or ss i nowhere) ≡ true =
    ap is_live (get_or_default ss i nowhere zeros c.loop-span-test.true)
    ∙ sym c.is_live.ensures ∙ c.if-not-is_live.false in
    subst (λ s. s.start + s.length ≤ length c.args.lits.now)
    (get_or_default ss i nowhere zeros c.loop-span-test.true)
    (c.requires i nowhere c.loop-span-test.true live)

pub loop-span-preserved-then-not-is_live : goal.loop-span-preserved-then-not-is_live
loop-span-preserved-then-not-is_live c =
    let ss = c.args.spans.now in
    let i = c.loop-span.span-index in
    let dead : is_live (get_or ss i nowhere) ≡ false =
    ap is_live (get_or_default ss i nowhere zeros c.loop-span-test.true)
    ∙ sym c.is_live.ensures ∙ c.if-not-is_live.true in
    λ es n a. subst (λ xs. AreCounts (count_in c.loop-span.counts) (es ++ xs))
    (sym (more_dead c.args.lits.now n ss i c.loop-span-test.true dead))
    (c.loop-span.invariant es n a)

pub loop-span-preserved : goal.loop-span-preserved
loop-span-preserved c =
    let ss = c.args.spans.now in
    let ls = c.args.lits.now in
    let i = c.loop-span.span-index in
    let now = count_in c.raise.new.counts in
    let live : is_live (get_or ss i nowhere) ≡ true =
    ap is_live (get_or_default ss i nowhere zeros c.loop-span-test.true)
    ∙ sym c.is_live.ensures ∙ c.if-not-is_live.false in
    let part = literals_at ls (get_or ss i nowhere) in
    λ es n a. subst (λ xs. AreCounts now (es ++ xs))
    (sym (more_live ls n ss i c.loop-span-test.true live))
    (subst (AreCounts now) (append_assoc es (spanned ls n (take i ss)) ((n + i, part) ∷ []))
    (counts_push (count_in c.loop-span.counts) now (es ++ spanned ls n (take i ss)) (n + i) part
    (c.loop-span.invariant es n a)
    (subst (λ s. AreRaised (count_in c.loop-span.counts) (literals_at ls s) now)
    (sym (get_or_default ss i nowhere zeros c.loop-span-test.true))
    (rw c.literals_at.ensures at c.in_ok-raise.ensures))))

pub returns : goal.returns
returns c =
    λ es n a. subst (λ xs. AreCounts (count_in c.loop-span.counts)
    (es ++ spanned c.args.lits.now n xs))
    (take_all c.loop-span.span-index c.args.spans.now c.loop-span-test.false)
    (c.loop-span.invariant es n a)
