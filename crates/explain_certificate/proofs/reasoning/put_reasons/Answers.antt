-- A fact more.
use Rattle.std.proofs.Common.{◌≡◌, ◌<◌, ◌+◌, ◌∷◌, ◌∙◌, ap, sym, subst, drop, get_or, length, map}
use Rattle.std.proofs.Common.{arith}
use Rattle.std.proofs.lemmas.List.{drop_more, drop_all, get_or-map, length-map}
use Rattle.explain_certificate.specs.declared.reasons.Reason.{Reason}
use Rattle.explain_certificate.proofs.Facts.{LeadsFacts, fact_on, no_fact}
use Rattle.explain_certificate.proofs.reasoning.put_reasons.Goals as goal

pub loop-reason-preserved : goal.loop-reason-preserved
loop-reason-preserved g c =
    let fact_of = λ (r : Reason). r.fact in
    let rs = c.deref-reason-items.result.now in
    let i = c.loop-reason.reason-index in
    let r = c.reason-item.result in
    let facts = c.args.reasons.now in
    let all : facts ≡ map fact_of rs =
    sym c.reasons.view_is ∙ ap (map fact_of) (sym c.deref-reason-items.ensures.value) in
    let within : i < length rs = c.loop-reason-test.true in
    let long : length facts ≡ length rs = ap length all ∙ length-map rs fact_of in
    let next : drop i facts ≡ r.fact ∷ drop (i + 1) facts =
    drop_more facts i r.fact (omega (arith, long, within))
    ∙ ap (λ z. z ∷ drop (i + 1) facts)
    (ap (λ fs. get_or fs i r.fact) all ∙ get_or-map fact_of rs i r r.fact within
    ∙ ap fact_of (sym c.reason-item.is)) in
    fact_on facts r.fact (drop (i + 1) facts) c.put_reason.ensures
    (subst (λ z. LeadsFacts (g.W.Write.contents c.args.writer.now) c.args.sheet.now facts z
    (g.W.Write.contents c.loop-reason.writer) c.loop-reason.sheet) next c.loop-reason.invariant)

pub returns : goal.returns
returns g c =
    let fact_of = λ (r : Reason). r.fact in
    let rs = c.deref-reason-items.result.now in
    let facts = c.args.reasons.now in
    let long : length facts ≡ length rs =
    ap length (sym c.reasons.view_is ∙ ap (map fact_of) (sym c.deref-reason-items.ensures.value))
    ∙ length-map rs fact_of in
    let none = drop_all c.loop-reason.reason-index facts
    (omega (arith, long, c.loop-reason-test.false)) in
    c.loop-reason.invariant _ _ (rw none (no_fact _ _))
