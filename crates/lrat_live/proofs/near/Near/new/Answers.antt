use Rattle.std.proofs.Common.{◌≡◌, ◌+◌, ◌-◌, ◌∙◌, ap, arith, length, subst}
use Rattle.lrat_live.specs.Listed.{listed_from}
use Rattle.lrat_live.specs.Near.{IsNear}
use Rattle.lrat_live.proofs.PushLaws.{near_new, given_new}
use Rattle.lrat_live.proofs.near.Near.new.Goals as goal
use Rattle.lrat_live.proofs.near.Near.new.Goals.{After-len-2}

spans_count : (c : After-len-2) → c.len.result ≡ length c.in_ok-spans.spans.items
spans_count c = omega (arith, c.len.ensures, c.in_ok-spans.spans.ok.0)

count_is : (c : After-len-2) → c.len.result - 1 + 1 ≡ length c.in_ok-spans.spans.items
count_is c = omega (arith, spans_count c, ap length c.in_ok-spans.ensures.spans)

pub invariant_of-result : goal.invariant_of-result
invariant_of-result c =
    let ls = c.into_lits-lits.result.items in
    let ss = c.in_ok-spans.spans.items in
    let long : length ls ≡ c.len-2.result =
    omega (arith, c.len-2.ensures, c.into_lits-lits.result.ok.0) in
    subst (λ m. IsNear ls ss (c.len.result - 1) m 0) long
    (near_new ls ss c.into_clauses-clauses.result (c.len.result - 1) c.into_lits-lits.ensures
    c.in_ok-spans.ensures.spans c.in_ok-spans.ensures.few (count_is c)
    (omega (arith, spans_count c, c.len.type_inv)))

pub returns-clause-given : goal.returns-clause-given
returns-clause-given c =
    given_new c.into_lits-lits.result.items c.in_ok-spans.spans.items
    c.into_clauses-clauses.result (c.len.result - 1) c.into_lits-lits.ensures
    c.in_ok-spans.ensures.spans c.in_ok-spans.ensures.few (count_is c)
    ∙ ap (listed_from 1) c.into_clauses-clauses.ensures
