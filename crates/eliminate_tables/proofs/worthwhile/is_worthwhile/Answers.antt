-- The clauses are live and have their places; the resolvents so far are counted.
use Rattle.std.proofs.Common.{◌≡◌, ◌<◌, ◌≤◌, ◌+◌, true, false, not, ◌&&◌, List, [], length, get_or}
use Rattle.std.proofs.Common.{take, refl, sym, ◌∙◌, ap, subst, arith, rules}
use Rattle.std.specs.Prelude.{◌==◌, sum_by}
use Rattle.std.specs.List.{list_all}
use Rattle.std.proofs.lemmas.List.{length-map}
use Rattle.std.proofs.lemmas.List.Folds.{list_all_at, list_all_more}
use Rattle.std.proofs.lemmas.List.Sums.{sum_by_more, count_by-le-length}
use Rattle.cnf.specs.Literal.{Literal}
use Rattle.clauses.specs.Slots.{IsLive}
use Rattle.eliminate_tables.specs.Bins.{ArePlaced}
use Rattle.clauses.specs.Slots.{clause_under, clauses_under}
use Rattle.eliminate_tables.specs.Worthwhile.{give_tautology, are_short, resolvent_count}
use Rattle.eliminate_tables.specs.Worthwhile.{are_few_and_short}
use Rattle.eliminate_tables.proofs.Counted.{under_item, few_length}
use Rattle.eliminate_tables.proofs.worthwhile.is_worthwhile.Goals as goal
use Rattle.eliminate_tables.proofs.worthwhile.is_worthwhile.Goals.{After-count_resolvents}

pub count_resolvents-requires-clause-placed : goal.count_resolvents-requires-clause-placed
count_resolvents-requires-clause-placed c =
    subst (λ n. ArePlaced n c.args.store.now.slots) (sym c.loop-first.invariant.len)
    c.requires.placed

pub count_resolvents-requires-clause-live : goal.count_resolvents-requires-clause-live
count_resolvents-requires-clause-live c =
    subst (IsLive c.args.store.now.slots) (sym c.first-item.is)
    (c.requires.live c.loop-first.first-index c.first-item.result c.loop-first-test.true)

-- the clauses so far are few
few : (c : After-count_resolvents)
    → (are_few_and_short (clauses_under c.args.store.now.slots c.args.firsts.now) ≡ true)
    × (are_few_and_short (clauses_under c.args.store.now.slots c.args.seconds.now) ≡ true)
few c =
    let a : c.are_few_and_short.result ≡ true = search rules in
    let b : c.are_few_and_short-else-not-are_few_and_short.result ≡ true = search rules in (
      sym c.are_few_and_short.ensures ∙ a,
      sym c.are_few_and_short-else-not-are_few_and_short.ensures
          ∙ b,
    )

within : (c : After-count_resolvents)
    → c.loop-first.first-index < length (clauses_under c.args.store.now.slots c.args.firsts.now)
within c = omega (
  arith,
  length-map c.args.firsts.now (clause_under c.args.store.now.slots),
  c.loop-first-test.true,
)

at : (c : After-count_resolvents) → get_or (clauses_under c.args.store.now.slots c.args.firsts.now)
    c.loop-first.first-index [] ≡ clause_under c.args.store.now.slots c.first-item.result
at c =
    under_item c.args.store.now.slots c.args.firsts.now c.loop-first.first-index c.first-item.result
    c.loop-first-test.true c.first-item.is

-- a clause with a long resolvent
pub returns-in-None-clause-worthwhile : goal.returns-in-None-clause-worthwhile
returns-in-None-clause-worthwhile c =
    let r = (goal.at.returns-in-None-clause-worthwhile c).After-count_resolvents in
    let cs : List (List Literal) = clauses_under c.args.store.now.slots c.args.firsts.now in
    let ds : List (List Literal) = clauses_under c.args.store.now.slots c.args.seconds.now in
    let some : (length c.args.firsts.now == 0) ≡ false = search rules in
    let some_too : (length c.args.seconds.now == 0) ≡ false = search rules in
    let cs_some : (length cs == 0) ≡ false =
    ap (λ n. n == 0) (length-map c.args.firsts.now (clause_under c.args.store.now.slots))
    ∙ some in
    let ds_some : (length ds == 0) ≡ false =
    ap (λ n. n == 0) (length-map c.args.seconds.now (clause_under c.args.store.now.slots))
    ∙ some_too in
    let long : list_all (λ d. are_short c.args.pivot d ds) cs ≡ false =
    list_all_at (λ d. are_short c.args.pivot d ds) cs c.loop-first.first-index [] (within r)
    (ap (λ d. are_short c.args.pivot d ds) (at r) ∙ c.in-None.ensures.long refl) in
    rw (cs_some, ds_some, (few r).0, (few r).1, long) refl

pub loop-first-preserved : goal.loop-first-preserved
loop-first-preserved c =
    let r = (goal.at.loop-first-preserved c).After-count_resolvents in
    let p = c.args.pivot in
    let cs : List (List Literal) = clauses_under c.args.store.now.slots c.args.firsts.now in
    let ds : List (List Literal) = clauses_under c.args.store.now.slots c.args.seconds.now in
    let i = c.loop-first.first-index in
    let was = c.loop-first.invariant in
    let first : List Literal = clause_under c.args.store.now.slots c.first-item.result in
    let more : c.in-Some.more ≡ resolvent_count p first ds = c.in-Some.ensures.count in
    let ten : resolvent_count p first ds ≤ length ds =
    count_by-le-length (λ d. not (give_tautology p first d)) ds in
    let some_ten : length ds ≤ 10 = few_length ds (few r).1 in
    let places : i < length cs = within r in
    let all_ten : length cs ≤ 10 = few_length cs (few r).0 in
    let plain : c.saturating_add-count.result ≡ c.loop-first.count + c.in-Some.more =
    (let old = was.few in let sum = c.saturating_add-count.ensures in omega arith) in
    record {
      len = c.in-Some.ensures.len ∙ was.len;
      count = plain ∙ ap (λ n. n + c.in-Some.more) was.count
          ∙ ap (λ n. sum_by (λ d. resolvent_count p d ds) (take i cs) + n) (more
          ∙ ap (λ d. resolvent_count p d ds) (sym (at r)))
          ∙ sym (sum_by_more (λ d. resolvent_count p d ds) cs i [] places);
      short = list_all_more (λ d. are_short p d ds) cs i [] places
          ∙ ap (λ b. b && are_short p (get_or cs i []) ds) was.short
          ∙ ap (λ d. are_short p d ds) (at r) ∙ c.in-Some.ensures.short;
      few = (let old = was.few in omega arith);
    }
