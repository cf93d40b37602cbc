-- The clauses are live; each resolvent clashes, or short, or long.
use Rattle.std.proofs.Common.{◌≡◌, ◌<◌, ◌+◌, Bool, true, false, not, ◌&&◌, ◌||◌, List, [], length}
use Rattle.std.proofs.Common.{get_or, sym, ◌∙◌, ap, subst, arith}
use Rattle.std.specs.Prelude.{nat_le}
use Rattle.std.proofs.lemmas.Bool.{le-leb, lt-leb}
use Rattle.std.proofs.lemmas.List.{length-map}
use Rattle.std.proofs.lemmas.List.Folds.{list_all_at, list_all_more}
use Rattle.std.proofs.lemmas.List.Sums.{count_by_more_yes, count_by_more_no}
use Rattle.cnf.specs.Literal.{Literal}
use Rattle.clauses.specs.Slots.{IsLive}
use Rattle.cnf.specs.Marks.{HasPlace}
use Rattle.std.specs.Prelude.{All}
use Rattle.std.specs.List.{list_any}
use Rattle.eliminate_tables.specs.Resolvents.{unmarked_rest, clashes}
use Rattle.clauses.specs.Slots.{clause_under, clauses_under}
use Rattle.eliminate_tables.specs.Worthwhile.{rest_of, give_tautology, is_short, are_short}
use Rattle.eliminate_tables.proofs.Counted.{rest_marked, clash_marked, under_at, under_live}
use Rattle.eliminate_tables.proofs.worthwhile.count_resolvents.Goals as goal
use Rattle.eliminate_tables.proofs.worthwhile.count_resolvents.Goals.{After-count_rest}
use Rattle.eliminate_tables.proofs.worthwhile.count_resolvents.Goals.{in-Some+else-saturating_add}
use Rattle.eliminate_tables.proofs.worthwhile.count_resolvents.Goals.{in-None}

pub lits-requires : goal.lits-requires
lits-requires c =
    subst (IsLive c.args.store.now.slots) (sym c.second-item.is)
    (c.requires.live_too c.loop-second.second-index c.second-item.result c.loop-second-test.true)

-- the second clause and its place among all
within : (c : After-count_rest)
    → c.loop-second.second-index < length (clauses_under c.args.store.now.slots c.args.seconds.now)
within c = omega (
  arith,
  length-map c.args.seconds.now (clause_under c.args.store.now.slots),
  c.loop-second-test.true,
)

at : (c : After-count_rest) → get_or (clauses_under c.args.store.now.slots c.args.seconds.now)
    c.loop-second.second-index [] ≡ c.lits.result.now
at c =
    under_at c.args.store.now.slots c.args.seconds.now c.loop-second.second-index
    c.second-item.result c.lits.result.now c.loop-second-test.true c.second-item.is c.lits.ensures

-- the tests of the marks are those of the resolvent
clash : (c : After-count_rest)
    → list_any (clashes c.mark_without.new.self)
    (unmarked_rest c.mark_without.new.self c.negation.result c.lits.result.now)
    ≡ give_tautology c.args.pivot c.lits-lits.result.now c.lits.result.now
clash c =
    rw c.negation.ensures
    (clash_marked c.mark_without.new.self c.args.pivot c.lits-lits.result.now c.lits.result.now
    c.mark_without.ensures.marked
    (subst (λ n. All (HasPlace n) c.lits.result.now) (sym c.mark_without.ensures.len)
    (c.requires.placed c.second-item.result c.lits.result.now c.lits.ensures)))

rest : (c : After-count_rest)
    → unmarked_rest c.mark_without.new.self c.negation.result c.lits.result.now
    ≡ rest_of c.args.pivot c.lits-lits.result.now c.lits.result.now
rest c =
    rw c.negation.ensures (rest_marked c.mark_without.new.self c.args.pivot c.lits-lits.result.now
    c.lits.result.now c.mark_without.ensures.marked
    (subst (λ n. All (HasPlace n) c.lits.result.now) (sym c.mark_without.ensures.len)
    (c.requires.placed c.second-item.result c.lits.result.now c.lits.ensures)))

-- a resolvent that is long
pub returns-then-saturating_add-clause-long : goal.returns-then-saturating_add-clause-long
returns-then-saturating_add-clause-long c none =
    let r = (goal.at.returns-then-saturating_add-clause-long c).After-count_rest in
    let p = c.args.pivot in
    let first : List Literal = c.lits-lits.result.now in
    let second : List Literal = c.lits.result.now in
    let cs : List (List Literal) = clauses_under c.args.store.now.slots c.args.seconds.now in
    let long : nat_le (length (rest_of p first second) + length first) 33 ≡ false =
    lt-leb _ _ (omega (
      arith,
      c.if-saturating_add.true,
      c.saturating_add.ensures,
      c.in-Some.ensures.count,
      ap length (rest r),
    )) in
    let apart : give_tautology p first second ≡ false = sym (clash r) ∙ c.in-Some.ensures.plain in
    let test : (give_tautology p first second || is_short p first second) ≡ false =
    ap (λ b. b || is_short p first second) apart ∙ long in
    let found : are_short p first cs ≡ false =
    list_all_at (λ d. give_tautology p first d || is_short p first d) cs c.loop-second.second-index
    []
    (within r) (ap (λ d. give_tautology p first d || is_short p first d) (at r) ∙ test) in
    ap (λ d. are_short p d cs)
    (under_live c.args.store.now.slots c.args.first first c.lits-lits.ensures) ∙ found

pub loop-second-preserved : goal.loop-second-preserved
loop-second-preserved c =
    let r = (goal.at.loop-second-preserved c).After-count_rest in
    let p = c.args.pivot in
    let first : List Literal = c.lits-lits.result.now in
    let second : List Literal = c.lits.result.now in
    let cs : List (List Literal) = clauses_under c.args.store.now.slots c.args.seconds.now in
    let i = c.loop-second.second-index in
    let was = c.loop-second.invariant in
    let fits : List Literal → Bool = λ d. give_tautology p first d || is_short p first d in
    elim c.match-count_rest.branch [
      | in-Some+else-saturating_add w ↦
          let apart : give_tautology p first second ≡ false =
          sym (clash r) ∙ w.in-Some.ensures.plain in
          let short : is_short p first second ≡ true =
          le-leb _ _ (omega (
            arith,
            w.if-saturating_add.false,
            w.saturating_add.ensures,
            w.in-Some.ensures.count,
            ap length (rest r),
          )) in
          let fit : fits second ≡ true = ap (λ b. b || is_short p first second) apart ∙ short in
          let one =
          count_by_more_yes (λ d. not (give_tautology p first d)) cs i [] (within r)
          (ap (λ d. not (give_tautology p first d)) (at r) ∙ ap not apart) in
          record {
            count = omega (arith, w.count-is, was.count, one);
            short = list_all_more fits cs i [] (within r)
                ∙ ap (λ b. b && fits (get_or cs i [])) was.short ∙ ap fits (at r) ∙ fit;
            few = omega (arith, w.count-is, was.few);
          }
      | in-None w ↦
          let apart : give_tautology p first second ≡ true =
          sym (clash r) ∙ c.count_rest.ensures.clash w.in-None.is in
          let fit : fits second ≡ true = ap (λ b. b || is_short p first second) apart in
          let none =
          count_by_more_no (λ d. not (give_tautology p first d)) cs i [] (within r)
          (ap (λ d. not (give_tautology p first d)) (at r) ∙ ap not apart) in
          record {
            count = w.count-is ∙ was.count ∙ sym none;
            short = list_all_more fits cs i [] (within r)
                ∙ ap (λ b. b && fits (get_or cs i [])) was.short ∙ ap fits (at r) ∙ fit;
            few = omega (arith, w.count-is, was.few);
          }
    ]
