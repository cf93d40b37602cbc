-- A solver that is given clauses under the numbers from 1 on.
use Rattle.std.proofs.Common.{◌≡◌, ℕ, ◌+◌, ◌<◌, ◌≤◌, true, false, List, [], ◌∷◌, ◌++◌, length, take}
use Rattle.std.proofs.Common.{get_or, None, refl, sym, ◌∙◌, ap, subst, arith, append_assoc}
use Rattle.std.proofs.Common.{append-nil, length-append}
use Rattle.std.specs.Prelude.{if◌then◌else◌}
use Rattle.std.proofs.lemmas.Bool.{false_from_ne_true}
use Rattle.std.proofs.lemmas.Grind.{common_steps}
use Rattle.std.proofs.lemmas.List.{length-map, map-append}
use Rattle.std.proofs.lemmas.List.Sums.{sum_by-append}
use Rattle.cnf.specs.Literal.{Literal}
use Rattle.cnf.specs.Formula.{Cnf}
use Rattle.cnf.proofs.Laws.{numbered_past}
use Rattle.lrat_log.specs.declared.lines.Name.{Name}
use Rattle.lrat_log.specs.declared.lines.Name.TheVariants.{Formula}
use Rattle.lrat_log.specs.Log.{LogLine, Given, given_at, is_learned, clauses_in}
use Rattle.lrat_log.specs.Steps.{IsLogOver, LearnsNew, is_later, learned_count, given_of}
use Rattle.lrat_log.proofs.Laws.{given_on, clauses_given, given_at-given_of}
use Rattle.cdcl.specs.Solving.{given_to, GivesMore, lines_since}
use Rattle.improve.specs.Bounds.{LogSolver, IsUsable, GivesAll}
use Rattle.lrat_log.proofs.Laws.{none_new}
use Rattle.lrat_log.proofs.Laws.{new_more}

pub fresh_name : (given : Given) (n : ℕ) → given ≡ given_of (clauses_in given)
    → n ≡ length given + 1
    → (i : ℕ) × (Formula n ≡ Formula i) × (0 < i) × (given_at given i ≡ None)
fresh_name given n e l =
    let few : length (clauses_in given) < n = omega (arith, length-map given (λ g. g.1)) in (
      n,
      refl,
      omega arith,
      ap (λ g. given_at g n) e ∙ given_at-given_of (clauses_in given) n
          ∙ numbered_past (clauses_in given) n few,
    )

given_last : (n : ℕ) (cs : List (List Literal)) (c : List Literal) (m : ℕ) → m ≡ n + length cs
    → given_on n (cs ++ c ∷ []) ≡ given_on n cs ++ (Formula m, c) ∷ []
given_last n [] c m e = let same : n ≡ m = omega arith in ap (λ k. (Formula k, c) ∷ []) same
given_last n (d ∷ cs) c m e = ap (λ x. (Formula n, d) ∷ x) (given_last (n + 1) cs c m (omega arith))

given_pushed : (cs : List (List Literal)) (c : List Literal) (m : ℕ) → m ≡ length cs + 1
    → given_of (cs ++ c ∷ []) ≡ given_of cs ++ (Formula m, c) ∷ []
given_pushed cs c m e = given_last 1 cs c m (omega arith)

learned_on : (a b : List LogLine) → learned_count b ≡ 0 → learned_count (a ++ b) ≡ learned_count a
learned_on a b h =
    sum_by-append (λ (l : LogLine). if is_learned l.kind then 1 else 0) a b ∙ omega (arith, h)

module _ (old new : LogSolver) (n : ℕ) (c : List Literal) (usable : IsUsable old)
    (next : n ≡ length (given_to old) + 1) (more : GivesMore old new (Formula n) c) where
  given_is : given_to new ≡ given_to old ++ (Formula n, c) ∷ []
  given_is =
      ap (λ x. given_of x.clauses ++ new.added) more.0
      ∙ ap (λ x. given_of old.formula.clauses ++ x) more.1
      ∙ sym (append_assoc (given_of old.formula.clauses) old.added ((Formula n, c) ∷ []))

  clauses_are : clauses_in (given_to new) ≡ clauses_in (given_to old) ++ c ∷ []
  clauses_are =
      ap clauses_in given_is ∙ map-append (λ (g : Name × List Literal). g.1) (given_to old)
      ((Formula n, c) ∷ [])

  numbered_are : given_to new ≡ given_of (clauses_in (given_to new))
  numbered_are =
      let len : n ≡ length (clauses_in (given_to old)) + 1 =
      omega (arith, length-map (given_to old) (λ g. g.1)) in
      given_is
      ∙ ap (λ x. x ++ (Formula n, c) ∷ []) usable.numbered
      ∙ sym (given_pushed (clauses_in (given_to old)) c n len)
      ∙ ap given_of (sym clauses_are)

  formula_few : length old.formula.clauses < n
  formula_few =
      let a : length (given_of old.formula.clauses) ≡ length old.formula.clauses =
      sym (length-map (given_of old.formula.clauses) (λ (g : Name × List Literal). g.1))
      ∙ ap length (clauses_given old.formula.clauses) in
      omega (arith, next, a, length-append (given_of old.formula.clauses) old.added)

  pub gives_one : (new.failed ≡ true → ⊥) → IsLogOver (given_to new) new.sink
      → new.sink ≡ old.sink ++ lines_since old.sink new.sink
      → learned_count (lines_since old.sink new.sink) ≡ 0 → GivesAll old (c ∷ []) new
  gives_one works log grows none = record {
    usable = record {
      works = false_from_ne_true new.failed works;
      numbered = numbered_are;
      log = log;
      new = fresh;
    };
    formula = more.0;
    frozen = more.2;
    clauses = clauses_are;
    learned = ap learned_count grows ∙ learned_on old.sink (lines_since old.sink new.sink) none;
  }
    where
      fresh : (base : ℕ) → length (given_to new) ≤ base
          → LearnsNew (is_later (length new.formula.clauses) base) (given_to new) base [] new.sink
      fresh base h =
          let len : length (given_to new) ≡ length (given_to old) + 1 =
          ap length given_is ∙ length-append (given_to old) ((Formula n, c) ∷ []) in
          subst (λ (f : Cnf). LearnsNew (is_later (length f.clauses) base) (given_to new) base []
          new.sink) (sym more.0)
          (subst (λ g. LearnsNew (is_later (length old.formula.clauses) base) g base [] new.sink)
          (sym given_is)
          (subst (LearnsNew (is_later (length old.formula.clauses) base)
          (given_to old ++ (Formula n, c) ∷ []) base []) (sym grows)
          (new_more (length old.formula.clauses) base (given_to old) n c old.sink
          (lines_since old.sink new.sink) formula_few (omega (arith, h, len, next))
          (usable.new base (omega (arith, h, len))) none)))

pub gives_none : (s : LogSolver) → IsUsable s → GivesAll s [] s
gives_none s u =
    record {
      usable = u;
      formula = refl;
      frozen = refl;
      clauses = sym (append-nil (clauses_in (given_to s)));
      learned = refl;
    }

pub gives_on : (old mid new : LogSolver) (all : List (List Literal)) (i : ℕ) (c : List Literal)
    → GivesAll old (take i all) mid → GivesAll mid (c ∷ []) new
    → i < length all → c ≡ get_or all i c → GivesAll old (take (i + 1) all) new
gives_on old mid new all i c p q lt is =
    let one : take i all ++ c ∷ [] ≡ take (i + 1) all = grind (arith, common_steps) in
    record {
      usable = q.usable;
      formula = q.formula ∙ p.formula;
      frozen = q.frozen ∙ p.frozen;
      clauses = q.clauses ∙ ap (λ x. x ++ c ∷ []) p.clauses ∙ append_assoc
          (clauses_in (given_to old)) (take i all) (c ∷ []) ∙ ap
          (λ x. clauses_in (given_to old) ++ x) one;
      learned = q.learned ∙ p.learned;
    }

-- a solver that was given a formula alone
pub given_whole : (s : LogSolver) (f : Cnf) → s.formula ≡ f → s.added ≡ []
    → given_to s ≡ given_of f.clauses
given_whole s f e none =
    ap (λ x. given_of x.clauses ++ s.added) e ∙ ap (λ x. given_of f.clauses ++ x) none
    ∙ append-nil (given_of f.clauses)

pub starts_usable : (s : LogSolver) (f : Cnf) → s.formula ≡ f → s.added ≡ [] → s.failed ≡ false
    → IsLogOver (given_to s) s.sink → learned_count s.sink ≡ 0
    → IsUsable s × (clauses_in (given_to s) ≡ f.clauses)
starts_usable s f e none works log plain =
    let g = given_whole s f e none in
    let cs : clauses_in (given_to s) ≡ f.clauses = ap clauses_in g ∙ clauses_given f.clauses in (
      record {
        works = works;
        numbered = g ∙ ap given_of (sym cs);
        log = log;
        new = λ base h. none_new (is_later (length s.formula.clauses) base) (given_to s) base []
            s.sink plain;
      },
      cs,
    )
