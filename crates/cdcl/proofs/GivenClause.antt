-- One clause more among those given.
use Rattle.std.proofs.Common.{◌≡◌, ℕ, ◌-◌, ◌<◌, ◌≤◌, ◌^◌, Bool, true, false, List, [], ◌∷◌, ◌++◌}
use Rattle.std.proofs.Common.{length, take, map, sym, ◌∙◌, ap, subst, arith}
use Rattle.std.specs.Prelude.{All}
use Rattle.std.proofs.lemmas.List.{take-append-le, length-append}
use Rattle.std.proofs.lemmas.List.Elements.{All-push, All-head, All-tail}
use Rattle.std.proofs.lemmas.Option.{slice_get_within}
use Rattle.cnf.specs.Literal.{Literal}
use Rattle.cnf.specs.Clause.{has_repeat, is_tautology, greatest_variable}
use Rattle.cnf.specs.Lrat.{IsId}
use Rattle.cnf.specs.Formula.{IsFormulaClause}
use Rattle.std.proofs.lemmas.Bool.{true≢false}
use Rattle.propagate.specs.Fits.{IsWithin}
use Rattle.lrat_log.specs.declared.lines.Name.{Name}
use Rattle.lrat_log.specs.declared.lines.Name.TheVariants.{Formula}
use Rattle.lrat_log.specs.Log.{LogLine, number_in}
use Rattle.lrat_log.specs.Steps.{IsBaseOf, StaysLogOver, given_of}
use Rattle.cdcl_search.specs.declared.search.Search.{Search}
use Rattle.cdcl_search.specs.declared.input.Input.{Input}
use Rattle.cdcl_search.specs.Giving.{IsFreshName, IsFrozen, GivesOne, TakesGiven}
use Rattle.cdcl_search.specs.Running.{is_refuted, IsInput, Runs}
use Rattle.cdcl.specs.Outcomes.{IsSolver}
use Rattle.cdcl_search.proofs.Laws.{log_given, based_given}

pub frozen_small : (frozen : List Bool) (c : List Literal) → All (IsFrozen frozen) c
    → All (λ l. 0 < l.variable) c → greatest_variable c ≤ length frozen
frozen_small frozen [] fixed ones = omega arith
frozen_small frozen (l ∷ c) fixed ones =
    let here : l.variable - 1 < length frozen =
    slice_get_within frozen (l.variable - 1) true (All-head (IsFrozen frozen) l c fixed) in
    let one : 0 < l.variable = All-head (λ (k : Literal). 0 < k.variable) l c ones in
    let rest =
    frozen_small frozen c (All-tail (IsFrozen frozen) l c fixed)
    (All-tail (λ (k : Literal). 0 < k.variable) l c ones) in
    omega arith

pub input_gives : (p q : Input) (n : Name) (c : List Literal) → IsInput p → GivesOne p q n c
    → IsFreshName p.given n → has_repeat c ≡ false → is_tautology c ≡ false
    → All (λ l. 0 < l.variable) c
    → greatest_variable c ≤ length (p.frozen).items → IsInput q
input_gives p q n c i gives fresh once apart ones small =
    let front : take p.first (p.given ++ (n, c) ∷ []) ≡ take p.first p.given =
    take-append-le p.first p.given ((n, c) ∷ []) i.first_within in
    let named : p.given ++ (Formula fresh.0, c) ∷ [] ≡ p.given ++ (n, c) ∷ [] =
    ap (λ x. p.given ++ (x, c) ∷ []) (sym fresh.1) in
    record {
      numbered =
          subst (λ g. given_of (map (λ x. x.1) (take q.first g)) ≡ take q.first g) (sym gives.given)
          (subst (λ k. given_of (map (λ x. x.1) (take k (p.given ++ (n, c) ∷ [])))
          ≡ take k (p.given ++ (n, c) ∷ [])) (sym gives.first)
          (subst (λ g. given_of (map (λ x. x.1) g) ≡ g) (sym front) i.numbered));
      first_within =
          subst (λ g. q.first ≤ length g) (sym gives.given)
          (subst (λ k. k ≤ length (p.given ++ (n, c) ∷ [])) (sym gives.first)
          (let w = i.first_within in omega (arith, length-append p.given ((n, c) ∷ []))));
      based =
          subst (λ g. (base : ℕ) × IsBaseOf g base) (named ∙ sym gives.given)
          (based_given p.given fresh.0 c i.based);
      few_given = subst (λ f. length f.items < 2 ^ 26) (sym gives.frozen) i.few_given;
      few = subst (λ s. s.variables < 2 ^ 27) (sym gives.stack) i.few;
      no_fewer =
          subst (λ f. length f.items ≤ (q.stack).variables) (sym gives.frozen)
          (subst (λ s. length (p.frozen).items ≤ s.variables) (sym gives.stack) i.no_fewer);
      given_small = subst (λ f. All (λ g. IsFormulaClause (length f.items) g.1) q.given)
          (sym gives.frozen)
          (subst (All (λ g. IsFormulaClause (length (p.frozen).items) g.1)) (sym gives.given)
          (All-push (λ (g : Name × List Literal). IsFormulaClause (length (p.frozen).items) g.1)
          p.given (n, c) i.given_small (record {
            no_repeat = once;
            no_tautology = apart;
            from_one = ones;
            small = small;
          })));
    }

pub lines_given : (p q : Input) (n : Name) (c : List Literal) (ls : List LogLine)
    → GivesOne p q n c → greatest_variable c ≤ length (p.frozen).items
    → StaysLogOver (length (p.frozen).items) p.given ls
    → StaysLogOver (length (q.frozen).items) q.given ls
lines_given p q n c ls gives small stays =
    subst (λ f. StaysLogOver (length f.items) q.given ls) (sym gives.frozen)
    (subst (λ g. StaysLogOver (length (p.frozen).items) g ls) (sym gives.given)
    (log_given (length (p.frozen).items) p.given n c ls small stays))

-- What the solver is then.

pub gives_solver : (s t : Search) (p q : Input) (n : Name) (c : List Literal) (ls : List LogLine)
    (failed : Bool) → IsSolver s p ls failed → failed ≡ false → GivesOne p q n c
    → IsFreshName p.given n → IsId (number_in n)
    → All (IsFrozen (p.frozen).items) c → has_repeat c ≡ false → is_tautology c ≡ false
    → All (λ l. 0 < l.variable) c → (is_refuted ls ≡ false → TakesGiven s t p q n c)
    → IsSolver t q ls failed
gives_solver s t p q n c ls failed i works gives fresh id fixed once apart ones takes =
    let small = frozen_small (p.frozen).items c fixed ones in
    record {
      input = input_gives p q n c i.input gives fresh once apart ones small;
      lines = lines_given p q n c ls gives small i.lines;
      running =
          λ f u. takes u ls (record {
            fresh = fresh;
            frozen = fixed;
            id = id;
            from_one = ones;
            small = small;
          }) i.input.first_within (i.running f u);
    }

pub fails_solver : (s t : Search) (p q : Input) (ls : List LogLine) (failed : Bool)
    → IsSolver s p ls failed → q ≡ p → IsSolver t q ls true
fails_solver s t p q ls failed i same =
    subst (λ x. IsSolver t x ls true) (sym same) (record {
      input = i.input;
      lines = i.lines;
      running = λ f u. absurd (true≢false f);
    })

-- a clause over frozen variables lies within the engine's
pub frozen_within : (s : Search) (p : Input) (ls : List LogLine) (c : List Literal) → IsInput p
    → Runs s p ls → All (IsFrozen (p.frozen).items) c → All (λ l. 0 < l.variable) c
    → IsWithin (s.engine).variables c
frozen_within s p ls c i r fixed ones =
    let small = frozen_small (p.frozen).items c fixed ones in
    let low = i.no_fewer in
    let same = r.running.variables in
    (ones, omega arith)
