-- A search goes on with one clause more that was given.
use Rattle.std.proofs.Common.{ℕ, ◌+◌, ◌≡◌, ◌≤◌, ◌<◌, ◌^◌, List, [], ◌∷◌, ◌++◌, length, Some, refl}
use Rattle.std.proofs.Common.{sym, ◌∙◌, ap, subst, take, get_or}
use Rattle.std.specs.Prelude.{All}
use Rattle.cnf.specs.Literal.{Literal}
use Rattle.cnf.specs.Lrat.{IsId}
use Rattle.propagate.specs.Trail.{depth_of}
use Rattle.lrat_log.specs.declared.lines.Name.{Name}
use Rattle.lrat_log.specs.declared.lines.Name.TheVariants.{Formula}
use Rattle.lrat_log.specs.Log.{LogLine, number_in}
use Rattle.cdcl_search.specs.declared.search.Search.{Search}
use Rattle.cdcl_search.specs.declared.input.Input.{Input}
use Rattle.cdcl_search.specs.Invariant.{IsRunning}
use Rattle.cdcl_search.specs.Running.{Runs, Stores, tables_of}
use Rattle.cdcl_search.specs.Giving.{IsGivable, GivesOne}
use Rattle.cdcl_search.proofs.MoreMoves.{run_given, with_given}
use Rattle.cdcl_search.proofs.Placing.{room_stored, running_same, tables_same}
use Rattle.std.proofs.lemmas.List.{take_more}
use Rattle.std.proofs.lemmas.List.Elements.{All-push}

pub taken : (m n : Search) (p q : Input) (name : Name) (c : List Literal) (ls : List LogLine)
    → Runs m p ls → depth_of (m.engine).trail ≡ 0 → IsGivable p name c → GivesOne p q name c
    → p.first ≤ length p.given
    → Stores m n name c → n.additions ≡ m.additions → Runs n q ls
taken m n p q name c ls r flat ask gives first w same =
    let f = ask.fresh in
    let slots = (m.store).slots in
    let id : IsId f.0 = subst (λ x. IsId (number_in x)) f.1 ask.id in
    let ran = run_given m.engine n.engine slots p.stack (tables_of m) (p.frozen).items p.first
    p.given ls f.0 c r.running flat first f.3 id ask.frozen ask.from_one ask.small
    w.attached (w.trail, w.variables) w.works w.fits in
    let now = running_same n.engine n.engine (slots ++ Some c ∷ []) (n.store).slots p.stack
    (with_given (tables_of m) f.0) (tables_of n) (p.frozen).items p.first
    (p.given ++ (Formula f.0, c) ∷ []) ls refl w.slots
    (tables_same (with_given (tables_of m) f.0) (tables_of n) (w.names
    ∙ ap (λ x. (m.names).items ++ x ∷ []) f.1) (ap (λ v. v.items) w.units) w.noted w.kept
    same) ran in
    let given : q.given ≡ p.given ++ (Formula f.0, c) ∷ [] =
    gives.given ∙ ap (λ x. p.given ++ (x, c) ∷ []) f.1 in
    record {
      running =
          subst (λ x. IsRunning n.engine (n.store).slots x (tables_of n) (q.frozen).items q.first
          q.given ls) (sym gives.stack)
          (subst (λ x. IsRunning n.engine (n.store).slots p.stack (tables_of n) x.items q.first
          q.given ls) (sym gives.frozen)
          (subst (λ x. IsRunning n.engine (n.store).slots p.stack (tables_of n) (p.frozen).items x
          q.given ls) (sym gives.first)
          (subst (λ x. IsRunning n.engine (n.store).slots p.stack (tables_of n) (p.frozen).items
          p.first x ls) (sym given) now)));
      room = room_stored m n name c r.room w;
      past =
          subst (λ x. All (λ y. y ≤ n.additions) x.items) (sym w.stamps)
          (subst (λ x. All (λ y. y ≤ x) (m.stamps).items) (sym same) r.past);
      few = subst (λ x. x < 2 ^ 61) (sym same) r.few;
    }

pub named_more : (c : List Literal) (i : ℕ) (k : Literal) → i < length c → k ≡ get_or c i k
    → 0 < k.variable → All (λ l. 0 < l.variable) (take i c)
    → All (λ l. 0 < l.variable) (take (i + 1) c)
named_more c i k lt at one all =
    subst (All (λ (l : Literal). 0 < l.variable)) (sym (take_more c i k lt))
    (All-push (λ (l : Literal). 0 < l.variable) (take i c) (get_or c i k) all
    (subst (λ (l : Literal). 0 < l.variable) at one))
