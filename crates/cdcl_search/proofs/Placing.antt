-- A clause comes to a store and its engine.
use Rattle.std.proofs.Common.{◌≡◌, ℕ, ◌<◌, ◌≤◌, ◌^◌, Bool, false, not, List, [], ◌∷◌, ◌++◌, length}
use Rattle.std.proofs.Common.{get_or, Some, None, arith, sym, subst, ◌∙◌, ap}
use Rattle.std.specs.Prelude.{IfSome, All}
use Rattle.std.proofs.lemmas.Bool.{both_ways}
use Rattle.std.proofs.lemmas.List.Elements.{All-cons, All-nil, All-head, All-tail}
use Rattle.std.proofs.lemmas.List.{get_or-map}
use Rattle.std.proofs.lemmas.List.Sums.{count_by-le-length}
use Rattle.cnf.specs.Literal.{Literal}
use Rattle.cnf.specs.Clause.{greatest_variable}
use Rattle.cnf.specs.Lrat.{IsId}
use Rattle.clauses.specs.Slots.{Slots, clause_at, IsLive}
use Rattle.propagate.specs.Watches.{EngineState}
use Rattle.propagate.specs.Fits.{Fits, IsWithin}
use Rattle.lrat_log.specs.declared.lines.Kind.{Kind}
use Rattle.lrat_log.specs.declared.lines.Hint.{Hint}
use Rattle.lrat_log.specs.Log.{LogLine, Given, IsLine, is_delete, name_of, number_in}
use Rattle.propagate.specs.Trail.{Assigned, literals_of}
use Rattle.reconstruction.specs.Stack.{StackState}
use Rattle.lrat_log.specs.declared.lines.Name.{Name}
use Rattle.lrat_log.specs.Steps.{added_count}
use Rattle.cdcl_search.specs.declared.search.Search.{Search}
use Rattle.cdcl_search.specs.Invariant.{Tables, IsRunning}
use Rattle.cdcl_search.specs.Running.{HasRoom, Stores}
use Rattle.clauses.proofs.Laws.{clause_new}

pub new_at : (slots now : Slots) (c : List Literal) (r : ℕ) → now ≡ slots ++ Some c ∷ []
    → r ≡ length slots → clause_at now r ≡ Some c
new_at slots now c r e is =
    subst (λ s. clause_at s r ≡ Some c) (sym e)
    (subst (λ k. clause_at (slots ++ Some c ∷ []) k ≡ Some c) (sym is) (clause_new slots c))

pub new_live : (slots now : Slots) (c : List Literal) (r : ℕ) → now ≡ slots ++ Some c ∷ []
    → r ≡ length slots → IsLive now r
new_live slots now c r e is = (c, new_at slots now c r e is)

pub new_within : (slots now : Slots) (c : List Literal) (r variables : ℕ)
    → now ≡ slots ++ Some c ∷ [] → r ≡ length slots → IsWithin variables c
    → IfSome (clause_at now r) (IsWithin variables)
new_within slots now c r variables e is w =
    subst (λ o. IfSome o (IsWithin variables)) (sym (new_at slots now c r e is)) w

ids_of : (variables : ℕ) (c : List Literal) → variables < 2 ^ 27 → All (λ l. 0 < l.variable) c
    → greatest_variable c ≤ variables → All (λ k. IsId k.variable) c
ids_of variables [] few ones small = All-nil (λ k. IsId k.variable)
ids_of variables (l ∷ c) few ones small =
    let here : 0 < l.variable = All-head (λ (k : Literal). 0 < k.variable) l c ones in
    let low : l.variable < 2 ^ 62 = omega arith in
    All-cons (λ k. IsId k.variable) l c (here, low)
    (ids_of variables c few (All-tail (λ (k : Literal). 0 < k.variable) l c ones) (omega arith))

-- a line that adds
pub adding_line : (kind : Kind) (c : List Literal) (hints : List Hint) (variables : ℕ)
    → is_delete kind ≡ false → variables < 2 ^ 27 → IsWithin variables c
    → All (λ h. IsId (number_in (name_of h))) hints
    → IsLine (record { kind = kind; clause = c; hints = hints })
adding_line kind c hints variables adds few w names = record {
  literals = ids_of variables c few w.0 w.1;
  names = names;
  deletes = λ d. absurd (both_ways (is_delete kind) adds d);
}

-- the parts by variable
pub room_stored : (s n : Search) (name : Name) (c : List Literal) → HasRoom s → Stores s n name c
    → HasRoom n
room_stored s n name c r w = record {
  policy = ap (λ o. o.variables) w.policy ∙ r.policy ∙ sym w.variables;
  analyzer =
      subst (λ k. k < n.analyzer) (sym w.variables)
      (subst (λ k. (s.engine).variables < k) (sym w.analyzer) r.analyzer);
  few = subst (λ k. k < 2 ^ 27) (sym w.variables) r.few;
  stamps = ap (λ v. length v.items) w.stamps ∙ r.stamps ∙ sym w.variables;
  units = ap (λ v. length v.items) w.units ∙ r.units ∙ sym w.variables;
}

-- additions are no more than lines
pub added_few : (ls : List LogLine) (n : ℕ) → n ≡ added_count ls → length ls < 2 ^ 61 → n < 2 ^ 61
added_few ls n e short =
    omega (arith, count_by-le-length (λ (l : LogLine). not (is_delete l.kind)) ls)

-- the same state in other words
pub running_same : (e f : EngineState) (slots now : Slots) (stack : StackState) (t u : Tables)
    (frozen : List Bool) (first : ℕ) (given : Given) (ls : List LogLine) → f ≡ e
    → now ≡ slots → u ≡ t
    → IsRunning e slots stack t frozen first given ls
    → IsRunning f now stack u frozen first given ls
running_same e f slots now stack t u frozen first given ls a b c r =
    subst (λ x. IsRunning x now stack u frozen first given ls) (sym a)
    (subst (λ x. IsRunning e x stack u frozen first given ls) (sym b)
    (subst (λ x. IsRunning e slots stack x frozen first given ls) (sym c) r))

pub tables_same : (t u : Tables) → u.names ≡ t.names → u.units ≡ t.units → u.noted ≡ t.noted
    → u.kept ≡ t.kept → u.additions ≡ t.additions → u ≡ t
tables_same t u a b c d e =
    λ i. record { names = a i; units = b i; noted = c i; kept = d i; additions = e i }

-- literals of the trail
pub literal_small : (e : EngineState) (slots : Slots) (i : ℕ) (k : Literal) → Fits e slots
    → i < length e.trail → k ≡ get_or (literals_of e.trail) i k
    → (0 < k.variable) × (k.variable ≤ e.variables)
literal_small e slots i k fits lt at =
    let d : Assigned = record { literal = k; reason = None } in
    let is : k ≡ (get_or e.trail i d).literal =
    at ∙ get_or-map (λ (x : Assigned). x.literal) e.trail i d k lt in
    subst (λ (x : Literal). (0 < x.variable) × (x.variable ≤ e.variables)) (sym is)
    (fits.small i d lt)
