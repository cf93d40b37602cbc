-- Clauses that stay: reconstruction of what was given, and the empty clause.
use Rattle.std.proofs.Common.{◌≡◌, ◌≢◌, ℕ, ◌+◌, ◌≤◌, Bool, true, false, List, [], ◌∷◌, ◌++◌, length}
use Rattle.std.proofs.Common.{set, Option, Some, None, sym, ◌∙◌, ap, arith}
use Rattle.std.specs.Prelude.{All}
use Rattle.std.proofs.lemmas.Bool.{both_ways, lt-leb}
use Rattle.std.proofs.lemmas.List.{get_or_append_left, get_or_at}
use Rattle.std.proofs.lemmas.List.Elements.{All-push}
use Rattle.cnf.specs.Literal.{Literal}
use Rattle.cnf.specs.Clause.{Satisfies}
use Rattle.cnf.specs.Bits.{assignment_of}
use Rattle.clauses.specs.Slots.{Slots, clause_at, Renaming, IsRenaming}
use Rattle.lrat_log.specs.declared.lines.Name.{Name}
use Rattle.lrat_log.specs.declared.lines.Name.TheVariants.{Formula, Added}
use Rattle.lrat_log.specs.Log.{Given}
use Rattle.reconstruction.specs.Stack.{StackState}
use Rattle.reconstruction.specs.Removals.{extended}
use Rattle.cdcl_search.specs.Invariant.{name_at, is_kept_name, SatisfiesKept, LeadsBack, KeepsPlain}
use Rattle.cdcl_search.proofs.Places.{live_within, clause_kept, clause_other, went, same_clause}
use Rattle.cdcl_search.proofs.Places.{moved_all}
use Rattle.clauses.proofs.Laws.{clause_new}

-- each clause that is kept stays, under a name that is kept
abbrev pub KeptStay : Slots → List Name → Slots → List Name → ℕ → Type 0
KeptStay old names new moved kept = (r : ℕ) (c : List Literal) → clause_at old r ≡ Some c
    → is_kept_name kept (name_at names r) ≡ true
    → (q : ℕ) × (clause_at new q ≡ Some c) × (is_kept_name kept (name_at moved q) ≡ true)

abbrev pub EmptyStays : Slots → Slots → Type 0
EmptyStays old new = (r : ℕ) → clause_at old r ≡ Some [] → (q : ℕ) × (clause_at new q ≡ Some [])

pub kept_satisfied : (old new : Slots) (names moved : List Name) (kept : ℕ) (bits : List Bool)
    → KeptStay old names new moved kept → SatisfiesKept new moved kept bits
    → SatisfiesKept old names kept bits
kept_satisfied old new names moved kept bits stay s r c e k = let w = stay r c e k in
    s w.0 c w.1 w.2

pub leads_back : (old new : Slots) (names moved : List Name) (kept : ℕ) (stack : StackState)
    (given : Given) → KeptStay old names new moved kept
    → LeadsBack old names kept stack given → LeadsBack new moved kept stack given
leads_back old new names moved kept stack given stay back bits long s =
    back bits long (kept_satisfied old new names moved kept bits stay s)

pub keeps_plain : (old new : Slots) (first : ℕ) (given : Given) → EmptyStays old new
    → KeepsPlain old first given → KeepsPlain new first given
keeps_plain old new first given stay plain h = let w = plain h in stay w.0 w.1

-- one more clause
pub kept_add : (slots : Slots) (names : List Name) (c : List Literal) (n : Name) (kept : ℕ)
    → length names ≡ length slots
    → KeptStay slots names (slots ++ Some c ∷ []) (names ++ n ∷ []) kept
kept_add slots names c n kept long r d e k =
    let within = live_within slots r d e in (
      r,
      clause_kept slots c d r e,
      ap (is_kept_name kept) (get_or_append_left names (n ∷ []) (Formula 0) r (omega arith)) ∙ k,
    )

pub empty_add : (slots : Slots) (c : List Literal) → EmptyStays slots (slots ++ Some c ∷ [])
empty_add slots c r e = (r, clause_kept slots c [] r e)

-- one less, which is not kept and not empty
pub kept_delete : (slots : Slots) (names : List Name) (q kept : ℕ)
    → is_kept_name kept (name_at names q) ≡ false
    → KeptStay slots names (set slots q None) names kept
kept_delete slots names q kept dropped r d e k =
    let other : r ≢ q =
    λ s. both_ways _ dropped (ap (λ x. is_kept_name kept (name_at names x)) (sym s) ∙ k) in
    (r, clause_other slots q r other ∙ e, k)

pub empty_delete : (slots : Slots) (q : ℕ) (l : Literal) (c : List Literal)
    → clause_at slots q ≡ Some (l ∷ c) → EmptyStays slots (set slots q None)
empty_delete slots q l c at r e =
    let other : r ≢ q =
    λ s. absurd (let f : ◌≡◌ {A = Option (List Literal)} (Some []) (Some (l ∷ c)) = sym e
    ∙ ap (clause_at slots) s ∙ at in cc) in
    (r, clause_other slots q r other ∙ e)

-- all under new references
pub kept_move : (before after : Slots) (names moved : List Name) (ms : Renaming) (kept : ℕ)
    → IsRenaming before after ms → All (λ m. name_at moved m.1 ≡ name_at names m.0) ms
    → KeptStay before names after moved kept
kept_move before after names moved ms kept renames along r c e k =
    let w = went before after ms renames r c e in (
      w.0,
      same_clause before after ms renames r w.0 w.1 ∙ e,
      ap (is_kept_name kept) (moved_all (λ m. name_at moved m.1 ≡ name_at names m.0) ms r w.0
          along w.1) ∙ k,
    )

pub empty_move : (before after : Slots) (ms : Renaming) → IsRenaming before after ms
    → EmptyStays before after
empty_move before after ms renames r e =
    let w = went before after ms renames r [] e in
    (w.0, same_clause before after ms renames r w.0 w.1 ∙ e)

-- additions of a search are not kept
pub not_kept : (kept additions : ℕ) → kept ≤ additions
    → is_kept_name kept (Added (additions + 1)) ≡ false
not_kept kept additions h = lt-leb (additions + 1) kept (omega arith)

-- one more clause is given, and stays: what satisfies it satisfies it also after reconstruction
pub back_given : (slots : Slots) (names : List Name) (n : Name) (c : List Literal) (kept : ℕ)
    (stack : StackState) (given : Given) → length names ≡ length slots → is_kept_name kept n ≡ true
    → ((bits : List Bool) → length bits ≡ stack.variables → Satisfies (assignment_of bits) c
    → Satisfies (assignment_of (extended stack.removed bits)) c)
    → LeadsBack slots names kept stack given
    → LeadsBack (slots ++ Some c ∷ []) (names ++ n ∷ []) kept stack (given ++ (n, c) ∷ [])
back_given slots names n c kept stack given long keeps same back bits wide s =
    let here : is_kept_name kept (name_at (names ++ n ∷ []) (length slots)) ≡ true =
    ap (is_kept_name kept) (get_or_at names n [] (Formula 0) (length slots) long) ∙ keeps in
    All-push (λ g. Satisfies (assignment_of (extended stack.removed bits)) g.1) given (n, c)
    (leads_back slots (slots ++ Some c ∷ []) names (names ++ n ∷ []) kept stack given
    (kept_add slots names c n kept long) back bits wide s)
    (same bits wide (s (length slots) c (clause_new slots c) here))
