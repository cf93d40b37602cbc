-- What a clause has beside two literals of it.
use Rattle.std.proofs.Common.{◌≡◌, ◌≢◌, ℕ, true, false, List, [], ◌∷◌, ◌++◌, Option, Some, None}
use Rattle.std.proofs.Common.{◌⊎◌, inl, inr, sym, ◌∙◌, subst}
use Rattle.std.specs.Prelude.{All, MatchOption}
use Rattle.std.specs.List.{AllByRecursion}
use Rattle.std.proofs.lemmas.Bool.{or_cases, false≢true}
use Rattle.cnf.specs.Literal.{Literal, literal_eq, negation}
use Rattle.cnf.specs.Clause.{contains_literal}
use Rattle.cnf.proofs.Laws.{literal_eq-true, all_from, contains-append}
use Rattle.cnf.proofs.Laws.{contains_front, member_pushed}
use Rattle.clauses.specs.Slots.{Slots, clause_at}
use Rattle.propagate_watches.specs.declared.table.Rest.{Rest}
use Rattle.propagate_watches.specs.declared.table.Rest.TheVariants.{Nothing, One, Many}
use Rattle.propagate_watches.specs.declared.pool.WatchEntry.{WatchEntry}
use Rattle.propagate_watches.specs.Table.{attachment_in, rest_in, IsWatchedBy}
use Rattle.propagate_trail.specs.Trail.{literals_of, value_in}
use Rattle.propagate.specs.Watches.{EngineState}
use Rattle.propagate.specs.Fits.{IsRest}
use Rattle.propagate.specs.Steps.{IsWatched, LeavesOne, MayBeWatched}
use Rattle.propagate.proofs.Looking.{same_other, one_left}

pushed_member : (l x : Literal) (c : List Literal) → contains_literal l (c ++ x ∷ []) ≡ true
    → (contains_literal l c ≡ true) ⊎ (l ≡ x)
pushed_member l x c e =
    elim (or_cases (contains_literal l c) (contains_literal l (x ∷ []))
    (sym (contains-append l c (x ∷ [])) ∙ e)) [
      | inl m ↦ inl m
      | inr m ↦ elim (or_cases (literal_eq l x) false m) [
        | inl s ↦ inr (literal_eq-true l x s)
        | inr f ↦
            absurd (false≢true f)
      ]
    ]

-- one of the two literals more
pub rest_same : (c : List Literal) (one other x : Literal) (rest : Rest) → (x ≡ one) ⊎ (x ≡ other)
    → IsRest c one other rest → IsRest (c ++ x ∷ []) one other rest
rest_same c one other x Nothing is h = λ l m. elim (pushed_member l x c m) [
  | inl k ↦ h l k
  | inr s ↦ elim is [ inl e ↦ inl (s ∙ e) | inr e ↦ inr (s ∙ e) ]
]
rest_same c one other x (One third) is h = (
  contains_front third c (x ∷ []) h.0,
  h.1,
  h.2,
  λ l m. elim (pushed_member l x c m) [
    | inl k ↦ h.3 l k
    | inr s ↦ elim is [ inl e ↦ inl (s ∙ e) | inr e ↦ inr (inl (s ∙ e)) ]
  ],
)
rest_same c one other x Many is h = tt

-- a third one
pub rest_third : (c : List Literal) (one other x : Literal) → x ≢ one → x ≢ other
    → IsRest c one other Nothing → IsRest (c ++ x ∷ []) one other (One x)
rest_third c one other x a b h = (
  member_pushed x c,
  a,
  b,
  λ l m. elim (pushed_member l x c m) [
    | inl k ↦ elim (h l k) [ inl e ↦ inl e | inr e ↦ inr (inl e) ]
    | inr s ↦ inr (inr s)
  ],
)

abbrev IsLeft : List Literal → Literal → Literal → Type 0
IsLeft A o l = (l ≡ o) ⊎ (contains_literal (negation l) A ≡ true)

false_too : (A : List Literal) (k l : Literal) → l ≡ k → contains_literal (negation k) A ≡ true
    → contains_literal (negation l) A ≡ true
false_too A k l e f = subst (λ x. contains_literal (negation x) A ≡ true) (sym e) f

-- beside a false literal and another there is nothing, or a false one
pub nothing_left : (A c : List Literal) (w o : Literal) → IsRest c w o Nothing
    → contains_literal (negation w) A ≡ true
    → AllByRecursion (λ l. (l ≡ o) ⊎ (contains_literal (negation l) A ≡ true)) c
nothing_left A c w o h f =
    all_from (IsLeft A o) c (λ l m. elim (h l m) [
      | inl e ↦ inr (false_too A w l e f)
      | inr e ↦ inl e
    ])

pub one_false : (A c : List Literal) (w o t : Literal) → IsRest c w o (One t)
    → contains_literal (negation w) A ≡ true → contains_literal (negation t) A ≡ true
    → AllByRecursion (λ l. (l ≡ o) ⊎ (contains_literal (negation l) A ≡ true)) c
one_false A c w o t h f g = all_from (IsLeft A o) c (λ l m. elim (h.3 l m) [
  | inl e ↦ inr (false_too A w l e f)
  | inr k ↦ elim k [ inl e ↦ inl e | inr e ↦ inr (false_too A t l e g) ]
])

-- what is beside the watches of a clause
pub rest_known : (slots : Slots) (e : EngineState) (w o : Literal) (x : WatchEntry) (rest k : Rest)
    (W : IsWatched slots e w x) → IsWatchedBy (attachment_in e.watches.table x.reference) w o
    → rest ≡ rest_in (attachment_in e.watches.table x.reference) → rest ≡ k → IsRest W.clause w o k
rest_known slots e w o x rest k W by is same =
    let so : o ≡ W.other =
    same_other (attachment_in e.watches.table x.reference) w W.other o W.apart W.attachment by in
    subst (IsRest W.clause w o) (sym is ∙ same)
    (subst (λ z. IsRest W.clause w z (rest_in (attachment_in e.watches.table x.reference)))
    (sym so) W.rest)

-- what a search through the whole clause leaves
pub search_left : (slots : Slots) (e : EngineState) (r : ℕ) (o : Literal) (c : List Literal)
    (found : Option Literal) → clause_at slots r ≡ Some c
    → MatchOption found (All (λ l. (l ≡ o) ⊎ (value_in e.trail l ≡ Some false)) c)
    (λ l. (contains_literal l c ≡ true) × (l ≢ o) × (value_in e.trail l ≢ Some false))
    → MatchOption found (LeavesOne slots e r o) (λ l. (l ≢ o) × MayBeWatched slots e r l)
search_left slots e r o c None at h = λ d live. let same : c ≡ d = cc (at, live) in
    subst (AllByRecursion (IsLeft (literals_of e.trail) o)) same (one_left e.trail c o h)
search_left slots e r o c (Some l) at h = (
  h.1,
  (
    h.2,
    λ d live. let same : c ≡ d = cc (at, live) in
        subst (λ x. contains_literal l x ≡ true) same h.0,
  ),
)
