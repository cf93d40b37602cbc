-- Tables after calls are stages of a definition.
use Rattle.std.proofs.Common.{◌≡◌, ℕ, ◌+◌, ◌<◌, ◌≤◌, ◌^◌, false, List, [], ◌∷◌, ◌++◌, length, Some}
use Rattle.std.proofs.Common.{None, refl, sym, ◌∙◌, ap, subst, arith, slice_set, length-append}
use Rattle.std.proofs.lemmas.List.{length-set}
use Rattle.cnf.specs.Literal.{Literal, negation}
use Rattle.clauses.specs.Slots.{Slots, clause_at}
use Rattle.lrat_log.specs.declared.lines.Name.{Name}
use Rattle.lrat_log.specs.declared.lines.Hint.{Hint}
use Rattle.lrat_log.specs.declared.lines.Hint.TheVariants.{Plain}
use Rattle.lrat_log.specs.declared.lines.Kind.TheVariants.{Definition, Resolvent}
use Rattle.lrat_log.specs.Log.{LogLine, is_delete}
use Rattle.eliminate_pairs.specs.declared.pairs.PairDefinition.{PairDefinition}
use Rattle.lrat_log.specs.Steps.{added_count}
use Rattle.eliminate_names.specs.Work.{NamesState, name_at, added_line, delete_line}
use Rattle.eliminate_pairs.specs.Pairs.{Ground, stage_of, positive, whole_clause, side_clause}
use Rattle.eliminate_pairs.specs.Pairs.{whole_line}
use Rattle.eliminate_pairs.specs.Pairs.{side_line, replaced, IsDefined, Stage, IsStage, IsOpenLog}
use Rattle.eliminate_pairs.specs.Pairs.{FitNames, Keeps, KeepsLog, AreRare, RestsWhereRare}
use Rattle.eliminate_pairs.specs.Pairs.{LeadsTo, Replaces, LeavesLog}
use Rattle.clauses.proofs.Laws.{clause_kept, clause_new}
use Rattle.lrat_log.proofs.Laws.{additions_few, additions_push}
use Rattle.eliminate_names.proofs.Laws.{name-push}
use Rattle.eliminate_pairs.proofs.Leading.{breaks_at, leads_here, leads_off, leads_on}
use Rattle.eliminate_pairs.proofs.Staging.{added_stage, deleted_stage, with_whole, with_side}
use Rattle.eliminate_pairs.proofs.Staging.{with_replaced}
use Rattle.eliminate_pairs.proofs.Staging.{replaced_line_of}

-- right work has an open log
pub open_log : (ground : Ground) (s : Stage) → IsStage ground s → IsOpenLog ground s.lines
open_log ground s k = record { steps = k.work.log; none_learned = k.work.none_learned }

open_log_of : (s : Stage) → KeepsLog s s.lines
open_log_of s ground k = open_log ground s k

-- the names after an addition
abbrev pub more_names : NamesState → NamesState
more_names n =
    record { names = n.names ++ added_line n.additions ∷ []; additions = n.additions + 1 }

same_stage : (v : ℕ) (slots slots' : Slots) (names names' : List Name) (lines lines' : List LogLine)
    → slots ≡ slots' → names ≡ names' → lines ≡ lines'
    → (let s : Stage = record { variables = v; slots = slots; names = names; lines = lines } in
    s) ≡ record { variables = v; slots = slots'; names = names'; lines = lines' }
same_stage v slots slots' names names' lines lines' p q r =
    λ i. record { variables = v; slots = p i; names = q i; lines = r i }

-- a call that adds a clause
pub is_added : (v w : ℕ) (slots slots' : Slots) (n n' : NamesState) (lines lines' : List LogLine)
    (l : LogLine) → n.additions ≡ added_count lines
    → slots' ≡ slots ++ Some l.clause ∷ [] → n' ≡ more_names n → lines' ≡ lines ++ l ∷ []
    → stage_of w slots' n' lines' ≡ added_stage (stage_of v slots n lines) w l
is_added v w slots slots' n n' lines lines' l counted p q r =
    same_stage w slots' (slots ++ Some l.clause ∷ []) n'.names
    (n.names ++ added_line (added_count lines) ∷ []) lines' (lines ++ l ∷ [])
    p (ap (λ (x : NamesState). x.names) q ∙ ap (λ (k : ℕ). n.names ++ added_line k ∷ []) counted) r

-- and one that deletes
pub is_deleted : (v : ℕ) (slots slots' : Slots) (n : NamesState) (lines lines' : List LogLine)
    (r : ℕ) → slots' ≡ slice_set slots r None
    → lines' ≡ lines ++ delete_line (name_at n.names r) ∷ []
    → stage_of v slots' n lines' ≡ deleted_stage (stage_of v slots n lines) r
is_deleted v slots slots' n lines lines' r p q =
    same_stage v slots' (slice_set slots r None) n.names n.names lines'
    (lines ++ delete_line (name_at n.names r) ∷ []) p refl q

-- the names fit the store and the log with a clause more
pub fit_added : (n n' : NamesState) (slots slots' : Slots) (lines lines' : List LogLine)
    (c : List Literal) (l : LogLine) → FitNames n slots lines → slots' ≡ slots ++ Some c ∷ []
    → n' ≡ more_names n → lines' ≡ lines ++ l ∷ [] → is_delete l.kind ≡ false
    → FitNames n' slots' lines'
fit_added n n' slots slots' lines lines' c l fit p q r adds =
    let e : added_count (lines ++ l ∷ []) ≡ added_count lines + 1 =
    rw adds at (additions_push lines l) in
    let f : n'.additions ≡ n.additions + 1 = ap (λ (x : NamesState). x.additions) q in
    let h : added_count lines' ≡ added_count (lines ++ l ∷ []) = ap added_count r in
    let named : length n'.names ≡ length (n.names ++ added_line n.additions ∷ []) =
    ap (λ (x : NamesState). length x.names) q in
    let long : length slots' ≡ length (slots ++ Some c ∷ []) = ap length p in
    record {
      counted = omega (arith, fit.counted);
      long =
          omega (
            arith,
            fit.long,
            length-append n.names (added_line n.additions ∷ []),
            length-append slots (Some c ∷ []),
          );
    }

-- and with one less
pub fit_deleted : (n : NamesState) (slots slots' : Slots) (lines lines' : List LogLine) (r : ℕ)
    (m : Name) → FitNames n slots lines → slots' ≡ slice_set slots r None
    → lines' ≡ lines ++ delete_line m ∷ [] → FitNames n slots' lines'
fit_deleted n slots slots' lines lines' r m fit p q =
    let e : added_count (lines ++ delete_line m ∷ []) ≡ added_count lines + 0 =
    additions_push lines (delete_line m) in
    let h : added_count lines' ≡ added_count (lines ++ delete_line m ∷ []) = ap added_count q in
    record {
      counted = omega (arith, fit.counted);
      long = fit.long ∙ sym (length-set slots r None) ∙ sym (ap length p);
    }

pub few_additions : (lines : List LogLine) → length lines < 2 ^ 61 → added_count lines + 3 < 2 ^ 62
few_additions lines short = omega (arith, additions_few lines)

-- the first clause of a definition
pub whole_is : (v : ℕ) (slots slots' : Slots) (n n' : NamesState) (lines lines' : List LogLine)
    (lits : List Literal) (hints : List Hint) (x a b : Literal) → n.additions ≡ added_count lines
    → slots' ≡ slots ++ Some lits ∷ [] → n' ≡ more_names n
    → lines' ≡ lines ++ record { kind = Definition; clause = lits; hints = hints } ∷ []
    → lits ≡ x ∷ a ∷ b ∷ [] → x ≡ negation (positive (v + 1)) → hints ≡ []
    → stage_of (v + 1) slots' n' lines' ≡ with_whole (stage_of v slots n lines) a b
whole_is v slots slots' n n' lines lines' lits hints x a b counted p q r e f h =
    let is : lits ≡ whole_clause (v + 1) a b = e ∙ ap (λ y. y ∷ a ∷ b ∷ []) f in
    is_added v (v + 1) slots slots' n n' lines lines' (whole_line (v + 1) a b) counted
    (p ∙ ap (λ c. slots ++ Some c ∷ []) is) q
    (r ∙ ap (λ (c : List Literal). lines ++ record {
      kind = Definition;
      clause = c;
      hints = hints;
    } ∷ []) is
    ∙ ap (λ (hs : List Hint). lines ++ record {
      kind = Definition;
      clause = whole_clause (v + 1) a b;
      hints = hs;
    } ∷ []) h)

-- and one of its sides
pub side_is : (v : ℕ) (slots slots' : Slots) (n n' : NamesState) (lines lines' : List LogLine)
    (s : Stage) (w f : ℕ) (a : Literal) → n.additions ≡ added_count lines
    → slots' ≡ slots ++ Some (side_clause v a) ∷ [] → n' ≡ more_names n
    → lines' ≡ lines ++ side_line v a (name_at n.names w) ∷ []
    → stage_of v slots n lines ≡ s → w ≡ f → stage_of v slots' n' lines' ≡ with_side s f a
side_is v slots slots' n n' lines lines' s w f a counted p q r e h =
    is_added v v slots slots' n n' lines lines' (side_line v a (name_at n.names w)) counted p q r
    ∙ ap (λ (x : Stage). with_side x w a) e ∙ ap (λ (k : ℕ). with_side s k a) h

-- the three clauses stand in the store
pub defined_is : (slots one two three : Slots) (z : ℕ) (a b : Literal) (w l r : ℕ)
    → one ≡ slots ++ Some (whole_clause z a b) ∷ [] → two ≡ one ++ Some (side_clause z a) ∷ []
    → three ≡ two ++ Some (side_clause z b) ∷ []
    → w ≡ length slots → l ≡ length one → r ≡ length two
    → (clause_at three w ≡ Some (whole_clause z a b)) × (clause_at three l ≡ Some (side_clause z a))
    × (clause_at three r ≡ Some (side_clause z b))
defined_is slots one two three z a b w l r p q s e f h = (
  ap (λ x. clause_at x w) s ∙ clause_kept two (side_clause z b) (whole_clause z a b) w
      (ap (λ x. clause_at x w) q ∙ clause_kept one (side_clause z a) (whole_clause z a b) w
      (ap (λ x. clause_at x w) p ∙ ap (clause_at (slots ++ Some (whole_clause z a b) ∷ [])) e
      ∙ clause_new slots (whole_clause z a b))),
  ap (λ x. clause_at x l) s ∙ clause_kept two (side_clause z b) (side_clause z a) l
      (ap (λ x. clause_at x l) q ∙ ap (clause_at (one ++ Some (side_clause z a) ∷ [])) f
      ∙ clause_new one (side_clause z a)),
  ap (λ x. clause_at x r) s ∙ ap (clause_at (two ++ Some (side_clause z b) ∷ [])) h
      ∙ clause_new two (side_clause z b),
)

-- after a refusal the log is that of a stage that is right
pub kept_log : (s t : Stage) (lines : List LogLine) → lines ≡ t.lines → Keeps s t → KeepsLog s lines
kept_log s t lines e keeps ground k =
    subst (IsOpenLog ground) (sym e) (open_log ground t (keeps ground k))

-- the name of a clause stays where another one comes
pub name_stays : (n n' : NamesState) (r : ℕ) → n' ≡ more_names n → r < length n.names
    → name_at n'.names r ≡ name_at n.names r
name_stays n n' r q within = ap (λ (x : NamesState). name_at x.names r) q
    ∙ name-push n.names (added_line n.additions) r within

-- a clause with the variable of a definition
pub replaced_is : (slots slots' : Slots) (n n' : NamesState) (lines lines' : List LogLine)
    (lits c : List Literal) (hints : List Hint) (d : PairDefinition) (r : ℕ) (x y w : Hint)
    → n.additions ≡ added_count lines
    → slots' ≡ slots ++ Some lits ∷ [] → n' ≡ more_names n
    → lines' ≡ lines ++ record { kind = Resolvent; clause = lits; hints = hints } ∷ []
    → lits ≡ replaced d.variable d.left d.right c → hints ≡ x ∷ y ∷ w ∷ []
    → x ≡ Plain (name_at n.names d.left_side) → y ≡ Plain (name_at n.names d.right_side)
    → w ≡ Plain (name_at n.names r)
    → stage_of d.variable slots' n' lines' ≡ with_replaced (stage_of d.variable slots n lines) d r c
replaced_is slots slots' n n' lines lines' lits c hints d r x y w counted p q k e h hx hy hw =
    let is : hints ≡ Plain (name_at n.names d.left_side) ∷ Plain (name_at n.names d.right_side)
    ∷ Plain (name_at n.names r) ∷ [] =
    h ∙ ap (λ (v : Hint). v ∷ y ∷ w ∷ []) hx
    ∙ ap (λ (v : Hint). Plain (name_at n.names d.left_side) ∷ v ∷ w ∷ []) hy
    ∙ ap (λ (v : Hint). Plain (name_at n.names d.left_side) ∷ Plain (name_at n.names d.right_side)
    ∷ v ∷ []) hw in
    is_added d.variable d.variable slots slots' n n' lines lines'
    (replaced_line_of (stage_of d.variable slots n lines) d r c) counted
    (p ∙ ap (λ v. slots ++ Some v ∷ []) e) q
    (k ∙ ap (λ (v : List Literal). lines ++ record {
      kind = Resolvent;
      clause = v;
      hints = hints;
    } ∷ []) e
    ∙ ap (λ (hs : List Hint). lines ++ record {
      kind = Resolvent;
      clause = replaced d.variable d.left d.right c;
      hints = hs;
    } ∷ []) is)

-- what was right at a stage is so with the variable of a definition that stands
pub record Defines (s : Stage) (v : ℕ) (d : PairDefinition) (slots : Slots) (n : NamesState)
    (lines : List LogLine) : Type 0 where
  pub variable : d.variable ≡ v + 1
  pub defined : IsDefined slots d
  pub fit : FitNames n slots lines
  pub keeps : Keeps s (stage_of d.variable slots n lines)
  pub moves : LeadsTo s (stage_of d.variable slots n lines)

pub defines_same : (s : Stage) (v : ℕ) (d : PairDefinition) (slots slots' : Slots)
    (n n' : NamesState)
    (lines lines' : List LogLine) → slots' ≡ slots → n' ≡ n → lines' ≡ lines
    → Defines s v d slots n lines → Defines s v d slots' n' lines'
defines_same s v d slots slots' n n' lines lines' p q r h =
    subst (λ (x : Slots). Defines s v d x n' lines') (sym p)
    (subst (λ (x : NamesState). Defines s v d slots x lines') (sym q)
    (subst (λ (x : List LogLine). Defines s v d slots n x) (sym r) h))

-- one rest after another
rests_on : (s t u : Stage) → RestsWhereRare s t → RestsWhereRare t u → RestsWhereRare s u
rests_on s t u p q r = q (subst (λ (x : Stage). AreRare x.slots) (sym (p r)) r) ∙ p r

-- nothing was done yet
pub replaces_none : (v most : ℕ) (slots : Slots) (n : NamesState) (lines : List LogLine)
    → v ≤ most → FitNames n slots lines
    → Replaces (stage_of v slots n lines) most v slots n lines
replaces_none v most slots n lines le fit = record {
  more = omega arith;
  most = le;
  fit = fit;
  keeps = λ ground k. k;
  moves = leads_here (stage_of v slots n lines);
  rests = λ rare. refl;
}

module _ (s : Stage) (most last : ℕ) (slots : Slots) (n : NamesState) (lines : List LogLine)
    (h : Replaces s most last slots n lines) where
  -- pairs are replaced after others
  pub replaces_on : (bound last' : ℕ) (slots' : Slots) (n' : NamesState) (lines' : List LogLine)
      → bound ≤ most → Replaces (stage_of last slots n lines) bound last' slots' n' lines'
      → Replaces s most last' slots' n' lines'
  replaces_on bound last' slots' n' lines' within next = record {
    more = omega (arith, h.more, next.more);
    most = omega (arith, next.most);
    fit = next.fit;
    keeps = λ ground k. next.keeps ground (h.keeps ground k);
    moves =
        leads_on s (stage_of last slots n lines) (stage_of last' slots' n' lines') h.moves
        next.moves;
    rests =
        rests_on s (stage_of last slots n lines) (stage_of last' slots' n' lines') h.rests
        next.rests;
  }

  -- and an error comes after that, or at once
  pub leaves_on : (lines' : List LogLine) → LeavesLog (stage_of last slots n lines) lines'
      → LeavesLog s lines'
  leaves_on lines' next = record {
    log = λ ground k. next.log ground (h.keeps ground k);
    moves = leads_off s (stage_of last slots n lines) lines' h.moves next.moves;
    rests =
        λ rare. next.rests (subst (λ (x : Stage). AreRare x.slots) (sym (h.rests rare)) rare)
        ∙ ap (λ (x : Stage). x.lines) (h.rests rare);
  }

  pub leaves_now : LeavesLog s lines
  leaves_now = record {
    log = λ ground k. open_log ground (stage_of last slots n lines) (h.keeps ground k);
    moves =
        let t : Stage = stage_of last slots n lines in
        (t, h.moves, breaks_at t lines refl (open_log_of t));
    rests = λ rare. ap (λ (x : Stage). x.lines) (h.rests rare);
  }

  pub replaces_same : (last' : ℕ) (slots' : Slots) (n' : NamesState) (lines' : List LogLine)
      → last' ≡ last → slots' ≡ slots → n' ≡ n → lines' ≡ lines
      → Replaces s most last' slots' n' lines'
  replaces_same last' slots' n' lines' e p q r =
      subst (λ (x : ℕ). Replaces s most x slots' n' lines') (sym e)
      (subst (λ (x : Slots). Replaces s most last x n' lines') (sym p)
      (subst (λ (x : NamesState). Replaces s most last slots x lines') (sym q)
      (subst (λ (x : List LogLine). Replaces s most last slots n x) (sym r) h)))
