-- Live clauses move together, and their names with them.
use Rattle.std.proofs.Common.{◌≡◌, ℕ, zero, suc, ◌+◌, ◌<◌, ◌≤◌, List, [], ◌∷◌, ◌++◌, length, get_or}
use Rattle.std.proofs.Common.{set, take, drop, map, Some, None, refl, sym, ◌∙◌, ap, subst, arith}
use Rattle.std.proofs.Common.{append_assoc}
use Rattle.std.specs.Prelude.{All}
use Rattle.std.proofs.lemmas.List.{length-set, take_more_set, drop-set-lt, drop_more}
use Rattle.std.proofs.lemmas.List.{append-nil}
use Rattle.std.proofs.lemmas.List.Elements.{All-nil, All-cons, All-head, All-tail}
use Rattle.std.proofs.lemmas.Grind.{drop_more_same}
use Rattle.std.proofs.lemmas.Option.{none-some}
use Rattle.cnf.specs.Literal.{Literal}
use Rattle.cnf.specs.Refute.{Clauses}
use Rattle.cnf.specs.Lrat.{IsId}
use Rattle.clauses.specs.Slots.{Slots, clause_at, live_clauses}
use Rattle.lrat_log.specs.declared.lines.Name.{Name}
use Rattle.lrat_log.specs.Log.{LogLine, Given, id_of, number_in}
use Rattle.eliminate_names.specs.Work.{name_at, NamesState, AreLiveAs}
use Rattle.eliminate_names.specs.Work.{IsWork}
use Rattle.eliminate_names.specs.Together.{live_names}

-- The list closes its gaps.

-- `place` places were passed, of which these names are kept, each in the front
pub record IsClosing (names all : List Name) (slots : Slots) (kept place : ℕ) : Type 0 where
  pub few : kept ≤ place
  pub long : length names ≡ length all
  pub front : take kept names ++ live_names (drop place all) (drop place slots)
      ≡ live_names all slots
  pub back : drop place names ≡ drop place all

pub closing_none : (all : List Name) (slots : Slots) → IsClosing all all slots 0 0
closing_none all slots = record {
  few = omega arith;
  long = refl;
  front = refl;
  back = refl;
}

-- a name more, where the place is live or not
names_live : (names : List Name) (slots : Slots) (place : ℕ) (c : List Literal) (d : Name)
    → length names ≡ length slots → clause_at slots place ≡ Some c
    → live_names (drop place names) (drop place slots)
    ≡ get_or names place d ∷ live_names (drop (suc place) names) (drop (suc place) slots)
names_live names [] place c d long e = absurd (none-some c e)
names_live [] (s ∷ slots) place c d long e = absurd (omega arith)
names_live (n ∷ names) (None ∷ slots) zero c d long e = absurd (none-some c e)
names_live (n ∷ names) (Some x ∷ slots) zero c d long e = refl
names_live (n ∷ names) (s ∷ slots) (suc place) c d long e =
    names_live names slots place c d (omega arith) e

names_dead : (names : List Name) (slots : Slots) (place : ℕ) → place < length slots
    → length names ≡ length slots → clause_at slots place ≡ None
    → live_names (drop place names) (drop place slots)
    ≡ live_names (drop (suc place) names) (drop (suc place) slots)
names_dead names [] place lt long e = absurd (omega arith)
names_dead [] (s ∷ slots) place lt long e = absurd (omega arith)
names_dead (n ∷ names) (None ∷ slots) zero lt long e = refl
names_dead (n ∷ names) (Some x ∷ slots) zero lt long e = absurd (none-some x (sym e))
names_dead (n ∷ names) (s ∷ slots) (suc place) lt long e =
    names_dead names slots place (omega arith) (omega arith) e

-- two lists that agree from a place on
back_more : (xs ys : List Name) (i : ℕ) → drop i xs ≡ drop i ys
    → drop (i + 1) xs ≡ drop (i + 1) ys
back_more xs ys i e = drop_more_same xs ys i e

back_at : (xs ys : List Name) (i : ℕ) (d : Name) → i < length xs → i < length ys
    → drop i xs ≡ drop i ys → get_or xs i d ≡ get_or ys i d
back_at xs ys i d lt within e =
    ap (λ zs. get_or zs 0 d) (sym (drop_more xs i d lt) ∙ e ∙ drop_more ys i d within)

pub closing_live : (names all : List Name) (slots : Slots) (kept place : ℕ) (c : List Literal)
    (n : Name) → length all ≡ length slots → place < length slots → clause_at slots place ≡ Some c
    → n ≡ get_or names place n → IsClosing names all slots kept place
    → IsClosing (set names kept n) all slots (kept + 1) (place + 1)
closing_live names all slots kept place c n same lt e is h =
    let within : place < length names = let l = h.long in omega arith in
    let inside : place < length all = omega arith in
    let first : kept < length names = let f = h.few in omega arith in
    let next : place + 1 ≡ suc place = omega arith in
    let name : n ≡ get_or all place n = is ∙ back_at names all place n within inside h.back in
    record {
      few = (let f = h.few in omega arith);
      long = length-set names kept n ∙ h.long;
      front = rw (take_more_set names kept n first, next)
          (append_assoc (take kept names) (n ∷ [])
          (live_names (drop (suc place) all) (drop (suc place) slots))
          ∙ ap (λ (m : Name). take kept names ++ m ∷ live_names (drop (suc place) all)
          (drop (suc place) slots)) name
          ∙ ap (λ (ms : List Name). take kept names ++ ms)
          (sym (names_live all slots place c n same e)) ∙ h.front);
      back = drop-set-lt (place + 1) names kept n (let f = h.few in omega arith)
          ∙ back_more names all place h.back;
    }

pub closing_dead : (names all : List Name) (slots : Slots) (kept place : ℕ)
    → length all ≡ length slots → place < length slots → clause_at slots place ≡ None
    → IsClosing names all slots kept place → IsClosing names all slots kept (place + 1)
closing_dead names all slots kept place same lt e h =
    let next : place + 1 ≡ suc place = omega arith in
    record {
      few = (let f = h.few in omega arith);
      long = h.long;
      front = rw next (ap (λ (ms : List Name). take kept names ++ ms)
          (sym (names_dead all slots place lt same e)) ∙ h.front);
      back = back_more names all place h.back;
    }

names_nowhere : (names : List Name) → live_names names [] ≡ []
names_nowhere [] = refl
names_nowhere (n ∷ names) = refl

names_past : (names : List Name) (slots : Slots) (place : ℕ) → length names ≤ place
    → live_names (drop place names) (drop place slots) ≡ []
names_past [] slots zero le = refl
names_past [] slots (suc place) le = refl
names_past (n ∷ names) slots zero le = absurd (omega arith)
names_past (n ∷ names) [] (suc place) le = names_nowhere (drop place names)
names_past (n ∷ names) (s ∷ slots) (suc place) le = names_past names slots place (omega arith)

pub closing_all : (names all : List Name) (slots : Slots) (kept place : ℕ)
    → length all ≤ place → IsClosing names all slots kept place
    → take kept names ≡ live_names all slots
closing_all names all slots kept place le h =
    sym (append-nil (take kept names))
    ∙ ap (λ (ms : List Name). take kept names ++ ms) (sym (names_past all slots place le))
    ∙ h.front

-- The clauses are those that were live, under the same ids.

-- the place from which the clause in this place came
origin : Slots → ℕ → ℕ
origin [] r = r
origin (None ∷ slots) r = suc (origin slots r)
origin (Some c ∷ slots) zero = zero
origin (Some c ∷ slots) (suc r) = suc (origin slots r)

clause_from : (slots : Slots) (r : ℕ) (c : List Literal)
    → clause_at (map Some (live_clauses slots)) r ≡ Some c
    → clause_at slots (origin slots r) ≡ Some c
unfolding origin
clause_from [] r c e = absurd (none-some c e)
clause_from (None ∷ slots) r c e = clause_from slots r c e
clause_from (Some d ∷ slots) zero c e = e
clause_from (Some d ∷ slots) (suc r) c e = clause_from slots r c e

name_from : (names : List Name) (slots : Slots) (r : ℕ) (c : List Literal)
    → length names ≡ length slots → clause_at (map Some (live_clauses slots)) r ≡ Some c
    → name_at (live_names names slots) r ≡ name_at names (origin slots r)
unfolding origin
name_from names [] r c long e = absurd (none-some c e)
name_from [] (s ∷ slots) r c long e = absurd (omega arith)
name_from (n ∷ names) (None ∷ slots) r c long e = name_from names slots r c (omega arith) e
name_from (n ∷ names) (Some d ∷ slots) zero c long e = refl
name_from (n ∷ names) (Some d ∷ slots) (suc r) c long e = name_from names slots r c (omega arith) e

same_from : (slots : Slots) (r s : ℕ) (c d : List Literal)
    → clause_at (map Some (live_clauses slots)) r ≡ Some c
    → clause_at (map Some (live_clauses slots)) s ≡ Some d → origin slots r ≡ origin slots s → r ≡ s
unfolding origin
same_from [] r s c d e f same = absurd (none-some c e)
same_from (None ∷ slots) r s c d e f same = same_from slots r s c d e f (omega arith)
same_from (Some x ∷ slots) zero zero c d e f same = refl
same_from (Some x ∷ slots) zero (suc s) c d e f same = absurd (omega arith)
same_from (Some x ∷ slots) (suc r) zero c d e f same = absurd (omega arith)
same_from (Some x ∷ slots) (suc r) (suc s) c d e f same =
    ap suc (same_from slots r s c d e f (omega arith))

arrived : (slots : Slots) (q : ℕ) (c : List Literal) → clause_at slots q ≡ Some c
    → (r : ℕ) × (clause_at (map Some (live_clauses slots)) r ≡ Some c) × (origin slots r ≡ q)
unfolding origin
arrived [] q c e = absurd (none-some c e)
arrived (None ∷ slots) zero c e = absurd (none-some c e)
arrived (None ∷ slots) (suc q) c e = let w = arrived slots q c e in (w.0, w.1, ap suc w.2)
arrived (Some d ∷ slots) zero c e = (zero, e, refl)
arrived (Some d ∷ slots) (suc q) c e = let w = arrived slots q c e in (suc w.0, w.1, ap suc w.2)

live_together : (names : List Name) (slots : Slots) (at : Clauses) (base last : ℕ)
    → length names ≡ length slots
    → AreLiveAs (λ r. id_of base (name_at names r)) slots at last
    → AreLiveAs (λ r. id_of base (name_at (live_names names slots) r))
    (map Some (live_clauses slots)) at last
live_together names slots at base last long a = record {
  named = λ r c e. ap (λ (n : Name). at (id_of base n)) (name_from names slots r c long e)
      ∙ a.named (origin slots r) c (clause_from slots r c e);
  only = λ i c e.
      let w = a.only i c e in
      let v = arrived slots w.0 c w.1 in (
        v.0,
        v.1,
        ap (id_of base) (name_from names slots v.0 c long v.1 ∙ ap (name_at names) v.2)
            ∙ w.2,
      );
  differ = λ r s c d e f same. same_from slots r s c d e f
      (a.differ (origin slots r) (origin slots s) c d (clause_from slots r c e)
      (clause_from slots s d f)
      (sym (ap (id_of base) (name_from names slots r c long e)) ∙ same
      ∙ ap (id_of base) (name_from names slots s d long f)));
  below = λ r c e. subst (λ (n : Name). id_of base n ≤ last)
      (sym (name_from names slots r c long e))
      (a.below (origin slots r) c (clause_from slots r c e));
}

long_together : (names : List Name) (slots : Slots) → length names ≡ length slots
    → length (live_names names slots) ≡ length (map Some (live_clauses slots))
long_together [] [] long = refl
long_together [] (s ∷ slots) long = absurd (omega arith)
long_together (n ∷ names) [] long = absurd (omega arith)
long_together (n ∷ names) (None ∷ slots) long = long_together names slots (omega arith)
long_together (n ∷ names) (Some c ∷ slots) long = ap suc (long_together names slots (omega arith))

all_left : (P : Name → Type 0) (names : List Name) (slots : Slots) → All P names
    → All P (live_names names slots)
all_left P [] slots all = All-nil P
all_left P (n ∷ names) [] all = All-nil P
all_left P (n ∷ names) (None ∷ slots) all = all_left P names slots (All-tail P n names all)
all_left P (n ∷ names) (Some c ∷ slots) all =
    All-cons P n (live_names names slots) (All-head P n names all)
    (all_left P names slots (All-tail P n names all))

-- a store whose clauses have moved together, with their names
pub record AreTogether (slots moved : Slots) (names n : NamesState) : Type 0 where
  pub slots_are : moved ≡ map Some (live_clauses slots)
  pub names_are : n ≡ record names { names = live_names names.names slots }

pub together_fit : (slots moved : Slots) (names n : NamesState)
    → AreTogether slots moved names n → length names.names ≡ length slots
    → length n.names ≡ length moved
together_fit slots moved names n t long =
    ap (λ (x : NamesState). length x.names) t.names_are ∙ long_together names.names slots long
    ∙ sym (ap length t.slots_are)

-- what was work in hand stays so
pub work_together : (first variables : ℕ) (given : Given) (slots : Slots) (names : List Name)
    (lines : List LogLine) → IsWork first variables given slots names lines
    → IsWork first variables given (map Some (live_clauses slots)) (live_names names slots) lines
work_together first variables given slots names lines w = record {
  log = w.log;
  none_learned = w.none_learned;
  named = record {
    long = long_together names slots w.named.long;
    numbers = all_left (λ n. IsId (number_in n)) names slots w.named.numbers;
    live = λ base above. live_together names slots _ base _ w.named.long (w.named.live base above);
  };
  clauses = λ r c e. w.clauses (origin slots r) c (clause_from slots r c e);
}

-- each of the clauses was there
pub was_there : (slots : Slots) (r : ℕ) (c : List Literal)
    → clause_at (map Some (live_clauses slots)) r ≡ Some c
    → (q : ℕ) × (clause_at slots q ≡ Some c)
was_there slots r c e = (origin slots r, clause_from slots r c e)
