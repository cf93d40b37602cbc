-- An addition that follows by its hints alone, or a deletion, is judged right.
use Rattle.std.proofs.Common.{◌≡◌, ℕ, ◌<◌, ◌≤◌, Bool, true, false, List, [], ◌∷◌, ◌++◌, map, Option}
use Rattle.std.proofs.Common.{Some, None, Result, Ok, Err, refl, sym, ◌∙◌, ap, subst, arith, cond}
use Rattle.std.specs.Prelude.{All, nat_eq, nat_le, not, ◌==◌, ◌||◌, if◌then◌else◌, IsSome, is_some}
use Rattle.std.proofs.Common.{◌⊎◌, inl, inr}
use Rattle.std.specs.List.{AllByRecursion, IsDistinct, list_any}
use Rattle.std.proofs.lemmas.Bool.{cases_Bool, cond-false, eq-eqb, eqb-true, false≢true, lt-leb}
use Rattle.std.proofs.lemmas.Bool.{ne_eqb}
use Rattle.std.proofs.lemmas.List.Elements.{All-append, All-cons, All-filter, All-nil}
use Rattle.cnf.specs.Clause.{has_repeat}
use Rattle.cnf.specs.Literal.{Literal, negation}
use Rattle.cnf.specs.Lrat.{IsAddable, Live, Addition, Deletion, with_clause}
use Rattle.cnf.specs.Lrat.{without_ids}
use Rattle.cnf.specs.Refute.{Refutes}
use Rattle.text.specs.LratText.{HasNumbers, line_tokens}
use Rattle.lrat_live.specs.Listed.{Listed, listed_at, without_id}
use Rattle.lrat_live.proofs.Laws.{listed_at-push, listed_at-without}
use Rattle.lrat_read.specs.Form.{Parsed, Malformed, groups_of, leading, line_of}
use Rattle.lrat_read.specs.Form.{Addition as ParsedAddition, Deletion as ParsedDeletion}
use Rattle.lrat_read.specs.Words.{WordLine, after_word, word_of}
use Rattle.lrat_read.specs.declared.words.Word.{Word}
use Rattle.lrat_read.proofs.Laws.{groups_of-signed_hints, leading-signed_hints, line_read}
use Rattle.lrat_read.proofs.Laws.{parsed_no_word}
use Rattle.lrat_read.proofs.Laws.{signed_hints}
use Rattle.lrat_machine.specs.Rup.{deleted_from, rup_fault}
use Rattle.lrat_machine.specs.Steps.{live_of}
use Rattle.lrat_machine.specs.declared.verdicts.Cause.{Cause}
use Rattle.lrat_machine.specs.declared.verdicts.Cause.TheVariants.{TrailingLine}
use Rattle.lrat_machine.proofs.Laws.{NoneRepeats, small_none, walk_from_refutes}
use Rattle.lrat_cuts.specs.Cuts.{CutsState, judged_line, judged_plain, judged_word, put}

-- a list and a last id are these live clauses
pub record Matches (es : Listed) (last : ℕ) (live : Live) : Type 0 where
  pub clauses : (i : ℕ) → listed_at es i ≡ live.clause_at i
  pub last_is : last ≡ live.last
  pub up_to : All (λ e. e.0 ≤ last) es
  pub single : NoneRepeats (listed_at es)
  pub in_range : (i : ℕ) (c : List Literal) → live.clause_at i ≡ Some c → (0 < i) × (i ≤ last)

-- a line that begins with no word
abbrev on_word : Option ℕ → CutsState → List (List ℕ) → List ℕ → Option Word
    → Result CutsState Cause
on_word o s us t None = judged_plain (line_of (t ∷ us)) s
on_word o s us t (Some w) = judged_word o (after_word w us) s

abbrev said_by : Option ℕ → CutsState → List (List ℕ) → List ℕ → Option Word → Bool
    → Result CutsState Cause
said_by o s us t word ended = if ended then Err TrailingLine else on_word o s us t word

abbrev line_by : List (List ℕ) → Option Word → Option (Option WordLine)
line_by us None = None
line_by us (Some w) = Some (after_word w us)

plain_line : (o : Option ℕ) (s : CutsState) (ts : List (List ℕ)) (p : Parsed) → line_of ts ≡ p
    → (p ≡ Malformed → ⊥) → s.ended ≡ false → judged_line o s ts ≡ judged_plain p s
plain_line o s [] p e n open_end = absurd (n (sym e))
plain_line o s (t ∷ us) p e n open_end =
    let none : word_of t ≡ None =
    elim (word_of t) as (λ o. line_by us o ≡ None → o ≡ None) [
      | None ↦ λ e. refl
      | Some w ↦ λ e. absurd (cc)
    ] (parsed_no_word (t ∷ us) (λ z. n (sym e ∙ z))) in
    ap (λ x. said_by o s us t x s.ended) none ∙ ap (said_by o s us t None) open_end
    ∙ ap (λ x. judged_plain x s) e

-- the hints of an addition end in a conflict
rup_none : (s : CutsState) (live : Live) (id : ℕ) (c : List Literal) (hs : List (Bool × ℕ))
    → Matches s.live s.last live → IsAddable live id c → groups_of hs ≡ []
    → Refutes live.clause_at (map negation c) (leading hs)
    → rup_fault (live_of s.last s.live) id c hs ≡ None
rup_none s live id c hs m a none r =
    let same : listed_at s.live ≡ live.clause_at = λ i j. m.clauses j i in
    let here = subst (λ at. Refutes at (map negation c) (leading hs)) (sym same) r in
    let ends = walk_from_refutes (listed_at s.live) m.single (map negation c) (leading hs) here in
    let above : nat_le id s.last ≡ false = lt-leb id s.last (omega (arith, m.last_is, a.rising)) in
    let repeats = a.no_repeat in
    let tautology = a.no_tautology in
    let small = small_none c a.small in
    rw (above, repeats, tautology, small, ends, none) refl

pub addition_judged : (o : Option ℕ) (s : CutsState) (live : Live) (id : ℕ) (c : List Literal)
    (hints : List ℕ) → Matches s.live s.last live → s.ended ≡ false → IsAddable live id c
    → Refutes live.clause_at (map negation c) hints → HasNumbers (Addition id c hints [])
    → judged_line o s (line_tokens (Addition id c hints [])) ≡ Ok (put id c s)
addition_judged o s live id c hints m open_end a r numbers =
    let hs = signed_hints hints [] in
    let refutes = subst (Refutes live.clause_at (map negation c))
    (sym (leading-signed_hints hints [])) r in
    let fault = rup_none s live id c hs m a (groups_of-signed_hints hints []) refutes in
    plain_line o s (line_tokens (Addition id c hints [])) (ParsedAddition id c hs)
    (line_read (Addition id c hints []) numbers) (λ z. absurd (cc)) open_end ∙ rw fault refl

pub matches_put : (es : Listed) (last : ℕ) (live : Live) (id : ℕ) (c : List Literal)
    → Matches es last live → IsAddable live id c
    → Matches (es ++ (id, c) ∷ []) id (with_clause live id c)
matches_put es last live id c m a =
    let rising : last < id = omega (arith, m.last_is, a.rising) in
    let below : All (λ e. e.0 < id) es =
    λ i d h. let u = m.up_to i d h in omega (arith, u, rising) in
    let at : (j : ℕ) → listed_at (es ++ (id, c) ∷ []) j ≡ cond (j == id) (Some c)
    (listed_at es j) = λ j. listed_at-push es id c below j in
    record {
      clauses = λ j. at j ∙ ap (cond (j == id) (Some c)) (m.clauses j);
      last_is = refl;
      up_to = All-append (λ e. e.0 ≤ id) es ((id, c) ∷ [])
          (λ i d h. let u = m.up_to i d h in omega (arith, u, rising))
          (All-cons (λ (e : ℕ × List Literal). e.0 ≤ id) (id, c) [] (omega arith)
          (All-nil (λ (e : ℕ × List Literal). e.0 ≤ id)));
      single = λ j d e. single_put (j == id) c (listed_at es j) d a.no_repeat
          (λ f. m.single j d f) (sym (at j) ∙ e);
      in_range = λ j d e. range_put j d e (cases_Bool (j == id)) rising;
    }
  where
    range_put : (j : ℕ) (d : List Literal) → cond (j == id) (Some c) (live.clause_at j) ≡ Some d
        → ((j == id) ≡ true) ⊎ ((j == id) ≡ false) → last < id → (0 < j) × (j ≤ id)
    range_put j d e (inl t) rising = let same = eqb-true j id t in (omega arith, omega arith)
    range_put j d e (inr f) rising =
        let r = m.in_range j d (sym (cond-false (j == id) (Some c) (live.clause_at j) f) ∙ e) in
        (omega (arith, r.0), omega (arith, r.1))

    single_put : (b : Bool) (c : List Literal) (o : Option (List Literal)) (d : List Literal)
        → has_repeat c ≡ false → (o ≡ Some d → has_repeat d ≡ false)
        → cond b (Some c) o ≡ Some d → has_repeat d ≡ false
    single_put true c o d n f e = let same : c ≡ d = cc in
        subst (λ x. has_repeat x ≡ false) same n
    single_put false c o d n f e = f e

-- deletions
flip : (i j : ℕ) → nat_eq i j ≡ false → (j == i) ≡ false
flip i j h = ne_eqb j i (λ e. false≢true (sym h ∙ eq-eqb i j (sym e)))

still : (i : ℕ) (es : Listed) (js : List ℕ) → AllByRecursion (λ j. nat_eq i j ≡ false) js
    → AllByRecursion (λ j. IsSome (listed_at es j)) js
    → AllByRecursion (λ j. IsSome (listed_at (without_id i es) j)) js
still i es [] n h = tt
still i es (j ∷ js) n h =
    let same : listed_at (without_id i es) j ≡ listed_at es j = listed_at-without i es j
    ∙ ap (λ b. cond b None (listed_at es j)) (flip i j n.0) in
    (subst (λ o. IsSome o) (sym same) h.0, still i es js n.1 h.1)

either : (a b : Bool) (o : Option (List Literal))
    → cond b None (cond a None o) ≡ cond (a || b) None o
either true true o = refl
either true false o = refl
either false true o = refl
either false false o = refl

-- what is left of a list
record Leaves (es : Listed) (ids : List ℕ) (left : Listed) : Type 0 where
  deleted : deleted_from es ids ≡ Some left
  at : (j : ℕ) → listed_at left j ≡ cond (list_any (nat_eq j) ids) None (listed_at es j)
  up_to : (last : ℕ) → All (λ e. e.0 ≤ last) es → All (λ e. e.0 ≤ last) left

leaves : (ids : List ℕ) (es : Listed) → IsDistinct nat_eq ids
    → AllByRecursion (λ i. IsSome (listed_at es i)) ids → (left : Listed) × Leaves es ids left
unfolding IsDistinct
leaves [] es d h = (es, record { deleted = refl; at = λ j. refl; up_to = λ last u. u })
leaves (i ∷ is) es d h =
    let less = without_id i es in
    let rest = leaves is less d.1 (still i es is d.0 h.1) in
    let here : is_some (listed_at es i) ≡ true = h.0 in (
      rest.0,
      record {
        deleted = rw here rest.1.deleted;
        at = λ j. rest.1.at j
            ∙ ap (cond (list_any (nat_eq j) is) None) (listed_at-without i es j)
            ∙ either (j == i) (list_any (nat_eq j) is) (listed_at es j);
        up_to = λ last u. rest.1.up_to last (All-filter (λ (e : ℕ × List Literal). not (e.0 == i))
            (λ e. e.0 ≤ last) es u);
      },
    )

live_some : (s : CutsState) (live : Live) (ids : List ℕ) → Matches s.live s.last live
    → AllByRecursion (λ i. (c : List Literal) × (live.clause_at i ≡ Some c)) ids
    → AllByRecursion (λ i. IsSome (listed_at s.live i)) ids
live_some s live [] m h = tt
live_some s live (i ∷ is) m h =
    (subst (λ o. IsSome o) (sym (m.clauses i ∙ h.0.1)) refl, live_some s live is m h.1)

pub deletion_judged : (o : Option ℕ) (s : CutsState) (live : Live) (lead : ℕ) (ids : List ℕ)
    → Matches s.live s.last live → s.ended ≡ false → IsDistinct nat_eq ids
    → AllByRecursion (λ i. (c : List Literal) × (live.clause_at i ≡ Some c)) ids
    → HasNumbers (Deletion lead ids)
    → (es : Listed) × (judged_line o s (line_tokens (Deletion lead ids))
    ≡ Ok (record s { live = es })) × Matches es s.last (without_ids live ids)
    × ((j : ℕ) → listed_at es j ≡ cond (list_any (nat_eq j) ids) None (listed_at s.live j))
deletion_judged o s live lead ids m open_end distinct alive numbers =
    let g = leaves ids s.live distinct (live_some s live ids m alive) in
    let gone = g.1.deleted in
    let line = plain_line o s (line_tokens (Deletion lead ids)) (ParsedDeletion ids)
    (line_read (Deletion lead ids) numbers) (λ z. absurd (cc)) open_end in (
      g.0,
      line ∙ rw gone refl,
      record {
        clauses = λ j. g.1.at j ∙ ap (cond (list_any (nat_eq j) ids) None) (m.clauses j);
        last_is = m.last_is;
        up_to = g.1.up_to s.last m.up_to;
        single = λ j d e. m.single j d (kept (list_any (nat_eq j) ids) (listed_at s.live j) d
            (sym (g.1.at j) ∙ e));
        in_range = λ j d e. m.in_range j d (kept (list_any (nat_eq j) ids) (live.clause_at j) d e);
      },
      g.1.at,
    )
  where
    kept : (b : Bool) (o : Option (List Literal)) (d : List Literal) → cond b None o ≡ Some d
        → o ≡ Some d
    kept true o d e = absurd (cc)
    kept false o d e = e
