-- The lines of a log that lies flat in memory.
use Rattle.std.proofs.Common.{◌≡◌, ℕ, zero, suc, ◌+◌, ◌-◌, ◌<◌, ◌≤◌, ◌^◌, List, [], ◌∷◌, ◌++◌}
use Rattle.std.proofs.Common.{length, get_or, refl, sym, ◌∙◌, ap, subst, arith, add-one}
use Rattle.std.proofs.Common.{length-append, length-drop, length-take-le, drop}
use Rattle.std.specs.Prelude.{Some, slice_get, slice_range}
use Rattle.std.proofs.lemmas.List.Elements.{All-append, All-cons, All-nil}
use Rattle.std.proofs.lemmas.Option.{get_or_from_slice_get}
use Rattle.cnf.specs.Literal.{Literal}
use Rattle.cnf.proofs.Laws.{range-append, range-appended}
use Rattle.lrat_log.specs.declared.lines.Hint.{Hint}
use Rattle.lrat_log.specs.declared.heads.LineHead.{LineHead}
use Rattle.lrat_log.specs.Log.{LogLine, IsLine, IsLog, line_at}
use Rattle.lrat_log.specs.Flat.{lines_from, lines_in, AreEndsFrom, IsFlat, lits_before}
use Rattle.lrat_log.specs.Flat.{hints_before, lits_on, hints_on}

pub length-lines_from : (i j : ℕ) (hs : List LineHead) (lits : List Literal) (hints : List Hint)
    → length (lines_from i j hs lits hints) ≡ length hs
length-lines_from i j [] lits hints = refl
length-lines_from i j (h ∷ hs) lits hints =
    ap suc (length-lines_from h.lits_end h.hints_end hs lits hints)

pub below_heads : (hs : List LineHead) (lits : List Literal) (hints : List Hint) (ls : List LogLine)
    (k : ℕ) → lines_from 0 0 hs lits hints ≡ ls → k < length ls → k < length hs
below_heads hs lits hints ls k e lt = let n = length-lines_from 0 0 hs lits hints in
    let m : length (lines_from 0 0 hs lits hints) ≡ length ls = ap length e in omega arith

pub kind-line_at : (i j : ℕ) (hs : List LineHead) (lits : List Literal) (hints : List Hint) (k : ℕ)
    (h : LineHead) → k < length hs → slice_get hs k ≡ Some h
    → h.kind ≡ (line_at (lines_from i j hs lits hints) k).kind
kind-line_at i j [] lits hints k h lt e = absurd (omega arith)
kind-line_at i j (g ∷ hs) lits hints zero h lt e =
    ap (λ (x : LineHead). x.kind) (sym (get_or_from_slice_get (g ∷ hs) zero h h e))
kind-line_at i j (g ∷ hs) lits hints (suc k) h lt e =
    kind-line_at g.lits_end g.hints_end hs lits hints k h (omega arith) e

-- the ends of the line before
lits_before-suc : (i : ℕ) (hs : List LineHead) (k : ℕ) (d : LineHead) → k < length hs
    → (get_or hs k d).lits_end ≡ lits_before i hs (suc k)
lits_before-suc i [] k d lt = absurd (omega arith)
lits_before-suc i (g ∷ hs) zero d lt = refl
lits_before-suc i (g ∷ hs) (suc k) d lt = lits_before-suc g.lits_end hs k d (omega arith)

hints_before-suc : (j : ℕ) (hs : List LineHead) (k : ℕ) (d : LineHead) → k < length hs
    → (get_or hs k d).hints_end ≡ hints_before j hs (suc k)
hints_before-suc j [] k d lt = absurd (omega arith)
hints_before-suc j (g ∷ hs) zero d lt = refl
hints_before-suc j (g ∷ hs) (suc k) d lt = hints_before-suc g.hints_end hs k d (omega arith)

module _ (hs : List LineHead) (n : ℕ) (h : LineHead) (some : n ≡ 0 → ⊥) (le : n ≤ length hs)
    (is : slice_get hs (n - 1) ≡ Some h) where
  last : get_or hs (n - 1) h ≡ h
  last = get_or_from_slice_get hs (n - 1) h h is

  next : suc (n - 1) ≡ n
  next = omega arith

  pub lits_before-last : h.lits_end ≡ lits_before 0 hs n
  lits_before-last =
      ap (λ (x : LineHead). x.lits_end) (sym last) ∙ lits_before-suc 0 hs (n - 1) h (omega arith)
      ∙ ap (lits_before 0 hs) next

  pub hints_before-last : h.hints_end ≡ hints_before 0 hs n
  hints_before-last =
      ap (λ (x : LineHead). x.hints_end) (sym last) ∙ hints_before-suc 0 hs (n - 1) h (omega arith)
      ∙ ap (hints_before 0 hs) next

-- where a line's literals lie
pub record Placed {X : Type 0} (xs : List X) (start end : ℕ) (part : List X) : Type 0 where
  pub rising : start ≤ end
  pub within : end ≤ length xs
  pub part_is : slice_range xs start end ≡ part

lits_placed : (i j : ℕ) (hs : List LineHead) (lits : List Literal) (hints : List Hint) (k : ℕ)
    → AreEndsFrom i j hs lits hints → k < length hs
    → Placed lits (lits_before i hs k) (lits_before i hs (suc k))
    (line_at (lines_from i j hs lits hints) k).clause
lits_placed i j [] lits hints k ends lt = absurd (omega arith)
lits_placed i j (h ∷ hs) lits hints zero ends lt =
    record { rising = ends.0; within = ends.1; part_is = refl }
lits_placed i j (h ∷ hs) lits hints (suc k) ends lt =
    lits_placed h.lits_end h.hints_end hs lits hints k ends.4 (omega arith)

hints_placed : (i j : ℕ) (hs : List LineHead) (lits : List Literal) (hints : List Hint) (k : ℕ)
    → AreEndsFrom i j hs lits hints → k < length hs
    → Placed hints (hints_before j hs k) (hints_before j hs (suc k))
    (line_at (lines_from i j hs lits hints) k).hints
hints_placed i j [] lits hints k ends lt = absurd (omega arith)
hints_placed i j (h ∷ hs) lits hints zero ends lt =
    record { rising = ends.2; within = ends.3; part_is = refl }
hints_placed i j (h ∷ hs) lits hints (suc k) ends lt =
    hints_placed h.lits_end h.hints_end hs lits hints k ends.4 (omega arith)

module _ (hs : List LineHead) (lits : List Literal) (hints : List Hint) (k s e : ℕ)
    (ends : AreEndsFrom 0 0 hs lits hints) (lt : k < length hs) where
  pub clause-line_at : s ≡ lits_before 0 hs k → e ≡ lits_before 0 hs (k + 1)
      → Placed lits s e (line_at (lines_from 0 0 hs lits hints) k).clause
  clause-line_at p q = rw (p, q, add-one) (lits_placed 0 0 hs lits hints k ends lt)

  pub hints-line_at : s ≡ hints_before 0 hs k → e ≡ hints_before 0 hs (k + 1)
      → Placed hints s e (line_at (lines_from 0 0 hs lits hints) k).hints
  hints-line_at p q = rw (p, q, add-one) (hints_placed 0 0 hs lits hints k ends lt)

-- as many as the lines have
length-range : {X : Type 0} (xs : List X) (i n : ℕ) → i ≤ n → n ≤ length xs
    → length (slice_range xs i n) ≡ n - i
length-range xs i n le within =
    length-take-le (n - i) (drop i xs) (omega (arith, length-drop i xs))

lits_on-before : (i j : ℕ) (hs : List LineHead) (lits : List Literal) (hints : List Hint) (k : ℕ)
    → AreEndsFrom i j hs lits hints → k ≤ length hs
    → i + lits_on (lines_from i j hs lits hints) k ≡ lits_before i hs k
lits_on-before i j hs lits hints zero ends le = omega arith
lits_on-before i j [] lits hints (suc k) ends le = absurd (omega arith)
lits_on-before i j (h ∷ hs) lits hints (suc k) ends le =
    let len = length-range lits i h.lits_end ends.0 ends.1 in
    let rest = lits_on-before h.lits_end h.hints_end hs lits hints k ends.4 (omega arith) in
    omega (arith, ends.0)

hints_on-before : (i j : ℕ) (hs : List LineHead) (lits : List Literal) (hints : List Hint) (k : ℕ)
    → AreEndsFrom i j hs lits hints → k ≤ length hs
    → j + hints_on (lines_from i j hs lits hints) k ≡ hints_before j hs k
hints_on-before i j hs lits hints zero ends le = omega arith
hints_on-before i j [] lits hints (suc k) ends le = absurd (omega arith)
hints_on-before i j (h ∷ hs) lits hints (suc k) ends le =
    let len = length-range hints j h.hints_end ends.2 ends.3 in
    let rest = hints_on-before h.lits_end h.hints_end hs lits hints k ends.4 (omega arith) in
    omega (arith, ends.2)

-- a line whose literals and hints begin where those before end
module _ (hs : List LineHead) (lits : List Literal) (hints : List Hint) (k : ℕ) (h : LineHead)
    (ends : AreEndsFrom 0 0 hs lits hints) (lt : k < length hs)
    (is : slice_get hs k ≡ Some h) where
  abbrev all : List LogLine
  all = lines_from 0 0 hs lits hints

  head : get_or hs k h ≡ h
  head = get_or_from_slice_get hs k h h is

  lits_end_is : h.lits_end ≡ lits_before 0 hs (k + 1)
  lits_end_is =
      rw add-one (ap (λ (x : LineHead). x.lits_end) (sym head) ∙ lits_before-suc 0 hs k h lt)

  hints_end_is : h.hints_end ≡ hints_before 0 hs (k + 1)
  hints_end_is =
      rw add-one (ap (λ (x : LineHead). x.hints_end) (sym head) ∙ hints_before-suc 0 hs k h lt)

  pub lits_from : (s : ℕ) → s ≡ lits_on (lines_from 0 0 hs lits hints) k
      → Placed lits s h.lits_end (line_at (lines_from 0 0 hs lits hints) k).clause
  lits_from s p =
      let before = lits_on-before 0 0 hs lits hints k ends (omega arith) in
      clause-line_at hs lits hints k s h.lits_end ends lt (omega arith) lits_end_is

  pub hints_from : (s : ℕ) → s ≡ hints_on (lines_from 0 0 hs lits hints) k
      → Placed hints s h.hints_end (line_at (lines_from 0 0 hs lits hints) k).hints
  hints_from s p =
      let before = hints_on-before 0 0 hs lits hints k ends (omega arith) in
      hints-line_at hs lits hints k s h.hints_end ends lt (omega arith) hints_end_is

  pub lits_to : h.lits_end ≡ lits_on (lines_from 0 0 hs lits hints) (k + 1)
  lits_to =
      let after = lits_on-before 0 0 hs lits hints (k + 1) ends (omega arith) in
      omega (arith, lits_end_is)

  pub hints_to : h.hints_end ≡ hints_on (lines_from 0 0 hs lits hints) (k + 1)
  hints_to =
      let after = hints_on-before 0 0 hs lits hints (k + 1) ends (omega arith) in
      omega (arith, hints_end_is)

-- a line more
pub lines_from-push : (i j : ℕ) (hs : List LineHead) (lits more_lits : List Literal)
    (hints more_hints : List Hint) (h : LineHead) → AreEndsFrom i j hs lits hints
    → h.lits_end ≡ length lits + length more_lits
    → h.hints_end ≡ length hints + length more_hints
    → lines_from i j (hs ++ h ∷ []) (lits ++ more_lits) (hints ++ more_hints)
    ≡ lines_from i j hs lits hints ++ record {
      kind = h.kind;
      clause = more_lits;
      hints = more_hints;
    } ∷ []
lines_from-push i j [] lits ml hints mh h ends p q =
    rw (
      range-appended lits ml i h.lits_end ends.0 p,
      range-appended hints mh j h.hints_end ends.1 q,
    ) refl
lines_from-push i j (g ∷ hs) lits ml hints mh h ends p q =
    rw (
      range-append lits ml i g.lits_end ends.0 ends.1,
      range-append hints mh j g.hints_end ends.2 ends.3,
      lines_from-push g.lits_end g.hints_end hs lits ml hints mh h ends.4 p q,
    ) refl

pub AreEndsFrom-push : (i j : ℕ) (hs : List LineHead) (lits more_lits : List Literal)
    (hints more_hints : List Hint) (h : LineHead) → AreEndsFrom i j hs lits hints
    → h.lits_end ≡ length lits + length more_lits
    → h.hints_end ≡ length hints + length more_hints
    → AreEndsFrom i j (hs ++ h ∷ []) (lits ++ more_lits) (hints ++ more_hints)
AreEndsFrom-push i j [] lits ml hints mh h ends p q =
    let a = length-append lits ml in
    let b = length-append hints mh in (
      omega (arith, ends.0),
      omega arith,
      omega (arith, ends.1),
      omega arith,
      (omega arith, omega arith),
    )
AreEndsFrom-push i j (g ∷ hs) lits ml hints mh h ends p q =
    let a = length-append lits ml in
    let b = length-append hints mh in (
      ends.0,
      omega (arith, ends.1),
      ends.2,
      omega (arith, ends.3),
      AreEndsFrom-push g.lits_end g.hints_end hs lits ml hints mh h ends.4 p q,
    )

module _ (hs : List LineHead) (lits : List Literal) (hints : List Hint) (h : LineHead)
    (line : LogLine)
    (flat : IsFlat hs lits hints)
    (kind : h.kind ≡ line.kind) (p : h.lits_end ≡ length lits + length line.clause)
    (q : h.hints_end ≡ length hints + length line.hints) where
  pub lines_in-push : lines_in (hs ++ h ∷ []) (lits ++ line.clause) (hints ++ line.hints)
      ≡ lines_in hs lits hints ++ line ∷ []
  lines_in-push =
      lines_from-push 0 0 hs lits line.clause hints line.hints h flat.ends p q
      ∙ ap (λ k. lines_in hs lits hints ++ record {
        kind = k;
        clause = line.clause;
        hints = line.hints;
      } ∷ []) kind

  pub IsFlat-push : length hs + 1 < 2 ^ 61 → IsLine line
      → IsFlat (hs ++ h ∷ []) (lits ++ line.clause) (hints ++ line.hints)
  IsFlat-push short is =
      let ls = lines_in hs lits hints in
      let n = length-lines_from 0 0 hs lits hints in
      let m = length-append ls (line ∷ []) in
      let few : length (ls ++ line ∷ []) < 2 ^ 61 = omega arith in
      record {
        log =
            subst IsLog (sym lines_in-push)
            (record {
              short = few;
              lines = All-append IsLine ls (line ∷ []) flat.log.lines
                  (All-cons IsLine line [] is (All-nil IsLine));
            });
        ends = AreEndsFrom-push 0 0 hs lits line.clause hints line.hints h flat.ends p q;
      }
