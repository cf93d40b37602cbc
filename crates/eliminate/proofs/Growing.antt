-- A store grows by resolvents, which have neither the pivot nor its negation.
use Rattle.std.proofs.Common.{◌≡◌, ℕ, ◌+◌, ◌<◌, true, false, List, [], ◌∷◌, ◌++◌, length, take}
use Rattle.std.proofs.Common.{get_or, Some, inl, inr, sym, ◌∙◌, subst}
use Rattle.std.specs.Prelude.{All}
use Rattle.std.proofs.lemmas.Bool.{both_ways}
use Rattle.std.proofs.lemmas.List.Elements.{All-weaker, All-push}
use Rattle.cnf.specs.Literal.{Literal, negation}
use Rattle.cnf.specs.Clause.{contains_literal, is_tautology}
use Rattle.clauses.specs.Slots.{Slots, clause_at, IsLive}
use Rattle.eliminate_tables.specs.Resolvents.{resolvent}
use Rattle.eliminate.specs.Simplifier.{Grows}
use Rattle.eliminate.specs.Variables.{IsWith, AreThoseWith, LacksBoth, GrowsWithout, IsResolvedIn}
use Rattle.eliminate.specs.Variables.{IsPairResolved, ArePairsResolved}
use Rattle.eliminate.proofs.Deleting.{take_next}
use Rattle.clauses.proofs.Laws.{clause_cases, clause_kept}
use Rattle.eliminate_tables.proofs.Laws.{resolvent-open, resolvent-open_not}
use Rattle.cnf.proofs.Laws.{not-complement}
use Rattle.eliminate_tables.proofs.Laws.{not-complement_too}

pub resolvent-lacks : (p : Literal) (c d : List Literal) → is_tautology c ≡ false
    → is_tautology d ≡ false → contains_literal p c ≡ true → contains_literal (negation p) d ≡ true
    → LacksBoth p (resolvent p c d)
resolvent-lacks p c d oc od has has_not = record {
  not_it = resolvent-open p c d (not-complement_too p d od has_not);
  not_negation = resolvent-open_not p c d (not-complement p c oc has);
}

pub grows_one : (l : Literal) (slots : Slots) (c : List Literal) → LacksBoth l c
    → GrowsWithout l slots (slots ++ Some c ∷ [])
grows_one l slots c lacks = record {
  kept = λ r d e. clause_kept slots c d r e;
  came = λ r d e. elim (clause_cases slots c r d e) [
    | inl w ↦ inl w
    | inr w ↦ inr (subst (LacksBoth l) (sym w.1) lacks)
  ];
}

pub grows_join : (l : Literal) (slots more most : Slots) → GrowsWithout l slots more
    → GrowsWithout l more most → GrowsWithout l slots most
grows_join l slots more most a b = record {
  kept = λ r c e. b.kept r c (a.kept r c e);
  came = λ r c e. elim (b.came r c e) [
    | inl w ↦ a.came r c w
    | inr w ↦ inr w
  ];
}

pub with_later : (l : Literal) (slots more : Slots) (r : ℕ) → Grows slots more → IsWith l slots r
    → IsWith l more r
with_later l slots more r kept w = (w.0, kept r w.0 w.1, w.2)

pub all_with_later : (l : Literal) (slots more : Slots) (rs : List ℕ) → Grows slots more
    → All (IsWith l slots) rs → All (IsWith l more) rs
all_with_later l slots more rs kept all =
    All-weaker (IsWith l slots) (IsWith l more) (λ r w. with_later l slots more r kept w) rs all

-- the clauses with the pivot are still the same
pub those_later : (l : Literal) (slots more : Slots) (rs : List ℕ) → GrowsWithout l slots more
    → AreThoseWith l slots rs → AreThoseWith l more rs
those_later l slots more rs g t = record {
  with_it = all_with_later l slots more rs g.kept t.with_it;
  all = λ r w. elim (g.came r w.0 w.1) [
    | inl old ↦ t.all r (w.0, old, w.2)
    | inr lacks ↦ absurd (both_ways (contains_literal l w.0) lacks.not_it w.2)
  ];
}

pub those_not_later : (l : Literal) (slots more : Slots) (rs : List ℕ) → GrowsWithout l slots more
    → AreThoseWith (negation l) slots rs → AreThoseWith (negation l) more rs
those_not_later l slots more rs g t = record {
  with_it = all_with_later (negation l) slots more rs g.kept t.with_it;
  all = λ r w. elim (g.came r w.0 w.1) [
    | inl old ↦ t.all r (w.0, old, w.2)
    | inr lacks ↦ absurd (both_ways (contains_literal (negation l) w.0) lacks.not_negation w.2)
  ];
}

resolved_later : (slots more : Slots) (p : Literal) (c d : List Literal) → Grows slots more
    → IsResolvedIn slots p c d → IsResolvedIn more p c d
resolved_later slots more p c d kept h = elim h [
  | inl pair ↦ inl pair
  | inr there ↦ inr (there.0, kept there.0 (resolvent p c d) there.1)
]

-- a pair that is resolved stays so
pub pair_later : (p : Literal) (slots more most : Slots) (f s : ℕ) → Grows more most
    → IsPairResolved p slots more f s → IsPairResolved p slots most f s
pair_later p slots more most f s kept h c d e g = resolved_later more most p c d kept (h c d e g)

-- a pair that is resolved after the store grew
pub pair_before : (p : Literal) (slots more most : Slots) (f s : ℕ) → Grows slots more
    → IsPairResolved p more most f s → IsPairResolved p slots most f s
pair_before p slots more most f s kept h c d e g = h c d (kept f c e) (kept s d g)

pub all_later : (p : Literal) (slots more most : Slots) (f : ℕ) (ss : List ℕ) → Grows more most
    → All (IsPairResolved p slots more f) ss → All (IsPairResolved p slots most f) ss
all_later p slots more most f ss kept all =
    All-weaker (IsPairResolved p slots more f) (IsPairResolved p slots most f)
    (λ s h. pair_later p slots more most f s kept h) ss all

pub all_before : (p : Literal) (slots more most : Slots) (f : ℕ) (ss : List ℕ) → Grows slots more
    → All (IsPairResolved p more most f) ss → All (IsPairResolved p slots most f) ss
all_before p slots more most f ss kept all =
    All-weaker (IsPairResolved p more most f) (IsPairResolved p slots most f)
    (λ s h. pair_before p slots more most f s kept h) ss all

pub pairs_later : (p : Literal) (slots more most : Slots) (fs ss : List ℕ) → Grows more most
    → ArePairsResolved p slots more fs ss → ArePairsResolved p slots most fs ss
pairs_later p slots more most fs ss kept all =
    All-weaker (λ f. All (IsPairResolved p slots more f) ss)
    (λ f. All (IsPairResolved p slots most f) ss) (λ f h. all_later p slots more most f ss kept h)
    fs all

-- what was live keeps its clause
same_clause : (l : Literal) (slots more : Slots) (r : ℕ) (c : List Literal) → Grows slots more
    → IsWith l slots r → clause_at more r ≡ Some c → clause_at slots r ≡ Some c
same_clause l slots more r c kept w e = w.1 ∙ sym (kept r w.0 w.1) ∙ e

-- the pairs are resolved, as they are in the store that grew
pub pairs_now : (p q : Literal) (slots more : Slots) (fs ss : List ℕ) → Grows slots more
    → All (IsWith p slots) fs → All (IsWith q slots) ss → ArePairsResolved p slots more fs ss
    → ArePairsResolved p more more fs ss
pairs_now p q slots more fs ss kept with_p with_q all i f lt j s lt_s c d e g =
    all i f lt j s lt_s c d (same_clause p slots more _ c kept (with_p i f lt) e)
    (same_clause q slots more _ d kept (with_q j s lt_s) g)

-- one pair more is resolved
pub next_pair : (p : Literal) (slots mid more : Slots) (f : ℕ) (ss : List ℕ) (j s : ℕ)
    → j < length ss → s ≡ get_or ss j s → GrowsWithout p slots mid → GrowsWithout p mid more
    → All (IsPairResolved p slots mid f) (take j ss) → IsPairResolved p mid more f s
    → All (IsPairResolved p slots more f) (take (j + 1) ss)
next_pair p slots mid more f ss j s lt is a b all pair =
    subst (All (IsPairResolved p slots more f)) (sym (take_next ss j s lt is))
    (All-push (IsPairResolved p slots more f) (take j ss) s
    (all_later p slots mid more f (take j ss) b.kept all)
    (pair_before p slots mid more f s a.kept pair))

-- and all pairs of one clause more
pub next_pairs : (p : Literal) (slots mid more : Slots) (fs ss : List ℕ) (i f : ℕ) → i < length fs
    → f ≡ get_or fs i f → GrowsWithout p slots mid → GrowsWithout p mid more
    → ArePairsResolved p slots mid (take i fs) ss → All (IsPairResolved p mid more f) ss
    → ArePairsResolved p slots more (take (i + 1) fs) ss
next_pairs p slots mid more fs ss i f lt is a b all pairs =
    subst (λ xs. ArePairsResolved p slots more xs ss) (sym (take_next fs i f lt is))
    (All-push (λ x. All (IsPairResolved p slots more x) ss) (take i fs) f
    (pairs_later p slots mid more (take i fs) ss b.kept all)
    (all_before p slots mid more f ss a.kept pairs))

-- the clauses with a literal are live
pub those_live : (l : Literal) (slots : Slots) (rs : List ℕ) → AreThoseWith l slots rs
    → All (IsLive slots) rs
those_live l slots rs t =
    All-weaker (IsWith l slots) (IsLive slots) (λ r w. (w.0, w.1)) rs t.with_it
