-- Lines that are right whatever their cuts hold for are right for each cost up to what these are
-- worth. The ids of what is live are from 1 up to the last one.
use Rattle.std.proofs.Common.{◌≡◌, ℕ, zero, suc, ◌+◌, ◌<◌, ◌≤◌, min, Bool, true, false, nat_le}
use Rattle.std.proofs.Common.{List, [], ◌∷◌, Option, Some, None, Ok, Err, refl, subst, arith}
use Rattle.std.proofs.Common.{◌∙◌, le-leb}
use Rattle.std.specs.Prelude.{All, is_some, not, ◌==◌, if◌then◌else◌}
use Rattle.std.proofs.lemmas.Bool.{cond-false}
use Rattle.std.proofs.lemmas.List.Elements.{All-append, All-cons, All-filter, All-nil, All-weaker}
use Rattle.std.proofs.lemmas.Option.{none-some, same_Some}
use Rattle.cnf.specs.Literal.{Literal}
use Rattle.cnf.specs.Problem.{Problem}
use Rattle.cnf.specs.declared.limits.TheConstants.{NUMBER_LIMIT}
use Rattle.bound.specs.Weighted.{weighted_cnf, weights_of}
use Rattle.lrat_live.specs.Listed.{Listed, listed_at, without_id}
use Rattle.lrat_read.specs.Words.{WordLine, CountLine, MoreLine, GroupLine, FormLine, CutLine}
use Rattle.lrat_read.specs.Words.{BoundLine, after_word, word_of}
use Rattle.lrat_machine.specs.Rup.{deleted_from}
use Rattle.forms.specs.Forms.{cut_line, forms_of}
use Rattle.lrat_cuts.specs.Cuts.{CutsState, cuts_start, judged_cut, judged_line, judged_lines}
use Rattle.lrat_cuts.specs.Cuts.{judged_word, put, put_all, taken_worth}
use Rattle.lrat_cuts.proofs.LawKept.{IsInvariant, lines_kept}
use Rattle.lrat_cuts.proofs.LawLines.{otherwise}
use Rattle.lrat_cuts.proofs.LawResults.{err_ok, ok_same}

-- cuts are worth no more than before
worth_kept : (most : ℕ) → IsInvariant (λ s. s.worth ≤ most)
worth_kept most = record {
  put = λ id c s above h. h;
  deleted = λ ids es s e h. h;
  forms = λ f s h. h;
  worth = λ n s h. omega (arith, h);
  proved = λ n s h. h;
}

-- ids are from 1 up to the last
abbrev HaveIds : CutsState → Type 0
HaveIds s = All (λ e. (0 < e.0) × (e.0 ≤ s.last)) s.live

ids_left : (ids : List ℕ) (es left : Listed) (last : ℕ) → deleted_from es ids ≡ Some left
    → All (λ e. (0 < e.0) × (e.0 ≤ last)) es → All (λ e. (0 < e.0) × (e.0 ≤ last)) left
ids_left [] es left last e h =
    subst (All (λ (x : ℕ × List Literal). (0 < x.0) × (x.0 ≤ last))) (same_Some es left e) h
ids_left (i ∷ is) es left last e h =
    elim (is_some (listed_at es i)) as (λ b. is_some (listed_at es i) ≡ b
    → All (λ (x : ℕ × List Literal). (0 < x.0) × (x.0 ≤ last)) left) [
      | false ↦ λ q. absurd (none-some left (rw q at e))
      | true ↦ λ q. ids_left is (without_id i es) left last (rw q at e)
          (All-filter (λ (x : ℕ × List Literal). not (x.0 == i))
          (λ x. (0 < x.0) × (x.0 ≤ last)) es h)
    ] refl

ids_kept : IsInvariant HaveIds
ids_kept = record {
  put = λ id c s above h. All-append (λ (x : ℕ × List Literal). (0 < x.0) × (x.0 ≤ id)) s.live
      ((id, c) ∷ [])
      (All-weaker (λ (x : ℕ × List Literal). (0 < x.0) × (x.0 ≤ s.last))
      (λ x. (0 < x.0) × (x.0 ≤ id)) (λ x w. (omega (arith, w.0), omega (arith, w.1, above)))
      s.live h)
      (All-cons (λ (x : ℕ × List Literal). (0 < x.0) × (x.0 ≤ id)) (id, c) []
      (omega (arith, above), omega arith)
      (All-nil (λ (x : ℕ × List Literal). (0 < x.0) × (x.0 ≤ id))));
  deleted = λ ids es s e h. ids_left ids s.live es s.last e h;
  forms = λ f s h. h;
  worth = λ n s h. h;
  proved = λ n s h. h;
}

all_ids : (cs : List (List Literal)) (s : CutsState) → HaveIds s → HaveIds (put_all cs s)
all_ids [] s h = h
all_ids (c ∷ cs) s h =
    all_ids cs (put (s.last + 1) c s) (ids_kept.put (s.last + 1) c s (omega arith) h)

pub have_ids : (p : Problem) (cost : Option ℕ) (lines : List (List (List ℕ))) (s : CutsState)
    → judged_lines cost (cuts_start p) 1 lines ≡ Ok s → HaveIds s
have_ids p cost lines s e =
    let blank : CutsState = record {
      live = [];
      last = 0;
      forms = forms_of (weighted_cnf p).variables (weights_of p);
      ended = false;
      worth = NUMBER_LIMIT;
      proved = 0;
    } in
    lines_kept HaveIds ids_kept cost lines (cuts_start p) s 1
    (all_ids (weighted_cnf p).clauses blank
    (All-nil (λ (x : ℕ × List Literal). (0 < x.0) × (x.0 ≤ 0)))) e

goes_on : {X : Type 0} (b : Bool) (x y z : X) → (if b then x else y) ≡ z → (x ≡ z → ⊥)
    → b ≡ false
goes_on true x y z e n = absurd (n e)
goes_on false x y z e n = refl

-- so they hold for each cost up to what they are worth in the end
module _ (k : ℕ) where
  taken_up_to : (scale : ℕ) (w : Option ℕ) (n : ℕ) → 0 < n → k ≤ n
      → taken_worth None scale w ≡ Some n → taken_worth (Some k) scale w ≡ Some n
  taken_up_to scale (Some w) n some le e =
      let same = same_Some w n e in
      let enough : nat_le k w ≡ true = le-leb k w (omega (arith, le, same)) in rw enough e
  taken_up_to zero None n some le e = absurd (none-some n e)
  taken_up_to (suc d) None n some le e =
      let same = same_Some 0 n e in absurd (omega (arith, some, same))

  cut_up_to : (c : List Literal) (s new : CutsState) → 0 < new.worth → k ≤ new.worth
      → judged_cut None c s ≡ Ok new → judged_cut (Some k) c s ≡ Ok new
  cut_up_to c s new some le e =
      elim (cut_line c s.forms)
      as (λ r. cut_line c s.forms ≡ r → judged_cut (Some k) c s ≡ Ok new) [
        | Err x ↦ λ q. absurd (err_ok _ new (rw q at e))
        | Ok w ↦ λ q. elim (taken_worth None ((s.forms).form).scale w)
            as (λ o. taken_worth None ((s.forms).form).scale w ≡ o
            → judged_cut (Some k) c s ≡ Ok new) [
              | None ↦ λ r. absurd (err_ok _ new (rw (q, r) at e))
              | Some n ↦ λ r.
                  let is = ok_same _ new (rw (q, r) at e) in
                  let worth : min s.worth n ≡ new.worth = λ i. (is i).worth in
                  let up = taken_up_to ((s.forms).form).scale w n (omega (arith, some, worth))
                  (omega (arith, le, worth)) r in
                  rw (q, up) (rw (q, r) at e)
            ] refl
      ] refl

  word_up_to : (l : Option WordLine) (s new : CutsState) → 0 < new.worth → k ≤ new.worth
      → judged_word None l s ≡ Ok new → judged_word (Some k) l s ≡ Ok new
  word_up_to None s new some le e = e
  word_up_to (Some (CountLine outputs inputs)) s new some le e = e
  word_up_to (Some (MoreLine number)) s new some le e = e
  word_up_to (Some (GroupLine inputs ids)) s new some le e = e
  word_up_to (Some (FormLine scale facts)) s new some le e = e
  word_up_to (Some (CutLine c)) s new some le e = cut_up_to c s new some le e
  word_up_to (Some (BoundLine lower)) s new some le e = e

  line_up_to : (s new : CutsState) (ts : List (List ℕ)) → 0 < new.worth → k ≤ new.worth
      → judged_line None s ts ≡ Ok new → judged_line (Some k) s ts ≡ Ok new
  line_up_to s new [] some le e = e
  line_up_to s new (t ∷ ts) some le e =
      let o = goes_on s.ended _ _ _ e (λ x. err_ok _ new x) in
      let rest = otherwise s.ended _ _ _ e (λ x. err_ok _ new x) in
      elim (word_of t) as (λ r. word_of t ≡ r → judged_line (Some k) s (t ∷ ts) ≡ Ok new) [
        | None ↦ λ r. cond-false s.ended _ _ o ∙ rw r (rw r at rest)
        | Some w ↦ λ r.
            cond-false s.ended _ _ o
            ∙ rw r (word_up_to (after_word w ts) s new some le (rw r at rest))
      ] refl

  pub right_up_to : (lines : List (List (List ℕ))) (s last : CutsState) (n : ℕ) → 0 < last.worth
      → k ≤ last.worth → judged_lines None s n lines ≡ Ok last
      → judged_lines (Some k) s n lines ≡ Ok last
  right_up_to [] s last n some le e = e
  right_up_to (ts ∷ more) s last n some le e =
      elim (judged_line None s ts)
      as (λ r. judged_line None s ts ≡ r → judged_lines (Some k) s n (ts ∷ more) ≡ Ok last) [
        | Err f ↦ λ q. absurd (err_ok _ last (rw q at e))
        | Ok next ↦ λ q.
            let rest = rw q at e in
            let least : last.worth ≤ next.worth =
            lines_kept (λ x. x.worth ≤ next.worth) (worth_kept next.worth) None more next last
            (n + 1) (omega arith) rest in
            let one = line_up_to s next ts (omega (arith, some, least))
            (omega (arith, le, least)) q in
            rw one (right_up_to more next last (n + 1) some le rest)
      ] refl
