-- Where all cuts have to hold for a cost, all are worth that, and so is the empty clause.
use Rattle.std.proofs.Common.{◌≡◌, ℕ, ◌+◌, ◌≤◌, min, true, false, nat_le, List, [], ◌∷◌, map}
use Rattle.std.proofs.Common.{Option, Some, None, Result, Ok, Err, refl, subst, arith}
use Rattle.std.proofs.lemmas.Bool.{false≢true, leb-true}
use Rattle.std.proofs.lemmas.Option.{none-some, same_Some}
use Rattle.cnf.specs.Literal.{Literal}
use Rattle.cnf.specs.Problem.{Problem}
use Rattle.cnf.specs.declared.limits.TheConstants.{NUMBER_LIMIT}
use Rattle.bound.specs.Weighted.{weighted_cnf, weights_of}
use Rattle.lrat_live.specs.Listed.{listed_at}
use Rattle.lrat_read.specs.Form.{Parsed, Addition, Deletion, Malformed, line_of}
use Rattle.lrat_read.specs.Words.{WordLine, CountLine, MoreLine, GroupLine, FormLine, CutLine}
use Rattle.lrat_read.specs.Words.{BoundLine, after_word, word_of}
use Rattle.lrat_machine.specs.Rup.{deleted_from, rup_fault}
use Rattle.lrat_machine.specs.Steps.{live_of}
use Rattle.forms.specs.Forms.{Forms, Made, bound_line, count_line, cut_line, form_line, forms_of}
use Rattle.forms.specs.Forms.{group_line, more_line}
use Rattle.forms.specs.declared.faults.LineFault.{LineFault}
use Rattle.lrat_cuts.specs.Cuts.{CutsState, cuts_start, fact_of, judged_bound, judged_cut}
use Rattle.lrat_cuts.specs.Cuts.{judged_line, judged_lines, judged_plain, judged_word, on_clauses}
use Rattle.lrat_cuts.specs.Cuts.{on_forms, put, put_all, taken_worth}
use Rattle.lrat_cuts.specs.Law.{CutsProveTheCost}
use Rattle.lrat_cuts.proofs.LawLines.{otherwise}
use Rattle.lrat_cuts.proofs.LawResults.{err_ok, ok_same}

-- the cuts are worth a cost, and so is the empty clause, if it was added
record IsWorth (cost : ℕ) (s : CutsState) : Type 0 where
  worth : cost ≤ s.worth
  ended : s.ended ≡ true → cost ≤ s.proved

module _ (cost : ℕ) where
  put_worth : (id : ℕ) (c : List Literal) (s : CutsState) → IsWorth cost s
      → IsWorth cost (put id c s)
  put_worth id [] s h = record { worth = h.worth; ended = λ e. omega (arith, h.worth) }
  put_worth id (l ∷ c) s h = record { worth = h.worth; ended = λ e. absurd (false≢true e) }

  put_all_worth : (cs : List (List Literal)) (s : CutsState) → IsWorth cost s
      → IsWorth cost (put_all cs s)
  put_all_worth [] s h = h
  put_all_worth (c ∷ cs) s h =
      put_all_worth cs (put (s.last + 1) c s) (put_worth (s.last + 1) c s h)

  plain_worth : (l : Parsed) (s new : CutsState) → IsWorth cost s → judged_plain l s ≡ Ok new
      → IsWorth cost new
  plain_worth Malformed s new h e = absurd (err_ok _ new e)
  plain_worth (Deletion ids) s new h e =
      elim (deleted_from s.live ids) as (λ o. deleted_from s.live ids ≡ o → IsWorth cost new) [
        | None ↦ λ q. absurd (err_ok _ new (rw q at e))
        | Some es ↦ λ q.
            subst (IsWorth cost) (ok_same _ new (rw q at e))
            (record { worth = h.worth; ended = h.ended })
      ] refl
  plain_worth (Addition id c hints) s new h e =
      elim (rup_fault (live_of s.last s.live) id c hints)
      as (λ o. rup_fault (live_of s.last s.live) id c hints ≡ o → IsWorth cost new) [
        | Some f ↦ λ q. absurd (err_ok _ new (rw q at e))
        | None ↦ λ q. subst (IsWorth cost) (ok_same _ new (rw q at e)) (put_worth id c s h)
      ] refl

  clauses_worth : (s new : CutsState) (r : Result Made LineFault) → IsWorth cost s
      → on_clauses s r ≡ Ok new → IsWorth cost new
  clauses_worth s new (Err x) h e = absurd (err_ok _ new e)
  clauses_worth s new (Ok m) h e =
      subst (IsWorth cost) (ok_same _ new e)
      (put_all_worth m.clauses (record s { forms = m.forms })
      (record { worth = h.worth; ended = h.ended }))

  forms_worth : (s new : CutsState) (r : Result Forms LineFault) → IsWorth cost s
      → on_forms s r ≡ Ok new → IsWorth cost new
  forms_worth s new (Err x) h e = absurd (err_ok _ new e)
  forms_worth s new (Ok f) h e =
      subst (IsWorth cost) (ok_same _ new e) (record { worth = h.worth; ended = h.ended })

  taken_least : (d : ℕ) (w : Option ℕ) (n : ℕ) → taken_worth (Some cost) d w ≡ Some n → cost ≤ n
  taken_least d None n e = absurd (none-some n e)
  taken_least d (Some w) n e =
      elim (nat_le cost w) as (λ b. nat_le cost w ≡ b → cost ≤ n) [
        | true ↦ λ q. omega (arith, leb-true cost w q, same_Some w n (rw q at e))
        | false ↦ λ q. absurd (none-some n (rw q at e))
      ] refl

  cut_worth : (c : List Literal) (s new : CutsState) → IsWorth cost s
      → judged_cut (Some cost) c s ≡ Ok new → IsWorth cost new
  cut_worth c s new h e =
      elim (cut_line c s.forms) as (λ r. cut_line c s.forms ≡ r → IsWorth cost new) [
        | Err x ↦ λ q. absurd (err_ok _ new (rw q at e))
        | Ok w ↦ λ q. elim (taken_worth (Some cost) ((s.forms).form).scale w)
            as (λ o. taken_worth (Some cost) ((s.forms).form).scale w ≡ o → IsWorth cost new) [
              | None ↦ λ r. absurd (err_ok _ new (rw (q, r) at e))
              | Some n ↦ λ r.
                  let least = taken_least ((s.forms).form).scale w n r in
                  subst (IsWorth cost) (ok_same _ new (rw (q, r) at e))
                  (put_worth (s.last + 1) c (record s { worth = min s.worth n })
                  (record { worth = omega (arith, h.worth, least); ended = h.ended }))
            ] refl
      ] refl

  bound_worth : (lower : ℕ) (s new : CutsState) → IsWorth cost s → judged_bound lower s ≡ Ok new
      → IsWorth cost new
  bound_worth lower s new h e =
      elim (bound_line s.forms) as (λ r. bound_line s.forms ≡ r → IsWorth cost new) [
        | Err x ↦ λ q. absurd (err_ok _ new (rw q at e))
        | Ok o ↦ λ q. elim o as (λ o. bound_line s.forms ≡ Ok o → IsWorth cost new) [
          | None ↦ λ q. absurd (err_ok _ new (rw q at e))
          | Some w ↦ λ q. elim (nat_le lower w) as (λ b. nat_le lower w ≡ b → IsWorth cost new) [
            | false ↦ λ r. absurd (err_ok _ new (rw (q, r) at e))
            | true ↦ λ r.
                subst (IsWorth cost) (ok_same _ new (rw (q, r) at e)) (record {
                  worth = h.worth;
                  ended = λ over. let least = h.ended over in omega (arith, least);
                })
          ] refl
        ] q
      ] refl

  word_worth : (l : Option WordLine) (s new : CutsState) → IsWorth cost s
      → judged_word (Some cost) l s ≡ Ok new → IsWorth cost new
  word_worth None s new h e = absurd (err_ok _ new e)
  word_worth (Some (CountLine outputs inputs)) s new h e =
      clauses_worth s new (count_line outputs inputs s.forms) h e
  word_worth (Some (MoreLine number)) s new h e =
      clauses_worth s new (more_line number s.forms) h e
  word_worth (Some (GroupLine inputs ids)) s new h e =
      forms_worth s new (group_line (listed_at s.live) inputs ids s.forms) h e
  word_worth (Some (FormLine scale facts)) s new h e =
      forms_worth s new (form_line (listed_at s.live) scale (map fact_of facts) s.forms) h e
  word_worth (Some (CutLine c)) s new h e = cut_worth c s new h e
  word_worth (Some (BoundLine lower)) s new h e = bound_worth lower s new h e

  line_worth : (s new : CutsState) (ts : List (List ℕ)) → IsWorth cost s
      → judged_line (Some cost) s ts ≡ Ok new → IsWorth cost new
  line_worth s new [] h e = subst (IsWorth cost) (ok_same s new e) h
  line_worth s new (t ∷ ts) h e =
      let rest = otherwise s.ended _ _ _ e (λ x. err_ok _ new x) in
      elim (word_of t) as (λ o. word_of t ≡ o → IsWorth cost new) [
        | None ↦ λ r. plain_worth (line_of (t ∷ ts)) s new h (rw r at rest)
        | Some w ↦ λ r. word_worth (after_word w ts) s new h (rw r at rest)
      ] refl

  lines_worth : (lines : List (List (List ℕ))) (s last : CutsState) (n : ℕ) → IsWorth cost s
      → judged_lines (Some cost) s n lines ≡ Ok last → IsWorth cost last
  lines_worth [] s last n h e = subst (IsWorth cost) (ok_same s last e) h
  lines_worth (ts ∷ more) s last n h e =
      elim (judged_line (Some cost) s ts)
      as (λ r. judged_line (Some cost) s ts ≡ r → IsWorth cost last) [
        | Err f ↦ λ q. absurd (err_ok _ last (rw q at e))
        | Ok next ↦ λ q.
            lines_worth more next last (n + 1) (line_worth s next ts h q) (rw q at e)
      ] refl

  start_worth : (p : Problem) → cost ≤ NUMBER_LIMIT → IsWorth cost (cuts_start p)
  start_worth p le =
      let blank : CutsState = record {
        live = [];
        last = 0;
        forms = forms_of (weighted_cnf p).variables (weights_of p);
        ended = false;
        worth = NUMBER_LIMIT;
        proved = 0;
      } in
      let h = put_all_worth (weighted_cnf p).clauses blank
      (record { worth = le; ended = λ e. absurd (false≢true e) }) in
      record { worth = h.worth; ended = λ e. absurd (false≢true e) }

pub cuts_prove : CutsProveTheCost
cuts_prove p cost lines s le e ended =
    (lines_worth cost lines (cuts_start p) s 1 (start_worth cost p le) e).ended ended
