-- What all lines keep, if each change that a line makes keeps it.
use Rattle.std.proofs.Common.{◌≡◌, ℕ, ◌+◌, ◌<◌, min, true, false, nat_le, List, []}
use Rattle.std.proofs.Common.{◌∷◌, map, Option, Some, None, Result, Ok, Err, refl, subst, arith}
use Rattle.std.proofs.Common.{Bool, inl, inr}
use Rattle.std.proofs.lemmas.Bool.{cases_Bool, leb-false}
use Rattle.cnf.specs.Literal.{Literal}
use Rattle.lrat_live.specs.Listed.{Listed, listed_at}
use Rattle.lrat_read.specs.Form.{Parsed, Addition, Deletion, Malformed, line_of}
use Rattle.lrat_read.specs.Words.{WordLine, CountLine, MoreLine, GroupLine, FormLine, CutLine}
use Rattle.lrat_read.specs.Words.{BoundLine, after_word, word_of}
use Rattle.lrat_machine.specs.Rup.{deleted_from, rup_fault}
use Rattle.lrat_machine.specs.Steps.{live_of}
use Rattle.lrat_machine.specs.declared.verdicts.Cause.{Cause}
use Rattle.forms.specs.Forms.{Forms, Made, bound_line, count_line, cut_line, form_line}
use Rattle.forms.specs.Forms.{group_line, more_line}
use Rattle.forms.specs.declared.faults.LineFault.{LineFault}
use Rattle.lrat_cuts.specs.Cuts.{CutsState, fact_of, judged_bound, judged_cut}
use Rattle.lrat_cuts.specs.Cuts.{judged_line, judged_lines, judged_plain, judged_word, on_clauses}
use Rattle.lrat_cuts.specs.Cuts.{on_forms, put, put_all, taken_worth}
use Rattle.lrat_cuts.proofs.LawLines.{otherwise}
use Rattle.lrat_cuts.proofs.LawResults.{err_ok, ok_same}

pub record IsInvariant (P : CutsState → Type 0) : Type 0 where
  pub put : (id : ℕ) (c : List Literal) (s : CutsState) → s.last < id → P s → P (put id c s)
  pub deleted : (ids : List ℕ) (es : Listed) (s : CutsState) → deleted_from s.live ids ≡ Some es
      → P s → P (record s { live = es })
  pub forms : (f : Forms) (s : CutsState) → P s → P (record s { forms = f })
  pub worth : (n : ℕ) (s : CutsState) → P s → P (record s { worth = min s.worth n })
  pub proved : (n : ℕ) (s : CutsState) → P s → P (record s { proved = n })

module _ (P : CutsState → Type 0) (k : IsInvariant P) (cost : Option ℕ) where
  all_put : (cs : List (List Literal)) (s : CutsState) → P s → P (put_all cs s)
  all_put [] s h = h
  all_put (c ∷ cs) s h =
      all_put cs (put (s.last + 1) c s) (k.put (s.last + 1) c s (omega arith) h)

  above : (id : ℕ) (c : List Literal) (hs : List (Bool × ℕ)) (s : CutsState)
      → rup_fault (live_of s.last s.live) id c hs ≡ None → s.last < id
  above id c hs s e = elim (cases_Bool (nat_le id s.last)) [
    | inl t ↦ absurd (some_none _ (rw t at e))
    | inr f ↦ leb-false id s.last f
  ]
    where
      some_none : (c : Cause) → (let o : Option Cause = Some c in o) ≡ None → ⊥
      some_none c e = absurd (cc)

  plain_kept : (l : Parsed) (s new : CutsState) → P s → judged_plain l s ≡ Ok new → P new
  plain_kept Malformed s new h e = absurd (err_ok _ new e)
  plain_kept (Deletion ids) s new h e =
      elim (deleted_from s.live ids) as (λ o. deleted_from s.live ids ≡ o → P new) [
        | None ↦ λ q. absurd (err_ok _ new (rw q at e))
        | Some es ↦ λ q. subst P (ok_same _ new (rw q at e)) (k.deleted ids es s q h)
      ] refl
  plain_kept (Addition id c hints) s new h e =
      elim (rup_fault (live_of s.last s.live) id c hints)
      as (λ o. rup_fault (live_of s.last s.live) id c hints ≡ o → P new) [
        | Some f ↦ λ q. absurd (err_ok _ new (rw q at e))
        | None ↦ λ q. subst P (ok_same _ new (rw q at e)) (k.put id c s (above id c hints s q) h)
      ] refl

  clauses_kept : (s new : CutsState) (r : Result Made LineFault) → P s → on_clauses s r ≡ Ok new
      → P new
  clauses_kept s new (Err x) h e = absurd (err_ok _ new e)
  clauses_kept s new (Ok m) h e =
      subst P (ok_same _ new e)
      (all_put m.clauses (record s { forms = m.forms }) (k.forms m.forms s h))

  forms_kept : (s new : CutsState) (r : Result Forms LineFault) → P s → on_forms s r ≡ Ok new
      → P new
  forms_kept s new (Err x) h e = absurd (err_ok _ new e)
  forms_kept s new (Ok f) h e = subst P (ok_same _ new e) (k.forms f s h)

  cut_kept : (c : List Literal) (s new : CutsState) → P s → judged_cut cost c s ≡ Ok new → P new
  cut_kept c s new h e =
      elim (cut_line c s.forms) as (λ r. cut_line c s.forms ≡ r → P new) [
        | Err x ↦ λ q. absurd (err_ok _ new (rw q at e))
        | Ok w ↦ λ q. elim (taken_worth cost ((s.forms).form).scale w)
            as (λ o. taken_worth cost ((s.forms).form).scale w ≡ o → P new) [
              | None ↦ λ r. absurd (err_ok _ new (rw (q, r) at e))
              | Some n ↦ λ r.
                  subst P (ok_same _ new (rw (q, r) at e))
                  (k.put (s.last + 1) c (record s { worth = min s.worth n }) (omega arith)
                  (k.worth n s h))
            ] refl
      ] refl

  bound_kept : (lower : ℕ) (s new : CutsState) → P s → judged_bound lower s ≡ Ok new → P new
  bound_kept lower s new h e =
      elim (bound_line s.forms) as (λ r. bound_line s.forms ≡ r → P new) [
        | Err x ↦ λ q. absurd (err_ok _ new (rw q at e))
        | Ok o ↦ λ q. elim o as (λ o. bound_line s.forms ≡ Ok o → P new) [
          | None ↦ λ q. absurd (err_ok _ new (rw q at e))
          | Some w ↦ λ q. elim (nat_le lower w) as (λ b. nat_le lower w ≡ b → P new) [
            | false ↦ λ r. absurd (err_ok _ new (rw (q, r) at e))
            | true ↦ λ r. subst P (ok_same _ new (rw (q, r) at e)) (k.proved _ s h)
          ] refl
        ] q
      ] refl

  word_kept : (l : Option WordLine) (s new : CutsState) → P s → judged_word cost l s ≡ Ok new
      → P new
  word_kept None s new h e = absurd (err_ok _ new e)
  word_kept (Some (CountLine outputs inputs)) s new h e =
      clauses_kept s new (count_line outputs inputs s.forms) h e
  word_kept (Some (MoreLine number)) s new h e =
      clauses_kept s new (more_line number s.forms) h e
  word_kept (Some (GroupLine inputs ids)) s new h e =
      forms_kept s new (group_line (listed_at s.live) inputs ids s.forms) h e
  word_kept (Some (FormLine scale facts)) s new h e =
      forms_kept s new (form_line (listed_at s.live) scale (map fact_of facts) s.forms) h e
  word_kept (Some (CutLine c)) s new h e = cut_kept c s new h e
  word_kept (Some (BoundLine lower)) s new h e = bound_kept lower s new h e

  line_kept : (s new : CutsState) (ts : List (List ℕ)) → P s → judged_line cost s ts ≡ Ok new
      → P new
  line_kept s new [] h e = subst P (ok_same s new e) h
  line_kept s new (t ∷ ts) h e =
      let rest = otherwise s.ended _ _ _ e (λ x. err_ok _ new x) in
      elim (word_of t) as (λ o. word_of t ≡ o → P new) [
        | None ↦ λ r. plain_kept (line_of (t ∷ ts)) s new h (rw r at rest)
        | Some w ↦ λ r. word_kept (after_word w ts) s new h (rw r at rest)
      ] refl

  pub lines_kept : (lines : List (List (List ℕ))) (s last : CutsState) (n : ℕ) → P s
      → judged_lines cost s n lines ≡ Ok last → P last
  lines_kept [] s last n h e = subst P (ok_same s last e) h
  lines_kept (ts ∷ more) s last n h e =
      elim (judged_line cost s ts) as (λ r. judged_line cost s ts ≡ r → P last) [
        | Err f ↦ λ q. absurd (err_ok _ last (rw q at e))
        | Ok next ↦ λ q. lines_kept more next last (n + 1) (line_kept s next ts h q) (rw q at e)
      ] refl
