-- One line after another.
use Rattle.std.proofs.Common.{◌≡◌, ℕ, ◌+◌, Bool, true, false, if◌then◌else◌, List, [], ◌∷◌, map}
use Rattle.std.proofs.Common.{Option, Some, None, Result, Ok, Err, refl, subst}
use Rattle.cnf.specs.Literal.{Assignment}
use Rattle.cnf.specs.Problem.{Problem}
use Rattle.cnf.specs.Instance.{IsInstance}
use Rattle.cnf.proofs.Laws.{AllHold}
use Rattle.lrat_live.specs.Listed.{listed_at}
use Rattle.lrat_read.specs.Form.{Parsed, Addition, Deletion, Malformed, line_of}
use Rattle.lrat_read.specs.Words.{WordLine, CountLine, MoreLine, GroupLine, FormLine, CutLine}
use Rattle.lrat_read.specs.Words.{BoundLine, after_word, word_of}
use Rattle.lrat_machine.specs.Rup.{deleted_from, rup_fault}
use Rattle.lrat_machine.specs.Steps.{live_of}
use Rattle.forms.specs.Forms.{Forms, Made, count_line, form_line, group_line, more_line}
use Rattle.forms.specs.declared.faults.LineFault.{LineFault}
use Rattle.lrat_cuts.specs.Cuts.{CutsState, fact_of, judged_line, judged_lines, judged_plain}
use Rattle.lrat_cuts.specs.Cuts.{judged_word, on_clauses, on_forms}
use Rattle.lrat_cuts.proofs.LawMeaning.{IsCheap}
use Rattle.lrat_cuts.proofs.LawFacts.{Keeps, form_line_keeps}
use Rattle.lrat_cuts.proofs.LawItems.{count_keeps, group_keeps, more_keeps}
use Rattle.lrat_cuts.proofs.LawResults.{err_ok, ok_same}
use Rattle.lrat_cuts.proofs.LawState.{IsSound, MadeKeeps, forms_sound, made_sound, put_sound}
use Rattle.lrat_cuts.proofs.LawAdditions.{added_true, deleted_true, listed_hold}
use Rattle.lrat_cuts.proofs.LawCuts.{bound_sound, cut_sound}

pub otherwise : {X : Type 0} (b : Bool) (x y z : X) → (if b then x else y) ≡ z → (x ≡ z → ⊥)
    → y ≡ z
otherwise true x y z e n = absurd (n e)
otherwise false x y z e n = e

module _ (p : Problem) (i : IsInstance p) where
  all_hold : (s : CutsState) → IsSound p s → (t : Assignment)
      → IsCheap p s.worth (s.forms).numbered t → AllHold t (listed_at s.live)
  all_hold s h t c = listed_hold t s.live (h.live t c)

  plain_sound : (l : Parsed) (s new : CutsState) → IsSound p s → judged_plain l s ≡ Ok new
      → IsSound p new
  plain_sound Malformed s new h e = absurd (err_ok _ new e)
  plain_sound (Deletion ids) s new h e =
      elim (deleted_from s.live ids) as (λ o. deleted_from s.live ids ≡ o → IsSound p new) [
        | None ↦ λ q. absurd (err_ok _ new (rw q at e))
        | Some es ↦ λ q.
            subst (IsSound p) (ok_same _ new (rw q at e)) (record {
              forms = h.forms;
              live = λ t c. deleted_true t ids s.live es (h.live t c) q;
              proved = h.proved;
            })
      ] refl
  plain_sound (Addition id c hints) s new h e =
      elim (rup_fault (live_of s.last s.live) id c hints)
      as (λ o. rup_fault (live_of s.last s.live) id c hints ≡ o → IsSound p new) [
        | Some f ↦ λ q. absurd (err_ok _ new (rw q at e))
        | None ↦ λ q.
            subst (IsSound p) (ok_same _ new (rw q at e))
            (put_sound p i id c s h (λ t x.
            added_true (live_of s.last s.live) id c hints q t (all_hold s h t x)))
      ] refl

  clauses_sound : (s new : CutsState) (r : Result Made LineFault) → IsSound p s
      → ((m : Made) → r ≡ Ok m → MadeKeeps p s.worth s.forms m) → on_clauses s r ≡ Ok new
      → IsSound p new
  clauses_sound s new (Err x) h k e = absurd (err_ok _ new e)
  clauses_sound s new (Ok m) h k e =
      subst (IsSound p) (ok_same _ new e) (made_sound p i s m h (k m refl))

  on_forms_sound : (s new : CutsState) (r : Result Forms LineFault) → IsSound p s
      → ((f : Forms) → r ≡ Ok f → Keeps p s.worth s.forms f) → on_forms s r ≡ Ok new
      → IsSound p new
  on_forms_sound s new (Err x) h k e = absurd (err_ok _ new e)
  on_forms_sound s new (Ok f) h k e =
      subst (IsSound p) (ok_same _ new e) (forms_sound p s f h (k f refl))

  word_sound : (cost : Option ℕ) (l : Option WordLine) (s new : CutsState) → IsSound p s
      → judged_word cost l s ≡ Ok new → IsSound p new
  word_sound cost None s new h e = absurd (err_ok _ new e)
  word_sound cost (Some (CountLine outputs inputs)) s new h e =
      clauses_sound s new (count_line outputs inputs s.forms) h
      (λ m q. count_keeps p i s.worth outputs inputs s.forms m h.forms q) e
  word_sound cost (Some (MoreLine number)) s new h e =
      clauses_sound s new (more_line number s.forms) h
      (λ m q. more_keeps p i s.worth number s.forms m h.forms q) e
  word_sound cost (Some (GroupLine inputs ids)) s new h e =
      on_forms_sound s new (group_line (listed_at s.live) inputs ids s.forms) h
      (λ f q. group_keeps p s.worth (listed_at s.live) inputs ids s.forms f h.forms
      (all_hold s h) q) e
  word_sound cost (Some (FormLine scale facts)) s new h e =
      on_forms_sound s new (form_line (listed_at s.live) scale (map fact_of facts) s.forms) h
      (λ f q. form_line_keeps p s.worth (listed_at s.live) scale (map fact_of facts) s.forms f
      h.forms (all_hold s h) q) e
  word_sound cost (Some (CutLine c)) s new h e = cut_sound p i cost c s new h e
  word_sound cost (Some (BoundLine lower)) s new h e = bound_sound p i lower s new h e

  line_sound : (cost : Option ℕ) (s new : CutsState) (ts : List (List ℕ)) → IsSound p s
      → judged_line cost s ts ≡ Ok new → IsSound p new
  line_sound cost s new [] h e = subst (IsSound p) (ok_same s new e) h
  line_sound cost s new (t ∷ ts) h e =
      let rest = otherwise s.ended _ _ _ e (λ x. err_ok _ new x) in
      elim (word_of t) as (λ o. word_of t ≡ o → IsSound p new) [
        | None ↦ λ r. plain_sound (line_of (t ∷ ts)) s new h (rw r at rest)
        | Some w ↦ λ r. word_sound cost (after_word w ts) s new h (rw r at rest)
      ] refl

  pub lines_sound : (cost : Option ℕ) (lines : List (List (List ℕ))) (s last : CutsState) (n : ℕ)
      → IsSound p s → judged_lines cost s n lines ≡ Ok last → IsSound p last
  lines_sound cost [] s last n h e = subst (IsSound p) (ok_same s last e) h
  lines_sound cost (ts ∷ more) s last n h e =
      elim (judged_line cost s ts) as (λ r. judged_line cost s ts ≡ r → IsSound p last) [
        | Err f ↦ λ q. absurd (err_ok _ last (rw q at e))
        | Ok next ↦ λ q.
            lines_sound cost more next last (n + 1) (line_sound cost s next ts h q) (rw q at e)
      ] refl
