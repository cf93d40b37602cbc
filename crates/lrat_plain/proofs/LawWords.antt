-- A right line that begins with a word: which clauses it makes, and where it ends the certificate.
use Rattle.std.proofs.Common.{◌≡◌, ℕ, ◌+◌, Bool, true, false, List, [], ◌∷◌, ◌++◌}
use Rattle.std.proofs.Common.{length, map, Option, Some, None, Result, Ok, Err, ◌⊎◌, inl, inr, refl}
use Rattle.std.proofs.Common.{sym, ◌∙◌, ap, subst, append_assoc, arith}
use Rattle.std.specs.Prelude.{max, min, nat_le, if◌then◌else◌}
use Rattle.std.proofs.lemmas.Bool.{false≢true}
use Rattle.cnf.specs.Clause.{is_empty_clause}
use Rattle.cnf.specs.Literal.{Literal}
use Rattle.cnf.specs.Lrat.{Live}
use Rattle.forms.specs.Forms.{Forms, Made, count_line, more_line, group_line, form_line, cut_line}
use Rattle.forms.specs.Forms.{bound_line}
use Rattle.forms.specs.declared.faults.LineFault.{LineFault}
use Rattle.lrat_live.specs.Listed.{listed_at}
use Rattle.lrat_read.specs.Words.{WordLine, CountLine, MoreLine, GroupLine, FormLine, CutLine}
use Rattle.lrat_read.specs.Words.{BoundLine}
use Rattle.lrat_machine.specs.declared.verdicts.Cause.{Cause}
use Rattle.lrat_machine.specs.declared.verdicts.Cause.TheVariants.{CutWorth}
use Rattle.lrat_cuts.specs.Cuts.{CutsState, cause_of, fact_of, judged_word, on_clauses, on_forms}
use Rattle.lrat_cuts.specs.Cuts.{put, put_all, taken_worth}
use Rattle.lrat_cuts.specs.Machine.{Puts}
use Rattle.lrat_cuts.proofs.Laws.{put_all-last, put_all-live}
use Rattle.lrat_plain.specs.Names.{Names, named, named_all}
use Rattle.lrat_plain.proofs.LawLists.{listed_new}
use Rattle.lrat_plain.proofs.LawStands.{Stands, makes_one}

abbrev pub middle : CutsState → Forms → ℕ → ℕ → CutsState
middle s f worth proved = record s { forms = f; worth = worth; proved = proved }

-- these clauses are put, whatever the line says of forms
pub record PutsAll (s : CutsState) (made : List (List Literal)) (t : CutsState) : Type 0 where
  pub forms : Forms
  pub worth : ℕ
  pub proved : ℕ
  pub is : put_all made (middle s forms worth proved) ≡ t

abbrev Made_by : CutsState → CutsState → Type 0
Made_by s t = (made : List (List Literal)) × PutsAll s made t

pub same_state : (x y : CutsState) → (let r : Result CutsState Cause = Ok x in r ≡ Ok y) → x ≡ y
same_state x y e = cc

no_state : (f : Cause) (x : CutsState) → (let r : Result CutsState Cause = Err f in r ≡ Ok x) → ⊥
no_state f x e = cc

module _ (s t : CutsState) where
  clauses_made : (r : Result Made LineFault) → on_clauses s r ≡ Ok t → Made_by s t
  clauses_made (Err x) e = absurd (no_state _ t e)
  clauses_made (Ok m) e = (
    m.clauses,
    record {
      forms = m.forms;
      worth = s.worth;
      proved = s.proved;
      is = same_state _ t e;
    },
  )

  none_made : (r : Result Forms LineFault) → on_forms s r ≡ Ok t → Made_by s t
  none_made (Err x) e = absurd (no_state _ t e)
  none_made (Ok f) e =
      ([], record { forms = f; worth = s.worth; proved = s.proved; is = same_state _ t e })

  abbrev taken : List Literal → Option ℕ → Result CutsState Cause
  taken c None = Err CutWorth
  taken c (Some w) = Ok (put (s.last + 1) c (record s { worth = min s.worth w }))

  abbrev cut_by : Option ℕ → List Literal → Result (Option ℕ) LineFault → Result CutsState Cause
  cut_by cost c (Err e) = Err (cause_of e)
  cut_by cost c (Ok w) = taken c (taken_worth cost ((s.forms).form).scale w)

  cut_taken : (c : List Literal) (o : Option ℕ) → taken c o ≡ Ok t → Made_by s t
  cut_taken c None e = absurd (no_state _ t e)
  cut_taken c (Some w) e = (
    c ∷ [],
    record {
      forms = s.forms;
      worth = min s.worth w;
      proved = s.proved;
      is = same_state _ t e;
    },
  )

  cut_made : (cost : Option ℕ) (c : List Literal) (r : Result (Option ℕ) LineFault)
      → cut_by cost c r ≡ Ok t → Made_by s t
  cut_made cost c (Err x) e = absurd (no_state _ t e)
  cut_made cost c (Ok w) e = cut_taken c (taken_worth cost ((s.forms).form).scale w) e

  abbrev bound_if : ℕ → Bool → Result CutsState Cause
  bound_if lower b =
      if b then Ok (record s { proved = max s.proved (min lower s.worth) }) else Err CutWorth

  abbrev bound_by : ℕ → Result (Option ℕ) LineFault → Result CutsState Cause
  bound_by lower (Err e) = Err (cause_of e)
  bound_by lower (Ok None) = Err CutWorth
  bound_by lower (Ok (Some w)) = bound_if lower (nat_le lower w)

  bound_proved : (lower : ℕ) (b : Bool) → bound_if lower b ≡ Ok t → Made_by s t
  bound_proved lower false e = absurd (no_state _ t e)
  bound_proved lower true e = (
    [],
    record {
      forms = s.forms;
      worth = s.worth;
      proved = max s.proved (min lower s.worth);
      is = same_state _ t e;
    },
  )

  bound_made : (lower : ℕ) (r : Result (Option ℕ) LineFault) → bound_by lower r ≡ Ok t
      → Made_by s t
  bound_made lower (Err x) e = absurd (no_state _ t e)
  bound_made lower (Ok None) e = absurd (no_state _ t e)
  bound_made lower (Ok (Some w)) e = bound_proved lower (nat_le lower w) e

  pub word_made : (cost : Option ℕ) (line : Option WordLine) → judged_word cost line s ≡ Ok t
      → (made : List (List Literal)) × PutsAll s made t
  word_made cost None e = absurd (no_state _ t e)
  word_made cost (Some (CountLine outputs inputs)) e =
      clauses_made (count_line outputs inputs s.forms) e
  word_made cost (Some (MoreLine number)) e = clauses_made (more_line number s.forms) e
  word_made cost (Some (GroupLine inputs ids)) e =
      none_made (group_line (listed_at s.live) inputs ids s.forms) e
  word_made cost (Some (FormLine scale facts)) e =
      none_made (form_line (listed_at s.live) scale (map fact_of facts) s.forms) e
  word_made cost (Some (CutLine c)) e = cut_made cost c (cut_line c s.forms) e
  word_made cost (Some (BoundLine lower)) e = bound_made lower (bound_line s.forms) e

-- the clauses are live behind the others
pub puts_of : (s t : CutsState) (made : List (List Literal)) → PutsAll s made t → Puts s made t
puts_of s t made p =
    let from = middle s p.forms p.worth p.proved in record {
      live = ap (λ (x : CutsState). x.live) (sym p.is) ∙ put_all-live made from;
      last = ap (λ (x : CutsState). x.last) (sym p.is) ∙ put_all-last made from;
    }

-- each has its number
makes_all : (cs later : List (List Literal)) (n : Names) (s : CutsState) (live : Live)
    → Stands (cs ++ later) n s.live s.last live
    → Stands later (named_all s.last (length cs) n) (put_all cs s).live (put_all cs s).last live
makes_all [] later n s live h = h
makes_all (c ∷ cs) later n s live h =
    makes_all cs later (named (s.last + 1) n) (put (s.last + 1) c s) live
    (makes_one c (cs ++ later) n s.live s.last live h)

pub made_stand : (s t : CutsState) (made later : List (List Literal)) (n : Names) (live : Live)
    → PutsAll s made t → Stands (made ++ later) n s.live s.last live
    → Stands later (named_all s.last (length made) n) t.live t.last live
made_stand s t made later n live p h =
    subst (λ (x : CutsState). Stands later (named_all s.last (length made) n) x.live x.last live)
    p.is (makes_all made later n (middle s p.forms p.worth p.proved) live h)

-- where the last one is empty
empty_is : (c : List Literal) → is_empty_clause c ≡ true → c ≡ []
empty_is [] e = refl
empty_is (l ∷ c) e = absurd (false≢true e)

abbrev EndsSo : List (List Literal) → Bool → Type 0
EndsSo cs before =
    ((cs ≡ []) × (before ≡ true)) ⊎ ((front : List (List Literal)) × (cs ≡ front ++ [] ∷ []))

put_all_ends : (cs : List (List Literal)) (s : CutsState) → (put_all cs s).ended ≡ true
    → EndsSo cs s.ended
put_all_ends [] s e = inl (refl, e)
put_all_ends (c ∷ cs) s e = by (put_all_ends cs (put (s.last + 1) c s) e)
  where
    by : EndsSo cs (is_empty_clause c) → EndsSo (c ∷ cs) s.ended
    by (inl h) = inr ([], ap (λ x. x ∷ cs) (empty_is c h.1) ∙ ap (λ z. [] ∷ z) h.0)
    by (inr h) = inr (c ∷ h.0, ap (λ z. c ∷ z) h.1)

last_listed : (front later : List (List Literal)) (c : List Literal) (n : Names) (s : CutsState)
    (live : Live) → Stands (front ++ c ∷ later) n s.live s.last live
    → listed_at (put_all (front ++ c ∷ []) s).live (put_all (front ++ c ∷ []) s).last ≡ Some c
last_listed [] later c n s live h = listed_new s.live (s.last + 1) c
    (none (listed_at s.live (s.last + 1)) refl)
  where
    none : (o : Option (List Literal)) → listed_at s.live (s.last + 1) ≡ o
        → listed_at s.live (s.last + 1) ≡ None
    none None q = q
    none (Some d) q = let u = h.up_to (s.last + 1) d q in absurd (omega (arith, u))
last_listed (x ∷ front) later c n s live h =
    last_listed front later c (named (s.last + 1) n) (put (s.last + 1) x s) live
    (makes_one x (front ++ c ∷ later) n s.live s.last live h)

pub empty_last : (s t : CutsState) (made later : List (List Literal)) (n : Names) (live : Live)
    → PutsAll s made t → s.ended ≡ false → t.ended ≡ true
    → Stands (made ++ later) n s.live s.last live → listed_at t.live t.last ≡ Some []
empty_last s t made later n live p open_end ended h =
    let from = middle s p.forms p.worth p.proved in
    by (put_all_ends made from (ap (λ (x : CutsState). x.ended) p.is ∙ ended))
  where
    by : EndsSo made s.ended → listed_at t.live t.last ≡ Some []
    by (inl k) = absurd (false≢true (sym open_end ∙ k.1))
    by (inr k) =
        let from = middle s p.forms p.worth p.proved in
        let here : Stands (k.0 ++ [] ∷ later) n s.live s.last live =
        subst (λ x. Stands x n s.live s.last live) (append_assoc k.0 ([] ∷ []) later)
        (subst (λ x. Stands (x ++ later) n s.live s.last live) k.1 h) in
        subst (λ (x : CutsState). listed_at x.live x.last ≡ Some []) p.is
        (subst (λ x. listed_at (put_all x from).live (put_all x from).last ≡ Some []) (sym k.1)
        (last_listed k.0 later [] n from live here))
