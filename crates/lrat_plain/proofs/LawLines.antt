-- All lines: the plain ones are correct, and the last one adds the empty clause where the
-- certificate has ended.
use Rattle.std.proofs.Common.{◌≡◌, ℕ, ◌+◌, true, false, Bool, List, [], ◌∷◌, ◌++◌, Option, Result}
use Rattle.std.proofs.Common.{Ok, Err, refl, sym, ◌∙◌, ap, subst, append-nil, append_assoc}
use Rattle.std.proofs.Common.{length, map}
use Rattle.std.specs.List.{AllByRecursion}
use Rattle.cnf.specs.Clause.{is_empty_clause}
use Rattle.cnf.specs.Literal.{Literal}
use Rattle.cnf.specs.Lrat.{Addition, Deletion, Live, ProofLine, adds_empty}
use Rattle.lrat_machine.specs.declared.verdicts.Cause.{Cause}
use Rattle.lrat_cuts.specs.Cuts.{CutsState, judged_line, judged_lines}
use Rattle.lrat_plain.specs.Law.{ChainByHints}
use Rattle.lrat_plain.specs.Names.{Names, added, named_all, renumbered}
use Rattle.lrat_plain.specs.Plain.{ending, lines_by, lines_in, made_by, made_in, names_after}
use Rattle.lrat_plain.proofs.Cases.{trailing}
use Rattle.lrat_plain.proofs.LawCases.{line_is}
use Rattle.lrat_plain.proofs.LawSteps.{line_goes}
use Rattle.lrat_plain.proofs.LawStands.{Stands}
use Rattle.lrat_plain.proofs.LawWords.{same_state}
use Rattle.lrat_plain.proofs.Stepping.{line_by, lines_if, made_if}

-- lines that are correct one after another
abbrev AreCorrect : Live → List ProofLine → Type 0
AreCorrect live ls = (left : Live) × ChainByHints live ls left

correct_on : (start mid : Live) (ls ms : List ProofLine) → ChainByHints start ls mid
    → AreCorrect mid ms
    → AreCorrect start (ls ++ ms)
correct_on start mid [] ms e k = subst (λ x. AreCorrect x ms) e k
correct_on start mid (l ∷ ls) ms w k =
    let rest = correct_on w.0 mid ls ms w.3 k in (rest.0, (w.0, w.1, w.2, rest.1))

-- behind the empty clause there is no plain line
module _ (cost : Option ℕ) (s t : CutsState) (ts : List (List ℕ))
    (right : judged_line cost s ts ≡ Ok t) (ended : s.ended ≡ true) where
  nothing : ts ≡ []
  nothing = trailing cost s t ts right ended

  still_ended : t.ended ≡ true
  still_ended =
      let same : s ≡ t = same_state s t (ap (judged_line cost s) (sym nothing) ∙ right) in
      ap (λ (x : CutsState). x.ended) (sym same) ∙ ended

  no_line : (n : Names) → lines_by n ts s t ≡ []
  no_line n = ap (λ us. lines_by n us s t) nothing

abbrev plain_on : Option ℕ → Names → CutsState → List (List ℕ) → List (List (List ℕ))
    → CutsState → List ProofLine
plain_on cost n s ts more t = lines_by n ts s t ++ lines_in cost (names_after n ts s t) t more

none_behind : (cost : Option ℕ) (lines : List (List (List ℕ))) (n : Names) (s : CutsState)
    → s.ended ≡ true → lines_in cost n s lines ≡ []
none_behind cost [] n s ended = refl
none_behind cost (ts ∷ more) n s ended =
    by (judged_line cost s ts) refl (λ m t e. none_behind cost more m t e)
  where
    by : (r : Result CutsState Cause) → judged_line cost s ts ≡ r
        → ((m : Names) (t : CutsState) → t.ended ≡ true → lines_in cost m t more ≡ [])
        → lines_in cost n s (ts ∷ more) ≡ []
    by (Err f) q go = ap (λ r. lines_if r (plain_on cost n s ts more)) q
    by (Ok t) q go =
        ap (λ r. lines_if r (plain_on cost n s ts more)) q
        ∙ ap (λ ls. ls ++ lines_in cost (names_after n ts s t) t more)
        (no_line cost s t ts q ended n)
        ∙ go (names_after n ts s t) t (still_ended cost s t ts q ended)

pub lines_correct : (cost : Option ℕ) (lines : List (List (List ℕ))) (n : Names) (s : CutsState)
    (live : Live) → (s.ended ≡ false → Stands (made_in cost s lines) n s.live s.last live)
    → AreCorrect live (lines_in cost n s lines)
lines_correct cost [] n s live h = (live, refl)
lines_correct cost (ts ∷ more) n s live h =
    elim s.ended as (λ b. s.ended ≡ b → AreCorrect live (lines_in cost n s (ts ∷ more))) [
      | true ↦ λ ended.
          subst (AreCorrect live) (sym (none_behind cost (ts ∷ more) n s ended)) (live, refl)
      | false ↦ λ open_end.
          by open_end (judged_line cost s ts) refl (λ m t k g. lines_correct cost more m t k g)
    ] refl
  where
    by : s.ended ≡ false → (r : Result CutsState Cause) → judged_line cost s ts ≡ r
        → ((m : Names) (t : CutsState) (k : Live)
        → (t.ended ≡ false → Stands (made_in cost t more) m t.live t.last k)
        → AreCorrect k (lines_in cost m t more))
        → AreCorrect live (lines_in cost n s (ts ∷ more))
    by open_end (Err f) q go =
        subst (λ r. AreCorrect live (lines_if r (plain_on cost n s ts more))) (sym q) (live, refl)
    by open_end (Ok t) q go =
        let later = made_in cost t more in
        let here : Stands (made_by ts s t ++ later) n s.live s.last live =
        subst (λ r. Stands (made_if r (λ t. made_by ts s t ++ made_in cost t more)) n s.live s.last
        live) q (h open_end) in
        let g = line_goes cost s t ts q open_end n live later here in
        subst (λ r. AreCorrect live (lines_if r (plain_on cost n s ts more))) (sym q)
        (correct_on live g.next (lines_by n ts s t) (lines_in cost (names_after n ts s t) t more)
        g.chain (go (names_after n ts s t) t g.next g.stands))

-- which line adds the empty clause
abbrev IsNoEnd : ProofLine → Type 0
IsNoEnd l = adds_empty l ≡ false

abbrev pub EndSo : Bool → List ProofLine → Type 0
EndSo true ls = (front : List ProofLine) × (final : ProofLine) × (ls ≡ front ++ final ∷ [])
    × (adds_empty final ≡ true) × AllByRecursion IsNoEnd front
EndSo false ls = AllByRecursion IsNoEnd ls

none_ends : (ls ms : List ProofLine) → AllByRecursion IsNoEnd ls → AllByRecursion IsNoEnd ms
    → AllByRecursion IsNoEnd (ls ++ ms)
none_ends [] ms h k = k
none_ends (l ∷ ls) ms h k = (h.0, none_ends ls ms h.1 k)

ends_behind : (b : Bool) (ls ms : List ProofLine) → AllByRecursion IsNoEnd ls → EndSo b ms
    → EndSo b (ls ++ ms)
ends_behind false ls ms h k = none_ends ls ms h k
ends_behind true ls ms h k = (
  ls ++ k.0,
  k.1,
  ap (λ x. ls ++ x) k.2 ∙ sym (append_assoc ls k.0 (k.1 ∷ [])),
  k.3,
  none_ends ls k.0 h k.4,
)

addition_ends : (id : ℕ) (c : List Literal) (hints : List ℕ)
    → EndSo (is_empty_clause c) (Addition id c hints [] ∷ [])
addition_ends id [] hints = ([], Addition id [] hints [], refl, refl, tt)
addition_ends id (l ∷ c) hints = (refl, tt)

ending_ends : (n : Names) (last : ℕ) (b : Bool) → EndSo b (ending n last b)
ending_ends n last true =
    ([], Addition (added n (last + 1)) [] (renumbered n last ∷ []) [], refl, refl, tt)
ending_ends n last false = tt

line_ends : (cost : Option ℕ) (s t : CutsState) (ts : List (List ℕ))
    → judged_line cost s ts ≡ Ok t → s.ended ≡ false → (n : Names)
    → EndSo t.ended (lines_by n ts s t)
line_ends cost s t ts right open_end n =
    line_is cost s t ts right n (λ ls m made. EndSo t.ended ls)
    (λ same. subst (λ b. EndSo b []) (sym (ap (λ (x : CutsState). x.ended) (sym same) ∙ open_end))
    tt)
    (λ id c hints fault state.
    let numbers : List ℕ = map (λ h. renumbered n h.1) hints in
    subst (λ (x : CutsState). EndSo x.ended (Addition (added n id) c numbers [] ∷ [])) (sym state)
    (addition_ends (added n id) c numbers))
    (λ first ids es left state.
    subst (λ b. EndSo b (Deletion first (map (renumbered n) ids) ∷ []))
    (sym (ap (λ (x : CutsState). x.ended) (sym state) ∙ open_end)) (refl, tt))
    (λ made p. ending_ends (named_all s.last (length made) n) t.last t.ended)

same_end : (s u : CutsState) → (let r : Result CutsState (Cause × ℕ) = Ok s in r ≡ Ok u) → s ≡ u
same_end s u e = cc

no_end : (f : Cause × ℕ) (u : CutsState)
    → (let r : Result CutsState (Cause × ℕ) = Err f in r ≡ Ok u) → ⊥
no_end f u e = cc

-- what comes behind the empty clause
ended_on : (cost : Option ℕ) (lines : List (List (List ℕ))) (s u : CutsState) (k : ℕ)
    → judged_lines cost s k lines ≡ Ok u → s.ended ≡ true → u.ended ≡ true
ended_on cost [] s u k e ended = ap (λ (x : CutsState). x.ended) (sym (same_end s u e)) ∙ ended
ended_on cost (ts ∷ more) s u k e ended =
    by (judged_line cost s ts) refl (λ t f g. ended_on cost more t u (k + 1) f g)
  where
    by : (r : Result CutsState Cause) → judged_line cost s ts ≡ r
        → ((t : CutsState) → judged_lines cost t (k + 1) more ≡ Ok u → t.ended ≡ true
        → u.ended ≡ true) → u.ended ≡ true
    by (Err f) q go =
        let bad : Err (f, k) ≡ Ok u =
        sym (ap (λ r. line_by k r (λ t. judged_lines cost t (k + 1) more)) q) ∙ e in
        absurd (no_end (f, k) u bad)
    by (Ok t) q go =
        go t (sym (ap (λ r. line_by k r (λ t. judged_lines cost t (k + 1) more)) q) ∙ e)
        (still_ended cost s t ts q ended)

pub lines_end : (cost : Option ℕ) (lines : List (List (List ℕ))) (n : Names) (s u : CutsState)
    (k : ℕ) → judged_lines cost s k lines ≡ Ok u → s.ended ≡ false
    → EndSo u.ended (lines_in cost n s lines)
lines_end cost [] n s u k e open_end =
    subst (λ b. EndSo b [])
    (sym (ap (λ (x : CutsState). x.ended) (sym (same_end s u e)) ∙ open_end)) tt
lines_end cost (ts ∷ more) n s u k e open_end =
    by (judged_line cost s ts) refl (λ m t f g. lines_end cost more m t u (k + 1) f g)
  where
    with_rest : (t : CutsState) → judged_line cost s ts ≡ Ok t
        → judged_lines cost t (k + 1) more ≡ Ok u
        → (t.ended ≡ false → EndSo u.ended (lines_in cost (names_after n ts s t) t more))
        → EndSo u.ended (plain_on cost n s ts more t)
    with_rest t q rest go =
        let first = line_ends cost s t ts q open_end n in
        elim t.ended as (λ b. t.ended ≡ b → EndSo u.ended (plain_on cost n s ts more t)) [
          | true ↦ λ ended.
              let last = ended_on cost more t u (k + 1) rest ended in
              subst (λ b. EndSo b (plain_on cost n s ts more t)) (sym last)
              (subst (EndSo true)
              (sym (ap (λ ls. lines_by n ts s t ++ ls)
              (none_behind cost more (names_after n ts s t) t ended)
              ∙ append-nil (lines_by n ts s t)))
              (subst (λ b. EndSo b (lines_by n ts s t)) ended first))
          | false ↦ λ not_ended.
              ends_behind u.ended (lines_by n ts s t)
              (lines_in cost (names_after n ts s t) t more)
              (subst (λ b. EndSo b (lines_by n ts s t)) not_ended first) (go not_ended)
        ] refl

    by : (r : Result CutsState Cause) → judged_line cost s ts ≡ r
        → ((m : Names) (t : CutsState) → judged_lines cost t (k + 1) more ≡ Ok u
        → t.ended ≡ false → EndSo u.ended (lines_in cost m t more))
        → EndSo u.ended (lines_in cost n s (ts ∷ more))
    by (Err f) q go =
        let bad : Err (f, k) ≡ Ok u =
        sym (ap (λ r. line_by k r (λ t. judged_lines cost t (k + 1) more)) q) ∙ e in
        absurd (no_end (f, k) u bad)
    by (Ok t) q go =
        let rest = sym (ap (λ r. line_by k r (λ t. judged_lines cost t (k + 1) more)) q)
        ∙ e in
        subst (λ r. EndSo u.ended (lines_if r (plain_on cost n s ts more))) (sym q)
        (with_rest t q rest (λ f. go (names_after n ts s t) t rest f))
