-- What holds of a state of lines, and clauses that become live.
use Rattle.std.proofs.Common.{ℕ, ◌+◌, ◌≤◌, List, [], ◌∷◌, subst, arith}
use Rattle.std.proofs.lemmas.Bool.{false≢true}
use Rattle.std.specs.List.{AllByRecursion}
use Rattle.cnf.specs.Literal.{Assignment, Literal}
use Rattle.cnf.specs.Clause.{Satisfies}
use Rattle.cnf.specs.Problem.{Problem, IsFeasible, cost_under}
use Rattle.cnf.specs.Instance.{IsInstance}
use Rattle.cnf.proofs.Laws.{all_push}
use Rattle.lrat_live.specs.Listed.{Listed}
use Rattle.forms.specs.Forms.{Forms, Made, heard}
use Rattle.lrat_cuts.specs.Cuts.{CutsState, put, put_all}
use Rattle.lrat_cuts.proofs.LawMeaning.{IsCheap, none_cheap}
use Rattle.lrat_cuts.proofs.LawForms.{Holds, heard_holds, heard_numbered}
use Rattle.lrat_cuts.proofs.LawFacts.{Keeps}

-- each of these clauses is true
abbrev pub AreLiveTrue : Assignment → Listed → Type 0
AreLiveTrue t es = AllByRecursion (λ e. Satisfies t e.1) es

-- what is live holds in each solution that costs less than the cuts are worth
pub record IsSound (p : Problem) (s : CutsState) : Type 0 where
  pub forms : Holds p s.worth s.forms
  pub live : (t : Assignment) → IsCheap p s.worth (s.forms).numbered t → AreLiveTrue t s.live
  pub proved : (u : Assignment) → IsFeasible p u → s.proved ≤ cost_under p u

-- other forms
pub forms_sound : (p : Problem) (s : CutsState) (f : Forms) → IsSound p s
    → Keeps p s.worth s.forms f → IsSound p (record s { forms = f })
forms_sound p s f h k = record {
  forms = k.holds;
  live = λ t c. h.live t (k.back t c);
  proved = h.proved;
}

-- one more clause
module _ (p : Problem) (i : IsInstance p) where
  heard_back : (k : ℕ) (c : List Literal) (f : Forms) (t : Assignment)
      → IsCheap p k (heard c f).numbered t → IsCheap p k f.numbered t
  heard_back k c f t h = subst (λ ns. IsCheap p k ns t) (heard_numbered c f) h

  put_proved : (c : List Literal) (s : CutsState) → IsSound p s
      → ((t : Assignment) → IsCheap p s.worth (s.forms).numbered t → Satisfies t c)
      → (id : ℕ) (u : Assignment) → IsFeasible p u → (put id c s).proved ≤ cost_under p u
  put_proved [] s h on id u feasible =
      let f = s.forms in
      let none = none_cheap p i s.worth f.variables f.form f.numbered h.forms
      (λ t c. false≢true (on t c)) u feasible in
      omega (arith, none, h.proved u feasible)
  put_proved (l ∷ c) s h on id u feasible = h.proved u feasible

  pub put_sound : (id : ℕ) (c : List Literal) (s : CutsState) → IsSound p s
      → ((t : Assignment) → IsCheap p s.worth (s.forms).numbered t → Satisfies t c)
      → IsSound p (put id c s)
  put_sound id c s h on = record {
    forms = heard_holds p s.worth s.forms c h.forms on;
    live = λ t x.
        let b = heard_back s.worth c s.forms t x in
        all_push (λ e. Satisfies t e.1) s.live (id, c) (h.live t b) (on t b);
    proved = put_proved c s h on id;
  }

  pub put_all_sound : (cs : List (List Literal)) (s : CutsState) → IsSound p s
      → ((t : Assignment) → IsCheap p s.worth (s.forms).numbered t
      → AllByRecursion (Satisfies t) cs) → IsSound p (put_all cs s)
  put_all_sound [] s h on = h
  put_all_sound (c ∷ cs) s h on =
      put_all_sound cs (put (s.last + 1) c s)
      (put_sound (s.last + 1) c s h (λ t x. (on t x).0))
      (λ t x. (on t (heard_back s.worth c s.forms t x)).1)

-- what a line of clauses makes
pub record MadeKeeps (p : Problem) (k : ℕ) (old : Forms) (m : Made) : Type 0 where
  pub keeps : Keeps p k old m.forms
  pub clauses : (t : Assignment) → IsCheap p k (m.forms).numbered t
      → AllByRecursion (Satisfies t) m.clauses

pub made_sound : (p : Problem) → IsInstance p → (s : CutsState) (m : Made) → IsSound p s
    → MadeKeeps p s.worth s.forms m → IsSound p (put_all m.clauses (record s { forms = m.forms }))
made_sound p i s m h k =
    put_all_sound p i m.clauses (record s { forms = m.forms })
    (forms_sound p s m.forms h k.keeps) k.clauses
