-- Clauses that are put one after the other.
use Rattle.std.proofs.Common.{◌≡◌, ℕ, ◌+◌, List, [], ◌∷◌, ◌++◌, length, refl, sym, ◌∙◌, ap, arith}
use Rattle.std.proofs.Common.{append_assoc, append-nil}
use Rattle.cnf.specs.Literal.{Literal}
use Rattle.std.specs.Prelude.{false}
use Rattle.cnf.specs.Formula.{Cnf}
use Rattle.cnf.specs.Problem.{Problem}
use Rattle.cnf.specs.declared.limits.TheConstants.{NUMBER_LIMIT}
use Rattle.bound.specs.Weighted.{weighted_cnf, weights_of}
use Rattle.forms.specs.Forms.{Forms, forms_of}
use Rattle.lrat_live.specs.Listed.{listed_from}
use Rattle.lrat_machine.specs.Rup.{RupState}
use Rattle.lrat_cuts.specs.Cuts.{CutsState, cuts_start, put, put_all}
use Rattle.lrat_cuts.specs.Machine.{Puts, heard_all}

pub put_all-live : (cs : List (List Literal)) (s : CutsState)
    → (put_all cs s).live ≡ s.live ++ listed_from (s.last + 1) cs
put_all-live [] s = sym (append-nil s.live)
put_all-live (c ∷ cs) s =
    let id = s.last + 1 in
    put_all-live cs (put id c s) ∙ append_assoc s.live ((id, c) ∷ []) (listed_from (id + 1) cs)

pub put_all-last : (cs : List (List Literal)) (s : CutsState)
    → (put_all cs s).last ≡ s.last + length cs
put_all-last [] s = omega arith
put_all-last (c ∷ cs) s =
    let rest = put_all-last cs (put (s.last + 1) c s) in omega (arith, rest)

-- whatever the forms are meanwhile
pub puts_all : (old mid new : CutsState) (cs : List (List Literal)) → mid.live ≡ old.live
    → mid.last ≡ old.last → new ≡ put_all cs mid → Puts old cs new
puts_all old mid new cs live last e = record {
  live = ap (λ (x : CutsState). x.live) e ∙ put_all-live cs mid
      ∙ ap (λ x. x ++ listed_from (mid.last + 1) cs) live
      ∙ ap (λ n. old.live ++ listed_from (n + 1) cs) last;
  last = ap (λ (x : CutsState). x.last) e ∙ put_all-last cs mid ∙ ap (λ n. n + length cs) last;
}

put_all-forms : (cs : List (List Literal)) (s : CutsState)
    → (put_all cs s).forms ≡ heard_all cs s.forms
put_all-forms [] s = refl
put_all-forms (c ∷ cs) s = put_all-forms cs (put (s.last + 1) c s)

pub put_all-worth : (cs : List (List Literal)) (s : CutsState) → (put_all cs s).worth ≡ s.worth
put_all-worth [] s = refl
put_all-worth (c ∷ cs) s = put_all-worth cs (put (s.last + 1) c s)

-- before the first line
abbrev state_of : RupState → Forms → ℕ → CutsState
state_of b f worth = record {
  live = b.clauses;
  last = b.last;
  forms = f;
  ended = false;
  worth = worth;
  proved = 0;
}

abbrev listed_over : List (List Literal) → RupState
listed_over cs = record { clauses = listed_from 1 cs; last = length cs }

starts_over : (n : ℕ) (ws : List (ℕ × Literal)) (cs : List (List Literal))
    → (let blank : CutsState = state_of (record { clauses = []; last = 0 }) (forms_of n ws)
    NUMBER_LIMIT in state_of (listed_over cs) (heard_all cs (forms_of n ws)) NUMBER_LIMIT
    ≡ record (put_all cs blank) { ended = false; proved = 0 })
starts_over n ws cs =
    let blank : CutsState =
    state_of (record { clauses = []; last = 0 }) (forms_of n ws) NUMBER_LIMIT in
    let last : (put_all cs blank).last ≡ length cs = put_all-last cs blank ∙ omega arith in
    λ i. record {
      live = sym (put_all-live cs blank) i;
      last = sym last i;
      forms = sym (put_all-forms cs blank) i;
      ended = false;
      worth = sym (put_all-worth cs blank) i;
      proved = 0;
    }

abbrev blank_over : Problem → CutsState
blank_over p =
    state_of (record { clauses = []; last = 0 })
    (forms_of (weighted_cnf p).variables (weights_of p)) NUMBER_LIMIT

pub starts_heard : (p : Problem) (g : Cnf) (n : ℕ) (ws : List (ℕ × Literal)) (f : Forms)
    → g ≡ weighted_cnf p → n ≡ g.variables → ws ≡ weights_of p
    → f ≡ heard_all g.clauses (forms_of n ws) → f ≡ (cuts_start p).forms
starts_heard p g n ws f is vars weights heard =
    let w = weighted_cnf p in
    heard
    ∙ ap (λ (x : Cnf). heard_all x.clauses (forms_of n ws)) is
    ∙ ap (λ k. heard_all w.clauses (forms_of k ws)) (vars ∙ ap (λ (x : Cnf). x.variables) is)
    ∙ ap (λ k. heard_all w.clauses (forms_of w.variables k)) weights
    ∙ sym (put_all-forms w.clauses (blank_over p))

pub starts : (p : Problem) (g : Cnf) (b : RupState) (f : Forms) → g ≡ weighted_cnf p
    → b ≡ record { clauses = listed_from 1 g.clauses; last = length g.clauses }
    → f ≡ (cuts_start p).forms → state_of b f NUMBER_LIMIT ≡ cuts_start p
starts p g b f is listed heard =
    let w = weighted_cnf p in
    let same = heard ∙ put_all-forms w.clauses (blank_over p) in
    (λ i. state_of ((listed ∙ ap (λ (x : Cnf). listed_over x.clauses) is) i) (same i) NUMBER_LIMIT)
    ∙ starts_over w.variables (weights_of p) w.clauses
