-- The plain run before the first line.
use Rattle.std.proofs.Common.{◌≡◌, ℕ, zero, suc, ◌+◌, ◌≤◌, false, List, [], ◌∷◌, ◌++◌, length}
use Rattle.std.proofs.Common.{length-append, Some, inl, inr, refl, sym, ◌∙◌, ap, subst, arith}
use Rattle.std.specs.Prelude.{slice_get}
use Rattle.std.proofs.lemmas.Bool.{cases_lt}
use Rattle.std.proofs.lemmas.Option.{none-some}
use Rattle.cnf.specs.Formula.{numbered}
use Rattle.cnf.specs.Literal.{Literal}
use Rattle.cnf.specs.Lrat.{start_of}
use Rattle.cnf.specs.Problem.{Problem}
use Rattle.cnf.proofs.Laws.{numbered_past}
use Rattle.cnf.specs.declared.limits.TheConstants.{NUMBER_LIMIT}
use Rattle.bound.specs.Weighted.{weighted_cnf, weights_of}
use Rattle.forms.specs.Forms.{forms_of}
use Rattle.lrat_live.specs.Listed.{listed_from}
use Rattle.lrat_live.proofs.Laws.{listed_numbered}
use Rattle.lrat_cuts.specs.Cuts.{CutsState, cuts_start}
use Rattle.lrat_cuts.proofs.Laws.{put_all-last, put_all-live}
use Rattle.lrat_plain.specs.Names.{Names, names_start}
use Rattle.lrat_plain.proofs.LawNumbers.{given_number}
use Rattle.lrat_plain.proofs.LawStands.{Stands}

-- clauses before others, and behind others
front_at : (cs later : List (List Literal)) (i : ℕ) (c : List Literal) → slice_get cs i ≡ Some c
    → slice_get (cs ++ later) i ≡ Some c
front_at [] later i c e = absurd (none-some c e)
front_at (d ∷ cs) later zero c e = e
front_at (d ∷ cs) later (suc i) c e = front_at cs later i c e

front_numbered : (cs later : List (List Literal)) (i : ℕ) (c : List Literal)
    → numbered cs i ≡ Some c → numbered (cs ++ later) i ≡ Some c
front_numbered cs later zero c e = absurd (none-some c e)
front_numbered cs later (suc i) c e = front_at cs later i c e

behind_at : (cs later : List (List Literal)) (i : ℕ)
    → slice_get (cs ++ later) (length cs + i) ≡ slice_get later i
behind_at [] later i = let same : 0 + i ≡ i = omega arith in ap (slice_get later) same
behind_at (d ∷ cs) later i =
    let next : length (d ∷ cs) + i ≡ suc (length cs + i) = omega arith in
    ap (slice_get (d ∷ cs ++ later)) next ∙ behind_at cs later i

module _ (p : Problem) (later : List (List Literal)) where
  abbrev given : List (List Literal)
  given = (weighted_cnf p).clauses

  abbrev blank : CutsState
  blank = record {
    live = [];
    last = 0;
    forms = forms_of (weighted_cnf p).variables (weights_of p);
    ended = false;
    worth = NUMBER_LIMIT;
    proved = 0;
  }

  start_live : (cuts_start p).live ≡ listed_from 1 given
  start_live = put_all-live given blank

  start_last : (cuts_start p).last ≡ length given
  start_last = put_all-last given blank ∙ omega arith

  abbrev names : Names
  names = names_start (length given) (length given + length later)

  first_behind : (i : ℕ) (c : List Literal) → slice_get later i ≡ Some c
      → numbered (given ++ later) (length given + 0 + i + 1) ≡ Some c
  first_behind i c e =
      let k : length given + 0 + i + 1 ≡ suc (length given + i) = omega arith in
      ap (numbered (given ++ later)) k ∙ behind_at given later i ∙ e

  within : (i : ℕ) (c : List Literal) → numbered given i ≡ Some c → i ≤ length given
  within i c e = elim (cases_lt (length given) i) [
    | inl lt ↦ absurd (none-some c (sym (numbered_past given i lt) ∙ e))
    | inr le ↦ le
  ]

  over : Stands later names (listed_from 1 given) (length given) (start_of (given ++ later))
  over = record {
    all = omega arith;
    within = omega arith;
    behind = let e = length-append given later in omega (arith, e);
    up_to = λ i c e. within i c (sym (listed_numbered given i) ∙ e);
    none_above = λ i above. refl;
    placed = λ i c k e q. absurd (none-some k q);
    single = λ i j c d k e f q r. absurd (none-some k q);
    numbered = λ i c e.
        let there = sym (listed_numbered given i) ∙ e in
        ap (numbered (given ++ later)) (given_number names i (within i c there))
        ∙ front_numbered given later i c there;
    coming = first_behind;
  }

  pub begins : Stands later names (cuts_start p).live (cuts_start p).last
      (start_of (given ++ later))
  begins =
      subst (λ k. Stands later names (cuts_start p).live k (start_of (given ++ later)))
      (sym start_last)
      (subst (λ es. Stands later names es (length given) (start_of (given ++ later)))
      (sym start_live) over)
