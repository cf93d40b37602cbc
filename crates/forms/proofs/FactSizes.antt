-- The terms of facts, one fact after another.
use Rattle.std.proofs.Common.{◌≡◌, ℕ, ◌+◌, ◌<◌, ◌≤◌, List, ◌∷◌, length, drop, get_or, refl, sym}
use Rattle.std.proofs.Common.{◌∙◌}
use Rattle.std.proofs.Common.{ap, arith, Some, None, false}
use Rattle.std.specs.Prelude.{Option}
use Rattle.std.proofs.lemmas.List.{at_drop_more, at_drop_all}
use Rattle.cnf.specs.Refute.{Clauses}
use Rattle.forms.specs.declared.types.NamedFact.{NamedFact}
use Rattle.forms.specs.Forms.{Numbered, fact_size, facts_size, plus_size}

-- what stands past the end of a list
abbrev pub no_fact : NamedFact
no_fact = record { weight = 0; is_numbered = false; number = 0 }

-- behind a fact that is not there
none_first : (at : Clauses) (ns : List Numbered) (f : NamedFact) (fs : List NamedFact)
    → fact_size at ns f ≡ None → facts_size at ns (f ∷ fs) ≡ None
none_first at ns f fs e = rw e refl

some_first : (at : Clauses) (ns : List Numbered) (f : NamedFact) (fs : List NamedFact) (m : ℕ)
    → fact_size at ns f ≡ Some m → facts_size at ns (f ∷ fs) ≡ plus_size m (facts_size at ns fs)
some_first at ns f fs m e = rw e refl

twice : (m n : ℕ) (rest : Option ℕ) → plus_size m (plus_size n rest) ≡ plus_size (m + n) rest
twice m n None = refl
twice m n (Some k) = ap (λ x. Some x) (let e : m + (n + k) ≡ m + n + k = omega arith in e)

pub size_none : (at : Clauses) (ns : List Numbered) (fs : List NamedFact) (i total : ℕ)
    (d : NamedFact) → i < length fs
    → facts_size at ns fs ≡ plus_size total (facts_size at ns (drop i fs))
    → fact_size at ns (get_or fs i d) ≡ None → facts_size at ns fs ≡ None
size_none at ns fs i total d lt whole none =
    whole ∙ ap (plus_size total) (at_drop_more (facts_size at ns) fs i d lt
    ∙ none_first at ns (get_or fs i d) (drop (i + 1) fs) none)

pub size_more : (at : Clauses) (ns : List Numbered) (fs : List NamedFact) (i total m : ℕ)
    (d : NamedFact) → i < length fs
    → facts_size at ns fs ≡ plus_size total (facts_size at ns (drop i fs))
    → fact_size at ns (get_or fs i d) ≡ Some m
    → facts_size at ns fs ≡ plus_size (total + m) (facts_size at ns (drop (i + 1) fs))
size_more at ns fs i total m d lt whole some =
    whole ∙ ap (plus_size total) (at_drop_more (facts_size at ns) fs i d lt
    ∙ some_first at ns (get_or fs i d) (drop (i + 1) fs) m some)
    ∙ twice total m (facts_size at ns (drop (i + 1) fs))

pub size_all : (at : Clauses) (ns : List Numbered) (fs : List NamedFact) (i total : ℕ)
    → length fs ≤ i → facts_size at ns fs ≡ plus_size total (facts_size at ns (drop i fs))
    → Some total ≡ facts_size at ns fs
size_all at ns fs i total le whole =
    ap (λ x. Some x) (let e : total ≡ total + 0 = omega arith in e)
    ∙ sym (whole ∙ ap (plus_size total) (at_drop_all (facts_size at ns) fs i le))
