-- A line that is right over some clauses is right where there are more.
use Rattle.std.proofs.Common.{◌≡◌, ℕ, ◌+◌, Bool, true, false, not, List, [], ◌∷◌, ◌++◌, length}
use Rattle.std.proofs.Common.{Option}
use Rattle.std.proofs.Common.{Some, None, Result, Ok, Err, refl, sym, ◌∙◌, ap, inl, inr}
use Rattle.std.specs.Prelude.{nat_le, ◌&&◌, if◌then◌else◌}
use Rattle.std.specs.Option.{option_map}
use Rattle.std.proofs.lemmas.Bool.{and_parts, cases_Bool, cond-false, cond-true, false≢true}
use Rattle.cnf.specs.Literal.{Literal}
use Rattle.cnf.specs.Refute.{Clauses}
use Rattle.forms.specs.declared.types.NamedFact.{NamedFact}
use Rattle.forms.specs.declared.faults.LineFault.{LineFault}
use Rattle.forms.specs.declared.faults.LineFault.TheVariants.{Name, Limit}
use Rattle.forms.specs.declared.faults.TheConstants.{MOST_TERMS}
use Rattle.forms.specs.Forms.{Forms, Numbered, Group, are_excluded, are_known, at_number, begun}
use Rattle.forms.specs.Forms.{clause_size, excludes, fact_size, facts_size, form_line, group_line}
use Rattle.forms.specs.Forms.{less_fact, less_facts, numbered_size, pairs_of}

-- each clause that is there is there for the other, too
abbrev pub Among : Clauses → Clauses → Type 0
Among a b = (i : ℕ) (c : List Literal) → a i ≡ Some c → b i ≡ Some c

-- the clause of a fact
sized_there : (x : Option (List Literal)) (m : ℕ) → option_map clause_size x ≡ Some m
    → (c : List Literal) × (x ≡ Some c)
sized_there None m e = absurd (cc)
sized_there (Some c) m e = (c, refl)

fact_more : (a b : Clauses) (ns : List Numbered) (f : NamedFact) (m : ℕ) → Among a b
    → fact_size a ns f ≡ Some m → fact_size b ns f ≡ Some m
fact_more a b ns f m among h =
    let by_number = option_map numbered_size (at_number ns f.number) in
    elim (cases_Bool f.is_numbered) [
      | inl t ↦ cond-true f.is_numbered by_number (option_map clause_size (b f.number)) t
          ∙ sym (cond-true f.is_numbered by_number (option_map clause_size (a f.number)) t) ∙ h
      | inr n ↦
          let here = sym (cond-false f.is_numbered by_number (option_map clause_size (a f.number))
          n)
          ∙ h in
          let c = sized_there (a f.number) m here in
          cond-false f.is_numbered by_number (option_map clause_size (b f.number)) n
          ∙ ap (option_map clause_size) (among f.number c.0 c.1 ∙ sym c.1) ∙ here
    ]

less_one : (a b : Clauses) (ns : List Numbered) (s : Forms) (f : NamedFact) (m : ℕ) → Among a b
    → fact_size a ns f ≡ Some m → less_fact b s f ≡ less_fact a s f
less_one a b ns s f m among h =
    elim (cases_Bool f.is_numbered) [
      | inl t ↦ rw t refl
      | inr n ↦
          let by_number = option_map numbered_size (at_number ns f.number) in
          let here = sym (cond-false f.is_numbered by_number (option_map clause_size (a f.number))
          n)
          ∙ h in
          let c = sized_there (a f.number) m here in
          let mine = c.1 in
          let other = among f.number c.0 c.1 in rw (n, mine, other) refl
    ]

-- the sizes of facts that are there
record Parts (at : Clauses) (ns : List Numbered) (f : NamedFact) (fs : List NamedFact) : Type 0
  where
    m : ℕ
    k : ℕ
    one : fact_size at ns f ≡ Some m
    rest : facts_size at ns fs ≡ Some k

parts_of : (at : Clauses) (ns : List Numbered) (f : NamedFact) (fs : List NamedFact) (n : ℕ)
    (x y : Option ℕ) → fact_size at ns f ≡ x → facts_size at ns fs ≡ y
    → facts_size at ns (f ∷ fs) ≡ Some n → Parts at ns f fs
parts_of at ns f fs n None y p q h = let no = rw p at h in absurd (cc)
parts_of at ns f fs n (Some m) None p q h = let no = rw (p, q) at h in absurd (cc)
parts_of at ns f fs n (Some m) (Some k) p q h = record { m = m; k = k; one = p; rest = q }

sum_of : (at : Clauses) (ns : List Numbered) (f : NamedFact) (fs : List NamedFact) (m k : ℕ)
    → fact_size at ns f ≡ Some m → facts_size at ns fs ≡ Some k
    → facts_size at ns (f ∷ fs) ≡ Some (m + k)
sum_of at ns f fs m k p q = rw (p, q) refl

size_more : (a b : Clauses) (ns : List Numbered) (fs : List NamedFact) (n : ℕ) → Among a b
    → facts_size a ns fs ≡ Some n → facts_size b ns fs ≡ Some n
size_more a b ns [] n among h = h
size_more a b ns (f ∷ fs) n among h =
    let p = parts_of a ns f fs n (fact_size a ns f) (facts_size a ns fs) refl refl h in
    sum_of b ns f fs p.m p.k (fact_more a b ns f p.m among p.one)
    (size_more a b ns fs p.k among p.rest)
    ∙ sym (sum_of a ns f fs p.m p.k p.one p.rest) ∙ h

less_more : (a b : Clauses) (ns : List Numbered) (s : Forms) (fs : List NamedFact) (n : ℕ)
    → Among a b → facts_size a ns fs ≡ Some n → less_facts b s fs ≡ less_facts a s fs
less_more a b ns s [] n among h = refl
less_more a b ns s (f ∷ fs) n among h =
    let p = parts_of a ns f fs n (fact_size a ns f) (facts_size a ns fs) refl refl h in
    ap (λ t. less_facts b t fs) (less_one a b ns s f p.m among p.one)
    ∙ less_more a b ns (less_fact a s f) fs p.k among p.rest

abbrev sized : Forms → ℕ → Option ℕ → Result Forms LineFault
sized after terms None = Err Name
sized after terms (Some n) = if nat_le (terms + n) MOST_TERMS then Ok after else Err Limit

abbrev formed : Bool → Forms → ℕ → Option ℕ → Result Forms LineFault
formed without after terms size = if without then Err Name else sized after terms size

abbrev lacks : Option ℕ → Bool → Bool
lacks None has_form = true && not has_form
lacks (Some d) has_form = false && not has_form

form_is : (at : Clauses) (scale : Option ℕ) (fs : List NamedFact) (s : Forms)
    → form_line at scale fs s ≡ formed (lacks scale s.has_form)
    (less_facts at (begun scale s) fs) s.terms (facts_size at s.numbered fs)
form_is at None fs s = refl
form_is at (Some d) fs s = refl

none_formed : (without : Bool) (after : Forms) (terms : ℕ) (t : Forms)
    → formed without after terms None ≡ Ok t → ⊥
none_formed true after terms t e = absurd (cc)
none_formed false after terms t e = absurd (cc)

pub form_more : (a b : Clauses) (scale : Option ℕ) (fs : List NamedFact) (s t : Forms) → Among a b
    → form_line a scale fs s ≡ Ok t → form_line b scale fs s ≡ Ok t
form_more a b scale fs s t among h = by_size (facts_size a s.numbered fs) refl
  where
    by_size : (x : Option ℕ) → facts_size a s.numbered fs ≡ x → form_line b scale fs s ≡ Ok t
    by_size None e =
        let without = lacks scale s.has_form in
        absurd (none_formed without (less_facts a (begun scale s) fs) s.terms t
        (ap (formed without (less_facts a (begun scale s) fs) s.terms) (sym e)
        ∙ sym (form_is a scale fs s) ∙ h))
    by_size (Some n) e =
        let without = lacks scale s.has_form in
        form_is b scale fs s
        ∙ ap (formed without (less_facts b (begun scale s) fs) s.terms)
        (size_more a b s.numbered fs n among e ∙ sym e)
        ∙ ap (λ x. formed without x s.terms (facts_size a s.numbered fs))
        (less_more a b s.numbered (begun scale s) fs n among e)
        ∙ sym (form_is a scale fs s) ∙ h

-- groups
one_more : (a b : Clauses) (p : Literal × Literal) (ps : List (Literal × Literal)) (i : ℕ)
    (is : List ℕ) (x : Option (List Literal)) → a i ≡ x → Among a b
    → (are_excluded a ps is ≡ true → are_excluded b ps is ≡ true)
    → are_excluded a (p ∷ ps) (i ∷ is) ≡ true → are_excluded b (p ∷ ps) (i ∷ is) ≡ true
one_more a b p ps i is None e among more h = let no = rw e at h in absurd (false≢true no)
one_more a b p ps i is (Some c) e among more h =
    let both : (excludes p c && are_excluded a ps is) ≡ true = rw e at h in
    let w = and_parts (excludes p c) (are_excluded a ps is) both in
    let there = among i c e in
    let one = w.0 in
    let rest = more w.1 in rw (there, one, rest) refl

excluded_more : (a b : Clauses) (ps : List (Literal × Literal)) (is : List ℕ) → Among a b
    → are_excluded a ps is ≡ true → are_excluded b ps is ≡ true
excluded_more a b [] [] among h = refl
excluded_more a b [] (i ∷ is) among h = absurd (false≢true h)
excluded_more a b (p ∷ ps) [] among h = absurd (false≢true h)
excluded_more a b (p ∷ ps) (i ∷ is) among h =
    one_more a b p ps i is (a i) refl among (excluded_more a b ps is among) h

abbrev grouped : Bool → Bool → List Literal → Forms → Bool → Result Forms LineFault
grouped known some inputs s apart =
    if known && some && apart
    then Ok (record s { numbered = s.numbered ++ Group inputs ∷ [] }) else Err Name

none_grouped : (known some : Bool) (inputs : List Literal) (s t : Forms)
    → grouped known some inputs s false ≡ Ok t → ⊥
none_grouped true true inputs s t e = absurd (cc)
none_grouped true false inputs s t e = absurd (cc)
none_grouped false true inputs s t e = absurd (cc)
none_grouped false false inputs s t e = absurd (cc)

pub group_more : (a b : Clauses) (inputs : List Literal) (ids : List ℕ) (s t : Forms) → Among a b
    → group_line a inputs ids s ≡ Ok t → group_line b inputs ids s ≡ Ok t
group_more a b inputs ids s t among h =
    let by = grouped (are_known s inputs) (nat_le 2 (length inputs)) inputs s in
    elim (cases_Bool (are_excluded a (pairs_of inputs) ids)) [
      | inl y ↦ ap by (excluded_more a b (pairs_of inputs) ids among y ∙ sym y) ∙ h
      | inr n ↦ absurd (none_grouped (are_known s inputs) (nat_le 2 (length inputs)) inputs s t
          (ap by (sym n) ∙ h))
    ]
