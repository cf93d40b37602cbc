-- The rows of a text put into a draft, one after another: each clause with its repeats dropped.
use Rattle.std.proofs.Common.{◌≡◌, ℕ, ◌+◌, Bool, true, false, not, ◌||◌, ◌&&◌, List, [], ◌∷◌, ◌++◌}
use Rattle.std.proofs.Common.{None, Some, inl, inr, refl, sym, ◌∙◌, ap, arith, length, append_assoc}
use Rattle.std.proofs.Common.{max}
use Rattle.std.specs.Prelude.{if◌then◌else◌, filter, is_none}
use Rattle.std.specs.List.{flat_map}
use Rattle.std.proofs.lemmas.Bool.{cases_Bool, or_right}
use Rattle.std.proofs.lemmas.List.{append-nil, length_push}
use Rattle.cnf.specs.Literal.{Literal, literal_eq}
use Rattle.cnf.specs.Clause.{contains_literal, without_literal, distinct, greatest_variable}
use Rattle.cnf.specs.Problem.{Problem, SoftClause}
use Rattle.wcnf.specs.Wcnf.{Header, Row, Ignored, Hard, Soft, hard_of, soft_of, row_literals}
use Rattle.wcnf.specs.Wcnf.{problem_of, headed_problem}
use Rattle.wcnf.specs.Heads.{SoFar}
use Rattle.wcnf.specs.Drafts.{Gathered, emptied, with_literal, gather, Drafted, nothing_drafted}
use Rattle.wcnf.specs.Drafts.{is_nil, is_empty, totals_of, variables_of, problem_drafted}
use Rattle.wcnf.specs.Drafts.{with_clause, with_header}
use Rattle.cnf.proofs.Laws.{literal_eq-true, literal_eq-refl, literal_eq_ne, literal_ne}
use Rattle.cnf.proofs.Laws.{contains-push}

-- the literals of a clause, one after another, where n stand in the text before it
abbrev pub gathered_with : Gathered → ℕ → List Literal → Gathered × ℕ
gathered_with g n [] = (g, n)
gathered_with g n (l ∷ c) = gathered_with (gather g l) (n + 1) c

-- the literals that are not in d
abbrev without_all : List Literal → List Literal → List Literal
without_all d xs = filter (λ k. not (contains_literal k d)) xs

abbrev with_all : List Literal → List Literal → List Literal
with_all d [] = d
with_all d (l ∷ c) = with_all (with_literal d l) c

kept : (b : Bool) (k : Literal) (xs ys : List Literal) → xs ≡ ys
    → (if not b then k ∷ xs else xs) ≡ (if not b then k ∷ ys else ys)
kept true k xs ys e = e
kept false k xs ys e = ap (λ zs. k ∷ zs) e

without_known : (l : Literal) (d xs : List Literal) → contains_literal l d ≡ true
    → without_all d (without_literal l xs) ≡ without_all d xs
without_known l d [] h = refl
without_known l d (k ∷ xs) h =
    elim (cases_Bool (literal_eq l k)) [
      | inl e ↦
          let in_d : contains_literal k d ≡ true = rw (sym (literal_eq-true l k e)) h in
          rw (e, in_d) (without_known l d xs h)
      | inr e ↦ rw e (kept (contains_literal k d) k _ _ (without_known l d xs h))
    ]

without_more : (l : Literal) (d xs : List Literal)
    → without_all (d ++ l ∷ []) xs ≡ without_all d (without_literal l xs)
without_more l d [] = refl
without_more l d (k ∷ xs) =
    elim (cases_Bool (literal_eq l k)) [
      | inl e ↦
          let same : literal_eq k l ≡ true = rw (sym (literal_eq-true l k e)) (literal_eq-refl l) in
          let there : contains_literal k (d ++ l ∷ []) ≡ true =
          contains-push k d l ∙ or_right (contains_literal k d) (literal_eq k l) same in
          rw (e, there) (without_more l d xs)
      | inr e ↦
          let other : literal_eq k l ≡ false = literal_eq_ne k l (λ s. literal_ne l k e (sym s)) in
          let there : contains_literal k (d ++ l ∷ []) ≡ contains_literal k d =
          contains-push k d l ∙ or_none (contains_literal k d) (literal_eq k l) other in
          rw (e, there) (kept (contains_literal k d) k _ _ (without_more l d xs))
    ]
  where
    or_none : (x y : Bool) → y ≡ false → (x || y) ≡ x
    or_none true y e = refl
    or_none false y e = e

with_all-distinct : (d c : List Literal) → with_all d c ≡ d ++ without_all d (distinct c)
with_all-distinct d [] = sym (append-nil d)
with_all-distinct d (l ∷ c) =
    elim (cases_Bool (contains_literal l d)) [
      | inl e ↦ rw e (with_all-distinct d c
          ∙ ap (λ xs. d ++ xs) (sym (without_known l d (distinct c) e)))
      | inr e ↦ rw e (with_all-distinct (d ++ l ∷ []) c ∙ append_assoc d (l ∷ []) _
          ∙ ap (λ xs. d ++ l ∷ xs) (without_more l d (distinct c)))
    ]

without_none : (xs : List Literal) → without_all [] xs ≡ xs
without_none [] = refl
without_none (k ∷ xs) = ap (λ zs. k ∷ zs) (without_none xs)

gathered_with-is : (g : Gathered) (n : ℕ) (c : List Literal)
    → gathered_with g n c ≡ (
      record {
        variables = max g.variables (greatest_variable c);
        literals = with_all g.literals c;
      },
      n + length c,
    )
gathered_with-is g n [] =
    let e : g.variables ≡ max g.variables 0 = omega arith in
    let m : n ≡ n + 0 = omega arith in
    λ i. (record { variables = e i; literals = g.literals }, m i)
gathered_with-is g n (l ∷ c) =
    let e : max (max g.variables l.variable) (greatest_variable c) ≡ max g.variables
    (max l.variable (greatest_variable c)) = omega arith in
    let m : n + 1 + length c ≡ n + length (l ∷ c) = omega arith in
    gathered_with-is (gather g l) (n + 1) c
    ∙ (λ i. (record { variables = e i; literals = with_all (with_literal g.literals l) c }, m i))

-- a clause as it is kept, where n literals stand before it
abbrev pub clause_kept : ℕ → ℕ → List Literal → Gathered × ℕ
clause_kept v n c =
    (record { variables = max v (greatest_variable c); literals = distinct c }, n + length c)

pub gathered-kept : (v n : ℕ) (c : List Literal)
    → gathered_with (emptied v) n c ≡ clause_kept v n c
gathered-kept v n c =
    let e = with_all-distinct [] c ∙ without_none (distinct c) in
    gathered_with-is (emptied v) n c
    ∙ (λ i. (record { variables = max v (greatest_variable c); literals = e i }, n + length c))

-- one more row
abbrev pub drafted_with : Drafted → Row → Drafted
drafted_with d Ignored = d
drafted_with d (Hard c) = with_clause d None (clause_kept d.variables d.literals c)
drafted_with d (Soft w c) = with_clause d (Some w) (clause_kept d.variables d.literals c)

pub header-drafted_with : (d : Drafted) (r : Row) → (drafted_with d r).header ≡ d.header
header-drafted_with d Ignored = refl
header-drafted_with d (Hard c) = refl
header-drafted_with d (Soft w c) = refl

-- how much was read with one more row
abbrev pub with_row : SoFar → Row → SoFar
with_row t Ignored = t
with_row t (Hard c) =
    record { hard = t.hard + 1; soft = t.soft; literals = t.literals + length c; weight = t.weight }
with_row t (Soft w c) =
    record {
      hard = t.hard;
      soft = t.soft + 1;
      literals = t.literals + length c;
      weight = t.weight + w;
    }

pub totals-drafted_with : (d : Drafted) (r : Row)
    → totals_of (drafted_with d r) ≡ with_row (totals_of d) r
totals-drafted_with d Ignored = refl
totals-drafted_with d (Hard c) = let e = length_push d.hard (distinct c) in
    λ i. record {
      hard = e i;
      soft = length d.soft;
      literals = d.literals + length c;
      weight = d.weight;
    }
totals-drafted_with d (Soft w c) =
    let s : SoftClause = record { weight = w; clause = distinct c } in
    let e = length_push d.soft s in
    λ i. record {
      hard = length d.hard;
      soft = e i;
      literals = d.literals + length c;
      weight = d.weight + w;
    }

abbrev pub with_rows : Drafted → List Row → Drafted
with_rows d [] = d
with_rows d (r ∷ rs) = with_rows (drafted_with d r) rs

-- something was read
nil_push : {A : Type 0} (xs : List A) (x : A) → is_nil (xs ++ x ∷ []) ≡ false
nil_push [] x = refl
nil_push (y ∷ ys) x = refl

pub begun_hard : (d : Drafted) (c : List Literal) → is_empty (drafted_with d (Hard c)) ≡ false
begun_hard d c = rw (nil_push d.hard (distinct c)) (neither (is_none d.header) (is_nil d.soft))
  where
    neither : (a b : Bool) → (a && false && b) ≡ false
    neither true b = refl
    neither false b = refl

pub begun_soft : (d : Drafted) (w : ℕ) (c : List Literal)
    → is_empty (drafted_with d (Soft w c)) ≡ false
begun_soft d w c =
    let s : SoftClause = record { weight = w; clause = distinct c } in
    rw (nil_push d.soft s) (neither (is_none d.header && is_nil d.hard))
  where
    neither : (a : Bool) → (a && false) ≡ false
    neither true = refl
    neither false = refl

pub greatest-append : (c d : List Literal)
    → greatest_variable (c ++ d) ≡ max (greatest_variable c) (greatest_variable d)
greatest-append [] d = omega arith
greatest-append (l ∷ c) d = omega (arith, greatest-append c d)

-- the rows put after what was there
abbrev joined : Drafted → List Row → Problem
joined d rs =
    record {
      variables = variables_of d.header
          (max d.variables (greatest_variable (flat_map row_literals rs)));
      hard = d.hard ++ hard_of rs;
      soft = d.soft ++ soft_of rs;
    }

with_rows-are : (d : Drafted) (rs : List Row) → problem_drafted (with_rows d rs) ≡ joined d rs
with_rows-are d [] =
    let v : d.variables ≡ max d.variables 0 = omega arith in
    let h = sym (append-nil d.hard) in
    let s = sym (append-nil d.soft) in
    λ i. record { variables = variables_of d.header (v i); hard = h i; soft = s i }
with_rows-are d (Ignored ∷ rs) = with_rows-are d rs
with_rows-are d (Hard c ∷ rs) =
    let v : max (max d.variables (greatest_variable c))
    (greatest_variable (flat_map row_literals rs)) ≡ max d.variables
    (greatest_variable (c ++ flat_map row_literals rs)) =
    omega (arith, greatest-append c (flat_map row_literals rs)) in
    let h = append_assoc d.hard (distinct c ∷ []) (hard_of rs) in
    with_rows-are (drafted_with d (Hard c)) rs
    ∙ (λ i. record {
      variables = variables_of d.header (v i);
      hard = h i;
      soft = d.soft ++ soft_of rs;
    })
with_rows-are d (Soft w c ∷ rs) =
    let v : max (max d.variables (greatest_variable c))
    (greatest_variable (flat_map row_literals rs)) ≡ max d.variables
    (greatest_variable (c ++ flat_map row_literals rs)) =
    omega (arith, greatest-append c (flat_map row_literals rs)) in
    let k : SoftClause = record { weight = w; clause = distinct c } in
    let s = append_assoc d.soft (k ∷ []) (soft_of rs) in
    with_rows-are (drafted_with d (Soft w c)) rs
    ∙ (λ i. record {
      variables = variables_of d.header (v i);
      hard = d.hard ++ hard_of rs;
      soft = s i;
    })

pub header-with_rows : (d : Drafted) (rs : List Row) → (with_rows d rs).header ≡ d.header
header-with_rows d [] = refl
header-with_rows d (r ∷ rs) = header-with_rows (drafted_with d r) rs ∙ header-drafted_with d r

pub drafted-joined : (rs : List Row)
    → problem_drafted (with_rows nothing_drafted rs) ≡ problem_of rs
drafted-joined rs =
    let v : max 0 (greatest_variable (flat_map row_literals rs)) ≡ greatest_variable
    (flat_map row_literals rs) = omega arith in
    with_rows-are nothing_drafted rs
    ∙ (λ i. record { variables = v i; hard = hard_of rs; soft = soft_of rs })

abbrev pub begun : ℕ → Header → Drafted
begun n h = with_header n nothing_drafted h

pub older_problem : (n : ℕ) (h : Header) (rs : List Row)
    → problem_drafted (with_rows (begun n h) rs) ≡ headed_problem h rs
older_problem n h rs = with_rows-are (begun n h) rs
