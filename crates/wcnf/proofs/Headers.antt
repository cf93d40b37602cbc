-- The header of the older form: where it stands, and what its tokens are.
use Rattle.std.proofs.Common.{◌≡◌, ℕ, ◌+◌, ◌^◌, ◌<◌, ◌≤◌, true, false, List, [], ◌∷◌, Option, Some}
use Rattle.std.proofs.Common.{None, inl, inr, refl, sym, ◌∙◌, ap, subst, arith}
use Rattle.std.specs.Prelude.{◌==◌, nat_lt, Ok}
use Rattle.std.specs.Fmt.{decimal}
use lib.Chars.{codes}
use Rattle.std.proofs.lemmas.Bool.{eqb-true, eqb-false, ne_eqb, ltb-false, le-ltb, cases_Bool}
use Rattle.std.proofs.lemmas.Slice.Eq.{bytes_eq-Decides}
use Rattle.text.specs.Text.{number_of}
use Rattle.wcnf.specs.Wcnf.{Header}
use Rattle.wcnf.specs.Heads.{number_within, is_wcnf, header_ended, header_of, is_p}
use Rattle.text.proofs.Laws.{number_of-decimal, decimal-number_of}
use Rattle.wcnf.proofs.Lines.{same_Ok, err-ok, bind_ok, unless_err, IsForm}

-- the tokens of a header after the first
abbrev pub header_rest : Header → List (List ℕ)
header_rest h = codes "wcnf" ∷ decimal h.variables ∷ decimal h.clauses ∷ decimal h.top ∷ []

-- a header within its limits
pub record IsHeader (h : Header) : Type 0 where
  pub most_variables : h.variables ≤ 2 ^ 22
  pub most_clauses : h.clauses ≤ 2 ^ 22 + 2 ^ 18
  pub some_top : 0 < h.top
  pub most_top : h.top ≤ 2 ^ 62

pub header_form : (h : Header) → IsHeader h → IsForm (Some h)
header_form h i = (i.most_variables, i.some_top, i.most_top)

number_within-decimal : (most n : ℕ) (ts : List (List ℕ)) → n ≤ most → most < 2 ^ 64
    → number_within most (decimal n ∷ ts) ≡ Ok (n, ts)
number_within-decimal most n ts l m =
    let v : nat_lt most n ≡ false = le-ltb most n l in
    rw (number_of-decimal n (omega arith), v) refl

pub header_of-tokens : (h : Header) → IsHeader h → header_of (header_rest h) ≡ Ok h
header_of-tokens h i =
    let v = number_within-decimal 4194304 h.variables (decimal h.clauses ∷ decimal h.top ∷ [])
    (omega (arith, i.most_variables)) (omega arith) in
    let c =
    number_within-decimal 4456448 h.clauses (decimal h.top ∷ []) (omega (arith, i.most_clauses))
    (omega arith) in
    let t = number_within-decimal 4611686018427387904 h.top [] (omega (arith, i.most_top))
    (omega arith) in
    let some : (h.top == 0) ≡ false = ne_eqb h.top 0 (omega (arith, i.some_top)) in
    rw (v, c, t, some) refl

within_at : (most : ℕ) (t : List ℕ) (ts : List (List ℕ)) (r : ℕ × List (List ℕ)) → most < 2 ^ 64
    → (o : Option ℕ) → number_of t ≡ o → number_within most (t ∷ ts) ≡ Ok r
    → (t ∷ ts ≡ decimal r.0 ∷ r.1) × (r.0 ≤ most)
within_at most t ts r m None q e = absurd (err-ok _ r (rw q at e))
within_at most t ts r m (Some n) q e =
    let u = unless_err (nat_lt most n) _ _ r (rw q at e) in
    let small : n ≤ most = ltb-false most n u.0 in
    subst (λ (x : ℕ × List (List ℕ)). (t ∷ ts ≡ decimal x.0 ∷ x.1) × (x.0 ≤ most))
    (same_Ok (n, ts) r u.1) (ap (λ x. x ∷ ts) (decimal-number_of t n q (omega arith)), small)

decimal-number_within : (most : ℕ) (ts : List (List ℕ)) (r : ℕ × List (List ℕ)) → most < 2 ^ 64
    → number_within most ts ≡ Ok r → (ts ≡ decimal r.0 ∷ r.1) × (r.0 ≤ most)
decimal-number_within most [] r m e = absurd (err-ok _ r e)
decimal-number_within most (t ∷ ts) r m e = within_at most t ts r m (number_of t) refl e

wcnf-is : (t : List ℕ) → is_wcnf t ≡ true → t ≡ codes "wcnf"
wcnf-is t e = (bytes_eq-Decides t (codes "wcnf")).0 e

ended_from : (h : Header) (v c w : ℕ) (ts : List (List ℕ)) → header_ended v c w ts ≡ Ok h
    → (ts ≡ []) × (h ≡ record { variables = v; clauses = c; top = w }) × (0 < w)
ended_from h v c w [] e =
    let u = unless_err (w == 0) _ _ h e in
    let some : w ≡ 0 → ⊥ = eqb-false w 0 u.0 in
    (refl, sym (same_Ok _ h u.1), omega arith)
ended_from h v c w (t ∷ ts) e = absurd (err-ok _ h e)

header_at : (t : List ℕ) (ts : List (List ℕ)) (h : Header) → is_wcnf t ≡ true
    → header_of (t ∷ ts) ≡ Ok h → (t ∷ ts ≡ header_rest h) × IsHeader h
header_at t ts h q e =
    let v = bind_ok (number_within 4194304 ts) _ h (rw q at e) in
    let c = bind_ok (number_within 4456448 v.0.1) _ h v.2 in
    let w = bind_ok (number_within 4611686018427387904 c.0.1) _ h c.2 in
    let d = ended_from h v.0.0 c.0.0 w.0.0 w.0.1 w.2 in
    let m = decimal-number_within 4194304 ts v.0 (omega arith) v.1 in
    let n = decimal-number_within 4456448 v.0.1 c.0 (omega arith) c.1 in
    let o = decimal-number_within 4611686018427387904 c.0.1 w.0 (omega arith) w.1 in
    let k : Header = record { variables = v.0.0; clauses = c.0.0; top = w.0.0 } in
    let top : c.0.1 ≡ decimal w.0.0 ∷ [] = o.0 ∙ ap (λ x. decimal w.0.0 ∷ x) d.0 in
    let clauses : v.0.1 ≡ decimal c.0.0 ∷ decimal w.0.0 ∷ [] =
    n.0 ∙ ap (λ x. decimal c.0.0 ∷ x) top in
    let all : ts ≡ decimal v.0.0 ∷ decimal c.0.0 ∷ decimal w.0.0 ∷ [] =
    m.0 ∙ ap (λ x. decimal v.0.0 ∷ x) clauses in
    subst (λ x. (t ∷ ts ≡ header_rest x) × IsHeader x) (sym d.1) (
      ap (λ x. x ∷ ts) (wcnf-is t q)
          ∙ ap (λ x. codes "wcnf" ∷ x) all,
      record {
        most_variables = m.1;
        most_clauses = n.1;
        some_top = d.2;
        most_top = o.1;
      },
    )

pub tokens-header_of : (ts : List (List ℕ)) (h : Header) → header_of ts ≡ Ok h
    → (ts ≡ header_rest h) × IsHeader h
tokens-header_of [] h e = absurd (err-ok _ h e)
tokens-header_of (t ∷ ts) h e =
    elim (cases_Bool (is_wcnf t)) [
      | inl q ↦ header_at t ts h q e
      | inr q ↦ absurd (err-ok _ h (rw q at e))
    ]

false-true : false ≡ true → ⊥
false-true e = cc

pub p-is : (t : List ℕ) → is_p t ≡ true → t ≡ codes "p"
p-is [] e = absurd (false-true e)
p-is (b ∷ []) e = ap (λ x. x ∷ []) (eqb-true b 112 e)
p-is (b ∷ c ∷ bs) e = absurd (false-true e)
