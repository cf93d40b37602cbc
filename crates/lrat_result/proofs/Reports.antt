-- What a result is read as, against what it says.
use Rattle.std.proofs.Common.{◌≡◌, ℕ, ◌+◌, ◌<◌, ◌^◌, Bool, true, false, not, ◌&&◌, List, [], ◌∷◌}
use Rattle.std.proofs.Common.{◌++◌, map, Option, Some, None, inl, inr, refl, sym, ◌∙◌, ap, subst}
use Rattle.std.proofs.Common.{arith}
use Rattle.std.proofs.Math.Bool.{cond}
use Rattle.std.proofs.Math.Dec.{ltb}
use Rattle.std.specs.Prelude.{◌==◌, filter, Ok, Err}
use Rattle.std.specs.List.{AllByRecursion}
use Rattle.std.specs.Str.Lines.{lines}
use Rattle.std.specs.Fmt.{decimal}
use Rattle.std.proofs.lemmas.Bool.{and_parts, cases_Bool, eqb-true, ltb-true}
use Rattle.std.proofs.lemmas.Bool.{lt-ltb, cond-true, cond-false, false≢true}
use Rattle.std.proofs.lemmas.Option.{cond_some}
use Rattle.std.proofs.lemmas.List.Elements.{All-from_recursion, recursion_from_All}
use lib.Chars.{codes}
use Rattle.text.specs.Text.{is_blank, begins_with_token, put_byte, tokens_of, token_lines}
use Rattle.text.specs.Text.{number_of}
use Rattle.text.proofs.Laws.{decimal-number_of, number_of-decimal}
use Rattle.lrat_result.specs.Result.{Said, OptimumFound, Unsatisfiable, Satisfiable, Unknown}
use Rattle.lrat_result.specs.Result.{fall_to, cost_tokens, digit_of, bits_tokens, result_tokens}
use Rattle.lrat_result.specs.Result.{FallsTo, is_ignored, result_lines, Says, Report, same_bytes}
use Rattle.lrat_result.specs.Result.{claim_of, cost_of, bits_on, bits_of, ended, with_bits}
use Rattle.lrat_result.specs.Result.{result_on, report_of}
use Rattle.lrat_result.specs.declared.report.Claim.{Claim}
use Rattle.lrat_result.specs.declared.report.Claim.TheVariants.{Optimum, Unsat, Sat, Limit}

abbrev Line : Type 0
Line = List (List ℕ)

abbrev told : List Line → List Line
told ls = filter (λ l. not (is_ignored l)) ls

told_skip : (l : Line) (ls : List Line) → is_ignored l ≡ true → told (l ∷ ls) ≡ told ls
told_skip l ls e = rw e refl

told_take : (l : Line) (ls : List Line) → is_ignored l ≡ false → told (l ∷ ls) ≡ l ∷ told ls
told_take l ls e = rw e refl

-- tokens have bytes
abbrev HasByte : List ℕ → Type 0
HasByte [] = ⊥
HasByte (b ∷ bs) = Unit {0}

abbrev AreTokens : Line → Type 0
AreTokens l = AllByRecursion HasByte l

put_tokens : (b : ℕ) (s : Bool) (ts : Line) → AreTokens ts → AreTokens (put_byte b s ts)
put_tokens b false ts h = (tt, h)
put_tokens b true [] h = (tt, tt)
put_tokens b true (t ∷ ts) h = (tt, h.1)

are_tokens : (bs : List ℕ) → AreTokens (tokens_of bs)
are_tokens [] = tt
are_tokens (b ∷ bs) =
    elim (is_blank b) as (λ v. AreTokens
    (cond v (tokens_of bs) (put_byte b (begins_with_token bs) (tokens_of bs)))) [
      | true ↦ are_tokens bs
      | false ↦ put_tokens b (begins_with_token bs) (tokens_of bs) (are_tokens bs)
    ]

all_tokens : (ls : List (List ℕ)) → AllByRecursion AreTokens (map tokens_of ls)
all_tokens [] = tt
all_tokens (l ∷ ls) = (are_tokens l, all_tokens ls)

same_bytes-true : (xs ys : List ℕ) → same_bytes xs ys ≡ true → xs ≡ ys
same_bytes-true [] [] e = refl
same_bytes-true [] (y ∷ ys) e = absurd (false≢true e)
same_bytes-true (x ∷ xs) [] e = absurd (false≢true e)
same_bytes-true (x ∷ xs) (y ∷ ys) e =
    let h = and_parts (x == y) (same_bytes xs ys) e in
    ap (λ z. z ∷ xs) (eqb-true x y h.0) ∙ ap (λ zs. y ∷ zs) (same_bytes-true xs ys h.1)

-- costs
small_cost : Option ℕ → Option ℕ
small_cost None = None
small_cost (Some c) = cond (ltb c 4611686018427387904) (Some c) None

cost_is : (o t : List ℕ) → same_bytes o (codes "o") ≡ true
    → cost_of (o ∷ t ∷ []) ≡ small_cost (number_of t)
unfolding small_cost
cost_is o t e =
    elim (number_of t) as (λ m. number_of t ≡ m → cost_of (o ∷ t ∷ []) ≡ small_cost (number_of t)) [
      | None ↦ λ u. rw (e, u) refl
      | Some n ↦ λ u. rw (e, u) refl
    ] refl

small_means : (m : Option ℕ) (c : ℕ) → small_cost m ≡ Some c → (m ≡ Some c) × (c < 2 ^ 62)
unfolding small_cost
small_means None c e = absurd (cc)
small_means (Some n) c e =
    let h = cond_some (ltb n 4611686018427387904) n c e in
    (ap Some h.1, subst (λ x. x < 2 ^ 62) h.1 (ltb-true _ _ h.0))

cost_means : (l : Line) (c : ℕ) → cost_of l ≡ Some c → (l ≡ cost_tokens c) × (c < 2 ^ 62)
cost_means [] c e = absurd (cc)
cost_means (o ∷ []) c e = absurd (cc)
cost_means (o ∷ t ∷ u ∷ us) c e = absurd (cc)
cost_means (o ∷ t ∷ []) c e =
    elim (cases_Bool (same_bytes o (codes "o"))) [
      | inl y ↦
          let h = small_means (number_of t) c (sym (cost_is o t y) ∙ e) in (
            ap (λ x. x ∷ t ∷ []) (same_bytes-true o (codes "o") y)
                ∙ ap (λ x. codes "o" ∷ x ∷ []) (decimal-number_of t c h.0 (omega (arith, h.1))),
            h.1,
          )
      | inr f ↦ let z : cost_of (o ∷ t ∷ []) ≡ None = rw f refl in absurd (cc)
    ]

cost_from : (c : ℕ) → c < 2 ^ 62 → cost_of (cost_tokens c) ≡ Some c
unfolding small_cost
cost_from c h = cost_is (codes "o") (decimal c) refl
    ∙ ap small_cost (number_of-decimal c (omega (arith, h)))
    ∙ cond-true (ltb c 4611686018427387904) _ _ (lt-ltb _ _ h)

-- states
abbrev claim_tokens : Claim → Line
claim_tokens Optimum = codes "s" ∷ codes "OPTIMUM" ∷ codes "FOUND" ∷ []
claim_tokens Unsat = codes "s" ∷ codes "UNSATISFIABLE" ∷ []
claim_tokens Sat = codes "s" ∷ codes "SATISFIABLE" ∷ []
claim_tokens Limit = codes "s" ∷ codes "UNKNOWN" ∷ []

two_claim : (s t : List ℕ) (x : Claim) → claim_of (s ∷ t ∷ []) ≡ Some x
    → (s ∷ t ∷ []) ≡ claim_tokens x
two_claim s t x e =
    elim (cases_Bool (same_bytes s (codes "s"))) [
      | inr f ↦ let z : claim_of (s ∷ t ∷ []) ≡ None = rw f refl in absurd (cc)
      | inl y ↦ let es = same_bytes-true s (codes "s") y in
          elim (cases_Bool (same_bytes t (codes "UNSATISFIABLE"))) [
            | inl a ↦ let z : claim_of (s ∷ t ∷ []) ≡ Some Unsat = rw (y, a) refl in
                let k : x ≡ Unsat = cc in
                ap (λ u. s ∷ u ∷ []) (same_bytes-true t (codes "UNSATISFIABLE") a)
                ∙ ap (λ u. u ∷ codes "UNSATISFIABLE" ∷ []) es ∙ ap claim_tokens (sym k)
            | inr a ↦ elim (cases_Bool (same_bytes t (codes "SATISFIABLE"))) [
              | inl b ↦ let z : claim_of (s ∷ t ∷ []) ≡ Some Sat = rw (y, a, b) refl in
                  let k : x ≡ Sat = cc in
                  ap (λ u. s ∷ u ∷ []) (same_bytes-true t (codes "SATISFIABLE") b)
                  ∙ ap (λ u. u ∷ codes "SATISFIABLE" ∷ []) es ∙ ap claim_tokens (sym k)
              | inr b ↦ elim (cases_Bool (same_bytes t (codes "UNKNOWN"))) [
                | inl d ↦ let z : claim_of (s ∷ t ∷ []) ≡ Some Limit = rw (y, a, b, d) refl in
                    let k : x ≡ Limit = cc in
                    ap (λ u. s ∷ u ∷ []) (same_bytes-true t (codes "UNKNOWN") d)
                    ∙ ap (λ u. u ∷ codes "UNKNOWN" ∷ []) es ∙ ap claim_tokens (sym k)
                | inr d ↦ let z : claim_of (s ∷ t ∷ []) ≡ None = rw (y, a, b, d) refl in
                    absurd (cc)
              ]
            ]
          ]
    ]

three_claim : (s t u : List ℕ) (x : Claim) → claim_of (s ∷ t ∷ u ∷ []) ≡ Some x
    → (s ∷ t ∷ u ∷ []) ≡ claim_tokens x
three_claim s t u x e =
    let h =
    cond_some (same_bytes s (codes "s") && same_bytes t (codes "OPTIMUM") && same_bytes u
    (codes "FOUND")) Optimum x e in
    let p =
    and_parts (same_bytes s (codes "s") && same_bytes t (codes "OPTIMUM"))
    (same_bytes u (codes "FOUND")) h.0 in
    let q = and_parts (same_bytes s (codes "s")) (same_bytes t (codes "OPTIMUM")) p.0 in
    ap (λ y. y ∷ t ∷ u ∷ []) (same_bytes-true s (codes "s") q.0)
    ∙ ap (λ y. codes "s" ∷ y ∷ u ∷ []) (same_bytes-true t (codes "OPTIMUM") q.1)
    ∙ ap (λ y. codes "s" ∷ codes "OPTIMUM" ∷ y ∷ []) (same_bytes-true u (codes "FOUND") p.1)
    ∙ ap claim_tokens h.1

claim_means : (l : Line) (x : Claim) → claim_of l ≡ Some x → l ≡ claim_tokens x
claim_means [] x e = absurd (cc)
claim_means (s ∷ []) x e = absurd (cc)
claim_means (s ∷ t ∷ []) x e = two_claim s t x e
claim_means (s ∷ t ∷ u ∷ []) x e = three_claim s t u x e
claim_means (s ∷ t ∷ u ∷ w ∷ ws) x e = absurd (cc)

claim_from : (x : Claim) → claim_of (claim_tokens x) ≡ Some x
claim_from Optimum = refl
claim_from Unsat = refl
claim_from Sat = refl
claim_from Limit = refl

claim_no_cost : (x : Claim) → cost_of (claim_tokens x) ≡ None
claim_no_cost Optimum = refl
claim_no_cost Unsat = refl
claim_no_cost Sat = refl
claim_no_cost Limit = refl

-- bits
bit_zero : (b : ℕ) (bs : List ℕ) (xs : List Bool) → (b == 48) ≡ true → bits_on bs ≡ Some xs
    → bits_on (b ∷ bs) ≡ Some (false ∷ xs)
bit_zero b bs xs e u = rw (e, u) refl

bit_one : (b : ℕ) (bs : List ℕ) (xs : List Bool) → (b == 48) ≡ false → (b == 49) ≡ true
    → bits_on bs ≡ Some xs → bits_on (b ∷ bs) ≡ Some (true ∷ xs)
bit_one b bs xs e f u = rw (e, f, u) refl

bits_on_step : (b : ℕ) (bs : List ℕ) (m : Option (List Bool)) → bits_on bs ≡ m
    → ((ys : List Bool) → bits_on bs ≡ Some ys → bs ≡ map digit_of ys) → (xs : List Bool)
    → bits_on (b ∷ bs) ≡ Some xs → (b ∷ bs) ≡ map digit_of xs
bits_on_step b bs m u ih xs e =
    elim (cases_Bool (b == 48)) [
      | inl y ↦ elim m as (λ m. bits_on bs ≡ m → (b ∷ bs) ≡ map digit_of xs) [
        | None ↦ λ u. let z : bits_on (b ∷ bs) ≡ None = rw (y, u) refl in absurd (cc)
        | Some ys ↦ λ u. let z = bit_zero b bs ys y u in let k : (false ∷ ys) ≡ xs = cc in
            ap (λ x. x ∷ bs) (eqb-true b 48 y) ∙ ap (λ x. 48 ∷ x) (ih ys u) ∙ ap (map digit_of) k
      ] u
      | inr f ↦ elim (cases_Bool (b == 49)) [
        | inl y ↦ elim m as (λ m. bits_on bs ≡ m → (b ∷ bs) ≡ map digit_of xs) [
          | None ↦ λ u. let z : bits_on (b ∷ bs) ≡ None = rw (f, y, u) refl in absurd (cc)
          | Some ys ↦ λ u. let z = bit_one b bs ys f y u in let k : (true ∷ ys) ≡ xs = cc in
              ap (λ x. x ∷ bs) (eqb-true b 49 y) ∙ ap (λ x. 49 ∷ x) (ih ys u) ∙ ap (map digit_of) k
        ] u
        | inr g ↦ let z : bits_on (b ∷ bs) ≡ None = rw (f, g) refl in absurd (cc)
      ]
    ]

bits_on_means : (t : List ℕ) (xs : List Bool) → bits_on t ≡ Some xs → t ≡ map digit_of xs
bits_on_means [] xs e = let k : [] ≡ xs = cc in ap (map digit_of) k
bits_on_means (b ∷ bs) xs e = bits_on_step b bs (bits_on bs) refl (bits_on_means bs) xs e

bits_on_from : (xs : List Bool) → bits_on (map digit_of xs) ≡ Some xs
bits_on_from [] = refl
bits_on_from (true ∷ xs) = bit_one 49 (map digit_of xs) xs refl refl (bits_on_from xs)
bits_on_from (false ∷ xs) = bit_zero 48 (map digit_of xs) xs refl (bits_on_from xs)

bits_line : (b : ℕ) (bs : List ℕ) (xs : List Bool) → (b ∷ bs) ≡ map digit_of xs
    → (codes "v" ∷ (b ∷ bs) ∷ []) ≡ bits_tokens xs
bits_line b bs [] e = absurd (cc)
bits_line b bs (x ∷ xs) e = ap (λ y. codes "v" ∷ y ∷ []) e

bits_means : (l : Line) → AreTokens l → (xs : List Bool) → bits_of l ≡ Some xs → l ≡ bits_tokens xs
bits_means [] h xs e = absurd (cc)
bits_means (v ∷ []) h xs e =
    let k = cond_some (same_bytes v (codes "v")) [] xs e in
    ap (λ x. x ∷ []) (same_bytes-true v (codes "v") k.0) ∙ ap bits_tokens k.1
bits_means (v ∷ [] ∷ []) h xs e = absurd h.1.0
bits_means (v ∷ (b ∷ bs) ∷ []) h xs e =
    elim (cases_Bool (same_bytes v (codes "v"))) [
      | inl y ↦
          let z : bits_of (v ∷ (b ∷ bs) ∷ []) ≡ bits_on (b ∷ bs) =
          cond-true (same_bytes v (codes "v")) (bits_on (b ∷ bs)) None y in
          ap (λ x. x ∷ (b ∷ bs) ∷ []) (same_bytes-true v (codes "v") y)
          ∙ bits_line b bs xs (bits_on_means (b ∷ bs) xs (sym z ∙ e))
      | inr f ↦ let z : bits_of (v ∷ (b ∷ bs) ∷ []) ≡ None =
          cond-false (same_bytes v (codes "v")) (bits_on (b ∷ bs)) None f in absurd (cc)
    ]
bits_means (v ∷ t ∷ u ∷ us) h xs e = absurd (cc)

bits_from : (xs : List Bool) → bits_of (bits_tokens xs) ≡ Some xs
bits_from [] = refl
bits_from (x ∷ xs) = bits_on_from (x ∷ xs)

-- after the last line that says something
ended_means : (ls : List Line) (n : ℕ) (report r : Report) → ended n report ls ≡ Ok r
    → (told ls ≡ []) × (report ≡ r)
ended_means [] n report r e = (refl, cc)
ended_means (l ∷ ls) n report r e =
    elim (cases_Bool (is_ignored l)) [
      | inl y ↦
          let z : ended n report (l ∷ ls) ≡ ended (n + 1) report ls = rw y refl in
          let h = ended_means ls (n + 1) report r (sym z ∙ e) in
          (told_skip l ls y ∙ h.0, h.1)
      | inr f ↦ let z : ended n report (l ∷ ls) ≡ Err n = rw f refl in absurd (cc)
    ]

ended_from : (ls : List Line) (n : ℕ) (report : Report) → told ls ≡ []
    → ended n report ls ≡ Ok report
ended_from [] n report e = refl
ended_from (l ∷ ls) n report e =
    elim (cases_Bool (is_ignored l)) [
      | inl y ↦ rw y (ended_from ls (n + 1) report (sym (told_skip l ls y) ∙ e))
      | inr f ↦ let z = told_take l ls f in absurd (cc)
    ]

bits_here : (l : Line) (ls : List Line) (n : ℕ) (report : List Bool → ℕ → Report) (xs : List Bool)
    → is_ignored l ≡ false → bits_of l ≡ Some xs
    → with_bits n report (l ∷ ls) ≡ ended (n + 1) (report xs n) ls
bits_here l ls n report xs f u = rw (f, u) refl

with_bits_means : (ls : List Line) → AllByRecursion AreTokens ls
    → (n : ℕ) (report : List Bool → ℕ → Report) (r : Report) → with_bits n report ls ≡ Ok r
    → (xs : List Bool) × (m : ℕ) × (told ls ≡ bits_tokens xs ∷ []) × (report xs m ≡ r)
with_bits_means [] h n report r e = absurd (cc)
with_bits_means (l ∷ ls) h n report r e =
    elim (cases_Bool (is_ignored l)) [
      | inl y ↦
          let z : with_bits n report (l ∷ ls) ≡ with_bits (n + 1) report ls = rw y refl in
          let k = with_bits_means ls h.1 (n + 1) report r (sym z ∙ e) in
          (k.0, k.1, told_skip l ls y ∙ k.2, k.3)
      | inr f ↦ elim (bits_of l) as (λ o. bits_of l ≡ o → (xs : List Bool) × (m : ℕ)
          × (told (l ∷ ls) ≡ bits_tokens xs ∷ []) × (report xs m ≡ r)) [
            | None ↦ λ u. let z : with_bits n report (l ∷ ls) ≡ Err n = rw (f, u) refl in
                absurd (cc)
            | Some xs ↦ λ u.
                let k =
                ended_means ls (n + 1) (report xs n) r
                (sym (bits_here l ls n report xs f u) ∙ e) in (
                  xs,
                  n,
                  told_take l ls f ∙ ap (λ x. x ∷ told ls) (bits_means l h.0 xs u)
                      ∙ ap (λ x. bits_tokens xs ∷ x) k.0,
                  k.1,
                )
          ] refl
    ]

with_bits_from : (ls : List Line) (n : ℕ) (report : List Bool → ℕ → Report) (xs : List Bool)
    → told ls ≡ bits_tokens xs ∷ [] → (m : ℕ) × (with_bits n report ls ≡ Ok (report xs m))
with_bits_from [] n report xs e = absurd (cc)
with_bits_from (l ∷ ls) n report xs e =
    elim (cases_Bool (is_ignored l)) [
      | inl y ↦
          let z : with_bits n report (l ∷ ls) ≡ with_bits (n + 1) report ls = rw y refl in
          let k = with_bits_from ls (n + 1) report xs (sym (told_skip l ls y) ∙ e) in
          (k.0, z ∙ k.1)
      | inr f ↦
          let z = sym (told_take l ls f) ∙ e in
          let first : l ≡ bits_tokens xs = cc in
          let rest : told ls ≡ [] = cc in (
            n,
            bits_here l ls n report xs f (ap bits_of first ∙ bits_from xs)
                ∙ ended_from ls (n + 1) (report xs n) rest,
          )
    ]

-- what is left of a result, after a cost or none
abbrev Ending : Option ℕ → List Line → Said → Type 0
Ending None fl Unsatisfiable = fl ≡ claim_tokens Unsat ∷ []
Ending None fl Unknown = fl ≡ claim_tokens Limit ∷ []
Ending None fl (OptimumFound c bits) = ⊥
Ending None fl (Satisfiable c bits) = ⊥
Ending (Some d) fl (OptimumFound c bits) =
    (d ≡ c) × (fl ≡ claim_tokens Optimum ∷ bits_tokens bits ∷ [])
Ending (Some d) fl (Satisfiable c bits) = (d ≡ c) × (fl ≡ claim_tokens Sat ∷ bits_tokens bits ∷ [])
Ending (Some d) fl Unsatisfiable = ⊥
Ending (Some d) fl Unknown = ⊥

abbrev Falls : Option ℕ → ℕ → Type 0
Falls None c = Unit {0}
Falls (Some d) c = c < d

abbrev Tail : Option ℕ → List ℕ → List Line → Said → Type 0
Tail last [] fl said = Ending last fl said
Tail last (d ∷ ds) fl said = (more : List Line) × Falls last d × (d < 2 ^ 62)
    × (fl ≡ cost_tokens d ∷ more) × Tail (Some d) ds more said

abbrev cost_in : Option (ℕ × ℕ) → Option ℕ
cost_in None = None
cost_in (Some x) = Some x.0

module _ (l : Line) (ls : List Line) (n : ℕ) (plain : is_ignored l ≡ false) where
  cost_first : (c : ℕ) → cost_of l ≡ Some c
      → result_on None n (l ∷ ls) ≡ result_on (Some (c, n)) (n + 1) ls
  cost_first c u = rw (plain, u) refl

  cost_next : (c d at : ℕ) → cost_of l ≡ Some c → ltb c d ≡ true
      → result_on (Some (d, at)) n (l ∷ ls) ≡ result_on (Some (c, n)) (n + 1) ls
  cost_next c d at u t = rw (plain, u, t) refl

  cost_rises : (c d at : ℕ) → cost_of l ≡ Some c → ltb c d ≡ false
      → result_on (Some (d, at)) n (l ∷ ls) ≡ Err n
  cost_rises c d at u t = rw (plain, u, t) refl

  no_status : (last : Option (ℕ × ℕ)) → cost_of l ≡ None → claim_of l ≡ None
      → result_on last n (l ∷ ls) ≡ Err n
  no_status last u v = rw (plain, u, v) refl

  is_unsat : cost_of l ≡ None → claim_of l ≡ Some Unsat
      → result_on None n (l ∷ ls) ≡ ended (n + 1) (record {
        said = Unsatisfiable;
        cost_line = 0;
        status_line = n;
        bits_line = 0;
      }) ls
  is_unsat u v = rw (plain, u, v) refl

  is_limit : cost_of l ≡ None → claim_of l ≡ Some Limit
      → result_on None n (l ∷ ls) ≡ ended (n + 1)
      (record { said = Unknown; cost_line = 0; status_line = n; bits_line = 0 }) ls
  is_limit u v = rw (plain, u, v) refl

  is_optimum : (c at : ℕ) → cost_of l ≡ None → claim_of l ≡ Some Optimum
      → result_on (Some (c, at)) n (l ∷ ls) ≡ with_bits (n + 1)
      (λ bits m. record {
        said = OptimumFound c bits;
        cost_line = at;
        status_line = n;
        bits_line = m;
      }) ls
  is_optimum c at u v = rw (plain, u, v) refl

  is_sat : (c at : ℕ) → cost_of l ≡ None → claim_of l ≡ Some Sat
      → result_on (Some (c, at)) n (l ∷ ls) ≡ with_bits (n + 1)
      (λ bits m. record {
        said = Satisfiable c bits;
        cost_line = at;
        status_line = n;
        bits_line = m;
      })
      ls
  is_sat c at u v = rw (plain, u, v) refl

  bare_optimum : cost_of l ≡ None → claim_of l ≡ Some Optimum → result_on None n (l ∷ ls) ≡ Err n
  bare_optimum u v = rw (plain, u, v) refl

  bare_sat : cost_of l ≡ None → claim_of l ≡ Some Sat → result_on None n (l ∷ ls) ≡ Err n
  bare_sat u v = rw (plain, u, v) refl

  costly_unsat : (x : ℕ × ℕ) → cost_of l ≡ None → claim_of l ≡ Some Unsat
      → result_on (Some x) n (l ∷ ls) ≡ Err n
  costly_unsat x u v = rw (plain, u, v) refl

  costly_limit : (x : ℕ × ℕ) → cost_of l ≡ None → claim_of l ≡ Some Limit
      → result_on (Some x) n (l ∷ ls) ≡ Err n
  costly_limit x u v = rw (plain, u, v) refl

abbrev Told : Option (ℕ × ℕ) → List Line → Report → Type 0
Told last fl r = (costs : List ℕ) × Tail (cost_in last) costs fl r.said

step_means : (l : Line) (ls : List Line) → AllByRecursion AreTokens ls
    → ((last : Option (ℕ × ℕ)) (n : ℕ) (r : Report) → result_on last n ls ≡ Ok r
    → Told last (told ls) r) → (last : Option (ℕ × ℕ)) (n : ℕ) (r : Report) → is_ignored l ≡ false
    → (m : Option ℕ) → cost_of l ≡ m → (x : Option Claim) → claim_of l ≡ x
    → result_on last n (l ∷ ls) ≡ Ok r → Told last (l ∷ told ls) r
step_means l ls h ih None n r f (Some c) u x v e =
    let k = cost_means l c u in
    let t = ih (Some (c, n)) (n + 1) r (sym (cost_first l ls n f c u) ∙ e) in
    (c ∷ t.0, (told ls, tt, k.1, ap (λ y. y ∷ told ls) k.0, t.1))
step_means l ls h ih (Some (d, at)) n r f (Some c) u x v e =
    elim (cases_Bool (ltb c d)) [
      | inl y ↦
          let k = cost_means l c u in
          let t = ih (Some (c, n)) (n + 1) r (sym (cost_next l ls n f c d at u y) ∙ e) in
          (c ∷ t.0, (told ls, ltb-true c d y, k.1, ap (λ y. y ∷ told ls) k.0, t.1))
      | inr g ↦ let z = cost_rises l ls n f c d at u g in absurd (cc)
    ]
step_means l ls h ih last n r f None u None v e = let z = no_status l ls n f last u v in absurd (cc)
step_means l ls h ih None n r f None u (Some Unsat) v e =
    let k = ended_means ls (n + 1) _ r (sym (is_unsat l ls n f u v) ∙ e) in (
      [],
      subst (λ q. Ending None (l ∷ told ls) q.said) k.1
          (ap (λ y. y ∷ told ls) (claim_means l Unsat v) ∙ ap (λ y. claim_tokens Unsat ∷ y) k.0),
    )
step_means l ls h ih None n r f None u (Some Limit) v e =
    let k = ended_means ls (n + 1) _ r (sym (is_limit l ls n f u v) ∙ e) in (
      [],
      subst (λ q. Ending None (l ∷ told ls) q.said) k.1
          (ap (λ y. y ∷ told ls) (claim_means l Limit v) ∙ ap (λ y. claim_tokens Limit ∷ y) k.0),
    )
step_means l ls h ih None n r f None u (Some Optimum) v e = let z = bare_optimum l ls n f u v in
    absurd (cc)
step_means l ls h ih None n r f None u (Some Sat) v e = let z = bare_sat l ls n f u v in absurd (cc)
step_means l ls h ih (Some (c, at)) n r f None u (Some Optimum) v e =
    let k = with_bits_means ls h (n + 1) _ r (sym (is_optimum l ls n f c at u v) ∙ e) in (
      [],
      subst (λ q. Ending (Some c) (l ∷ told ls) q.said) k.3 (
        refl,
        ap (λ y. y ∷ told ls) (claim_means l Optimum v)
            ∙ ap (λ y. claim_tokens Optimum ∷ y) k.2,
      ),
    )
step_means l ls h ih (Some (c, at)) n r f None u (Some Sat) v e =
    let k = with_bits_means ls h (n + 1) _ r (sym (is_sat l ls n f c at u v) ∙ e) in (
      [],
      subst (λ q. Ending (Some c) (l ∷ told ls) q.said) k.3 (
        refl,
        ap (λ y. y ∷ told ls) (claim_means l Sat v) ∙ ap (λ y. claim_tokens Sat ∷ y) k.2,
      ),
    )
step_means l ls h ih (Some x) n r f None u (Some Unsat) v e = let z = costly_unsat l ls n f x u v in
    absurd (cc)
step_means l ls h ih (Some x) n r f None u (Some Limit) v e = let z = costly_limit l ls n f x u v in
    absurd (cc)

result_means : (ls : List Line) → AllByRecursion AreTokens ls
    → (last : Option (ℕ × ℕ)) (n : ℕ) (r : Report) → result_on last n ls ≡ Ok r
    → Told last (told ls) r
result_means [] h last n r e = absurd (cc)
result_means (l ∷ ls) h last n r e =
    elim (cases_Bool (is_ignored l)) [
      | inl y ↦
          let z : result_on last n (l ∷ ls) ≡ result_on last (n + 1) ls = rw y refl in
          subst (λ fl. Told last fl r) (sym (told_skip l ls y))
          (result_means ls h.1 last (n + 1) r (sym z ∙ e))
      | inr f ↦ subst (λ fl. Told last fl r) (sym (told_take l ls f))
          (step_means l ls h.1 (result_means ls h.1) last n r f (cost_of l) refl
          (claim_of l) refl e)
    ]

-- and back
ending_nothing : (last : Option ℕ) (said : Said) → Ending last [] said → ⊥
ending_nothing None Unsatisfiable e = cc
ending_nothing None Unknown e = cc
ending_nothing None (OptimumFound c bits) e = e
ending_nothing None (Satisfiable c bits) e = e
ending_nothing (Some d) (OptimumFound c bits) e = let z = e.1 in cc
ending_nothing (Some d) (Satisfiable c bits) e = let z = e.1 in cc
ending_nothing (Some d) Unsatisfiable e = e
ending_nothing (Some d) Unknown e = e

tail_nothing : (last : Option ℕ) (costs : List ℕ) (said : Said) → Tail last costs [] said → ⊥
tail_nothing last [] said t = ending_nothing last said t
tail_nothing last (d ∷ ds) said t = let z = t.3 in cc

abbrev ReadsAs : Option (ℕ × ℕ) → ℕ → List Line → Said → Type 0
ReadsAs last n ls said = (r : Report) × (result_on last n ls ≡ Ok r) × (r.said ≡ said)

cost_from_line : (l : Line) (ls : List Line) (n : ℕ) → is_ignored l ≡ false
    → (last : Option (ℕ × ℕ)) (d : ℕ) → Falls (cost_in last) d → cost_of l ≡ Some d
    → result_on last n (l ∷ ls) ≡ result_on (Some (d, n)) (n + 1) ls
cost_from_line l ls n f None d h u = cost_first l ls n f d u
cost_from_line l ls n f (Some (b, at)) d h u = cost_next l ls n f d b at u (lt-ltb d b h)

ending_from : (l : Line) (ls : List Line) (n : ℕ) → is_ignored l ≡ false
    → (last : Option (ℕ × ℕ)) (said : Said) → Ending (cost_in last) (l ∷ told ls) said
    → ReadsAs last n (l ∷ ls) said
ending_from l ls n f None Unsatisfiable e =
    let first : l ≡ claim_tokens Unsat = cc in
    let rest : told ls ≡ [] = cc in (
      _,
      is_unsat l ls n f (ap cost_of first ∙ claim_no_cost Unsat) (ap claim_of first
          ∙ claim_from Unsat) ∙ ended_from ls (n + 1) _ rest,
      refl,
    )
ending_from l ls n f None Unknown e =
    let first : l ≡ claim_tokens Limit = cc in
    let rest : told ls ≡ [] = cc in (
      _,
      is_limit l ls n f (ap cost_of first ∙ claim_no_cost Limit) (ap claim_of first
          ∙ claim_from Limit) ∙ ended_from ls (n + 1) _ rest,
      refl,
    )
ending_from l ls n f None (OptimumFound c bits) e = absurd e
ending_from l ls n f None (Satisfiable c bits) e = absurd e
ending_from l ls n f (Some (d, at)) (OptimumFound c bits) e =
    let z = e.1 in
    let first : l ≡ claim_tokens Optimum = cc in
    let rest : told ls ≡ bits_tokens bits ∷ [] = cc in
    let k =
    with_bits_from ls (n + 1) (λ bits m. record {
      said = OptimumFound d bits;
      cost_line = at;
      status_line = n;
      bits_line = m;
    }) bits rest in (
      _,
      is_optimum l ls n f d at (ap cost_of first ∙ claim_no_cost Optimum) (ap claim_of first
          ∙ claim_from Optimum) ∙ k.1,
      ap (λ x. OptimumFound x bits) e.0,
    )
ending_from l ls n f (Some (d, at)) (Satisfiable c bits) e =
    let z = e.1 in
    let first : l ≡ claim_tokens Sat = cc in
    let rest : told ls ≡ bits_tokens bits ∷ [] = cc in
    let k =
    with_bits_from ls (n + 1) (λ bits m. record {
      said = Satisfiable d bits;
      cost_line = at;
      status_line = n;
      bits_line = m;
    }) bits rest in (
      _,
      is_sat l ls n f d at (ap cost_of first ∙ claim_no_cost Sat) (ap claim_of first
          ∙ claim_from Sat) ∙ k.1,
      ap (λ x. Satisfiable x bits) e.0,
    )
ending_from l ls n f (Some x) Unsatisfiable e = absurd e
ending_from l ls n f (Some x) Unknown e = absurd e

take_from : (l : Line) (ls : List Line)
    → ((last : Option (ℕ × ℕ)) (n : ℕ) (costs : List ℕ) (said : Said)
    → Tail (cost_in last) costs (told ls) said → ReadsAs last n ls said) → (n : ℕ)
    → is_ignored l ≡ false → (last : Option (ℕ × ℕ)) (costs : List ℕ) (said : Said)
    → Tail (cost_in last) costs (l ∷ told ls) said → ReadsAs last n (l ∷ ls) said
take_from l ls ih n f last [] said t = ending_from l ls n f last said t
take_from l ls ih n f last (d ∷ ds) said t =
    let z = t.3 in
    let first : l ≡ cost_tokens d = cc in
    let rest : told ls ≡ t.0 = cc in
    let k =
    ih (Some (d, n)) (n + 1) ds said (subst (λ fl. Tail (Some d) ds fl said) (sym rest) t.4) in
    (k.0, cost_from_line l ls n f last d t.1 (ap cost_of first ∙ cost_from d t.2) ∙ k.1, k.2)

result_from : (ls : List Line) (last : Option (ℕ × ℕ)) (n : ℕ) (costs : List ℕ) (said : Said)
    → Tail (cost_in last) costs (told ls) said → ReadsAs last n ls said
result_from [] last n costs said t = absurd (tail_nothing (cost_in last) costs said t)
result_from (l ∷ ls) last n costs said t =
    elim (cases_Bool (is_ignored l)) [
      | inl y ↦
          let z : result_on last n (l ∷ ls) ≡ result_on last (n + 1) ls = rw y refl in
          let k =
          result_from ls last (n + 1) costs said (subst (λ fl. Tail (cost_in last) costs fl said)
          (told_skip l ls y) t) in
          (k.0, z ∙ k.1, k.2)
      | inr f ↦ take_from l ls (result_from ls) n f last costs said
          (subst (λ fl. Tail (cost_in last) costs fl said) (told_take l ls f) t)
    ]

-- costs before the last one, against costs in turn
abbrev Heads : Option ℕ → List ℕ → ℕ → Type 0
Heads last [] c = Falls last c
Heads last (d ∷ ds) c = Falls last d

abbrev AreSmall : List ℕ → Type 0
AreSmall ds = AllByRecursion (λ d. d < 2 ^ 62) ds

heads_from : (d : ℕ) (ds : List ℕ) (c : ℕ) → fall_to (d ∷ ds) c → Heads (Some d) ds c × fall_to ds c
heads_from d [] c h = (h, tt)
heads_from d (e ∷ ds) c h = (h.0, h.1)

heads_to : (d : ℕ) (ds : List ℕ) (c : ℕ) → Heads (Some d) ds c → fall_to ds c → fall_to (d ∷ ds) c
heads_to d [] c h k = h
heads_to d (e ∷ ds) c h k = (h, k)

tail_of_before : (before : List ℕ) (c : ℕ) (last : Option ℕ) (said : Said) (fl : List Line)
    → Heads last before c → fall_to before c → AreSmall (before ++ c ∷ []) → Ending (Some c) fl said
    → Tail last (before ++ c ∷ []) (map cost_tokens before ++ (cost_tokens c ∷ fl)) said
tail_of_before [] c last said fl h f s e = (fl, h, s.0, refl, e)
tail_of_before (d ∷ ds) c last said fl h f s e =
    let k = heads_from d ds c f in (
      map cost_tokens ds ++ (cost_tokens c ∷ fl),
      h,
      s.0,
      refl,
      tail_of_before ds c (Some d) said fl k.0 k.1 s.1 e,
    )

heads_none : (before : List ℕ) (c : ℕ) → Heads None before c
heads_none [] c = tt
heads_none (d ∷ ds) c = tt

tail_from_says : (said : Said) (before : List ℕ) (fl : List Line) → FallsTo before said
    → fl ≡ result_tokens before said → (costs : List ℕ) × Tail None costs fl said
tail_from_says (OptimumFound c bits) before fl h e = (
  before ++ c ∷ [],
  subst (λ x. Tail None (before ++ c ∷ []) x (OptimumFound c bits)) (sym e)
      (tail_of_before before c None (OptimumFound c bits)
      (claim_tokens Optimum ∷ bits_tokens bits ∷ []) (heads_none before c) h.0
      (recursion_from_All (λ d. d < 2 ^ 62) (before ++ c ∷ []) h.1) (refl, refl)),
)
tail_from_says (Satisfiable c bits) before fl h e = (
  before ++ c ∷ [],
  subst (λ x. Tail None (before ++ c ∷ []) x (Satisfiable c bits)) (sym e)
      (tail_of_before before c None (Satisfiable c bits) (claim_tokens Sat ∷ bits_tokens bits ∷ [])
      (heads_none before c) h.0 (recursion_from_All (λ d. d < 2 ^ 62) (before ++ c ∷ []) h.1)
      (refl, refl)),
)
tail_from_says Unsatisfiable before fl h e = ([], e)
tail_from_says Unknown before fl h e = ([], e)

-- the costs in turn end in that of the result
abbrev Costly : Said → ℕ → List Line → Type 0
Costly said c end = (d : ℕ) (fl : List Line) → Ending (Some d) fl said → (d ≡ c) × (fl ≡ end)

before_of_tail : (said : Said) (c : ℕ) (end : List Line) → Costly said c end
    → (ds : List ℕ) (d : ℕ) (last : Option ℕ) (fl : List Line) → Falls last d → d < 2 ^ 62
    → Tail (Some d) ds fl said → (before : List ℕ) × Heads last before c × fall_to before c
    × AreSmall (before ++ c ∷ [])
    × ((cost_tokens d ∷ fl) ≡ map cost_tokens before ++ (cost_tokens c ∷ end))
before_of_tail said c end q [] d last fl h s t =
    let k = q d fl t in (
      [],
      subst (Falls last) k.0 h,
      tt,
      (subst (λ x. x < 2 ^ 62) k.0 s, tt),
      ap (λ x. cost_tokens x ∷ fl) k.0 ∙ ap (λ x. cost_tokens c ∷ x) k.1,
    )
before_of_tail said c end q (e ∷ ds) d last fl h s t =
    let k = before_of_tail said c end q ds e (Some d) t.0 t.1 t.2 t.4 in
    (d ∷ k.0, h, heads_to d k.0 c k.1 k.2, (s, k.3), ap (λ x. cost_tokens d ∷ x) (t.3 ∙ k.4))

never_costly : (said : Said) → ((d : ℕ) (fl : List Line) → Ending (Some d) fl said → ⊥)
    → (ds : List ℕ) (d : ℕ) (fl : List Line) → Tail (Some d) ds fl said → ⊥
never_costly said q [] d fl t = q d fl t
never_costly said q (e ∷ ds) d fl t = never_costly said q ds e t.0 t.4

says_from_tail : (said : Said) (costs : List ℕ) (fl : List Line) → Tail None costs fl said
    → (before : List ℕ) × FallsTo before said × (fl ≡ result_tokens before said)
says_from_tail (OptimumFound c bits) [] fl t = absurd t
says_from_tail (OptimumFound c bits) (d ∷ ds) fl t =
    let k = before_of_tail (OptimumFound c bits) c (claim_tokens Optimum ∷ bits_tokens bits ∷ [])
    (λ d fl h. h) ds d None t.0 tt t.2 t.4 in
    (k.0, (k.2, All-from_recursion (λ d. d < 2 ^ 62) (k.0 ++ c ∷ []) k.3), t.3 ∙ k.4)
says_from_tail (Satisfiable c bits) [] fl t = absurd t
says_from_tail (Satisfiable c bits) (d ∷ ds) fl t =
    let k = before_of_tail (Satisfiable c bits) c (claim_tokens Sat ∷ bits_tokens bits ∷ [])
    (λ d fl h. h) ds d None t.0 tt t.2 t.4 in
    (k.0, (k.2, All-from_recursion (λ d. d < 2 ^ 62) (k.0 ++ c ∷ []) k.3), t.3 ∙ k.4)
says_from_tail Unsatisfiable [] fl t = ([], refl, t)
says_from_tail Unsatisfiable (d ∷ ds) fl t =
    absurd (never_costly Unsatisfiable (λ d fl h. h) ds d t.0 t.4)
says_from_tail Unknown [] fl t = ([], refl, t)
says_from_tail Unknown (d ∷ ds) fl t = absurd (never_costly Unknown (λ d fl h. h) ds d t.0 t.4)

-- exactly when
pub says_from_report : (text : List ℕ) (r : Report) → report_of text ≡ Ok r → Says text r.said
says_from_report text r e =
    let k = result_means (token_lines text) (all_tokens (lines text)) None 1 r e in
    says_from_tail r.said k.0 (result_lines text) k.1

pub report_from_says : (text : List ℕ) (said : Said) → Says text said
    → (r : Report) × (report_of text ≡ Ok r) × (r.said ≡ said)
report_from_says text said s =
    let k = tail_from_says said s.0 (result_lines text) s.1 s.2 in
    result_from (token_lines text) None 1 k.0 said k.1
