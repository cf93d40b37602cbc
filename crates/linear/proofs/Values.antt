-- The values of linear functions and forms under an assignment.
use Rattle.std.proofs.Common.{◌≡◌, ℕ, zero, suc, ℤ, pos, negsuc, ◌+ℤ◌, ◌-ℤ◌, ◌*ℤ◌, ◌≤ℤ◌, ◌+◌, ◌-◌}
use Rattle.std.proofs.Common.{◌<◌, ◌≤◌, List, [], ◌∷◌, ◌++◌, Option, Some, None, Bool, true, false}
use Rattle.std.proofs.Common.{not, if◌then◌else◌, length, get_or, set, replicate, sum_by, arith}
use Rattle.std.proofs.Common.{refl, sym, ap, ◌∙◌, subst}
use Rattle.std.specs.List.{AllByRecursion}
use Rattle.std.proofs.lemmas.Int.{ints}
use Rattle.std.proofs.lemmas.List.{length-set, length-append, length-replicate}
use Rattle.std.proofs.lemmas.List.Sums.{sum_by-cons}
use Rattle.std.proofs.Math.IntN.{*ℤ-zero}
use Rattle.cnf.specs.Literal.{Literal, Assignment, literal_value}
use Rattle.linear.specs.Linear.{Linear, coefficient, plus_at, plus_constant, plus_literal}
use Rattle.linear.specs.Linear.{plus_literals, true_count, value, value_from, least_term}
use Rattle.linear.specs.Costs.{AgreesWith, CostForm, HasOneWidth, cost_from, form_value, least_sum}
use Rattle.linear.specs.Costs.{least_where, restarted, widened, widened_linear, width_of}
use Rattle.linear.specs.Costs.{zero_below}
use Rattle.linear.proofs.Sums.{distributes}

-- what a coefficient gives is at least the least of it
term_below : (c : ℤ) (o : Option Bool) (b : Bool) → ((x : Bool) → o ≡ Some x → b ≡ x)
    → least_term c o ≤ℤ (if b then c else pos 0)
term_below (pos n) None true h = omega (arith, ints)
term_below (negsuc n) None true h = omega (arith, ints)
term_below (pos n) None false h = omega (arith, ints)
term_below (negsuc n) None false h = omega (arith, ints)
term_below c (Some true) b h = let e : b ≡ true = h true refl in rw e (omega (arith, ints))
term_below c (Some false) b h = let e : b ≡ false = h false refl in rw e (omega (arith, ints))

term_scaled : (s : ℕ) (c r : ℤ) (b : Bool)
    → (if b then (pos s *ℤ c) +ℤ r else pos 0)
    ≡ (pos s *ℤ (if b then c else pos 0)) +ℤ (if b then r else pos 0)
term_scaled s c r true = refl
term_scaled s c r false = let e = *ℤ-zero (pos s) in omega (arith, ints, e)

sum_below : (s n : ℕ) (cs rs : List ℤ) (fs : List (Option Bool)) (t : Assignment)
    → length cs ≡ length fs → length rs ≡ length fs
    → ((v : ℕ) (b : Bool) → get_or fs v None ≡ Some b → t (n + v) ≡ b)
    → least_sum s cs rs fs ≤ℤ ((pos s *ℤ value_from n cs t) +ℤ value_from n rs t)
sum_below s n [] [] fs t d e h = let z = *ℤ-zero (pos s) in omega (arith, ints, z)
sum_below s n [] (r ∷ rs) fs t d e h = absurd (omega (arith, d, e))
sum_below s n (c ∷ cs) [] fs t d e h = absurd (omega (arith, d, e))
sum_below s n (c ∷ cs) (r ∷ rs) [] t d e h = absurd (omega (arith, d))
sum_below s n (c ∷ cs) (r ∷ rs) (f ∷ fs) t d e h =
    let z : n + 0 ≡ n = omega arith in
    let first = term_below ((pos s *ℤ c) +ℤ r) f (t n) (λ x i. sym (ap t z) ∙ h 0 x i) in
    let more = sum_below s (n + 1) cs rs fs t (omega (arith, d)) (omega (arith, e)) (λ v b i.
    let k : (n + 1) + v ≡ n + suc v = omega arith in
    ap t k ∙ h (suc v) b i) in
    let p = term_scaled s c r (t n) in
    let q = distributes s (if t n then c else pos 0) (value_from (n + 1) cs t) in
    omega (arith, ints, first, more, p, q)

-- the least value is at most the value wherever the variables have these values
pub least_below : (f : CostForm) (fixed : List (Option Bool)) (t : Assignment)
    → length (f.cost).coefficients ≡ length fixed → length (f.added).coefficients ≡ length fixed
    → AgreesWith fixed t → least_where f fixed ≤ℤ form_value f t
least_below f fixed t d e h =
    let sum = sum_below f.scale 0 (f.cost).coefficients (f.added).coefficients fixed t d e (λ v b i.
    let k : 0 + v ≡ v = omega arith in
    ap t k ∙ h v b i) in
    let q = distributes f.scale (f.cost).constant (value_from 0 (f.cost).coefficients t) in
    omega (arith, ints, sum, q)

-- a change at one variable
value_set : (n v : ℕ) (cs : List ℤ) (w : ℤ) (t : Assignment) → v < length cs
    → value_from n (set cs v (get_or cs v (pos 0) +ℤ w)) t
    ≡ value_from n cs t +ℤ (if t (n + v) then w else pos 0)
value_set n v [] w t lt = absurd (omega (arith, lt))
value_set n zero (c ∷ cs) w t lt =
    let z : n ≡ n + 0 = omega arith in
    subst (λ k. (if t n then c +ℤ w else pos 0) +ℤ value_from (n + 1) cs t
    ≡ ((if t n then c else pos 0) +ℤ value_from (n + 1) cs t) +ℤ (if t k then w else pos 0)) z
    (here (t n))
  where
    here : (b : Bool) → (if b then c +ℤ w else pos 0) +ℤ value_from (n + 1) cs t
        ≡ ((if b then c else pos 0) +ℤ value_from (n + 1) cs t) +ℤ (if b then w else pos 0)
    here true = omega (arith, ints)
    here false = omega (arith, ints)
value_set n (suc v) (c ∷ cs) w t lt =
    let k : (n + 1) + v ≡ n + suc v = omega arith in
    let r = subst (λ j. value_from (n + 1) (set cs v (get_or cs v (pos 0) +ℤ w)) t
    ≡ value_from (n + 1) cs t +ℤ (if t j then w else pos 0)) k
    (value_set (n + 1) v cs w t (omega (arith, lt))) in
    omega (arith, ints, r)

value_at : (w : ℤ) (v : ℕ) (f : Linear) (t : Assignment) → v < length f.coefficients
    → value (plus_at w v f) t ≡ value f t +ℤ (if t v then w else pos 0)
value_at w v f t lt =
    let k : 0 + v ≡ v = omega arith in
    let r = subst (λ j. value_from 0 (set f.coefficients v (coefficient f v +ℤ w)) t
    ≡ value_from 0 f.coefficients t +ℤ (if t j then w else pos 0)) k
    (value_set 0 v f.coefficients w t lt) in
    omega (arith, ints, r)

pub value_constant : (w : ℤ) (f : Linear) (t : Assignment)
    → value (plus_constant w f) t ≡ value f t +ℤ w
value_constant w f t = omega (arith, ints)

pub value_literal : (w : ℤ) (l : Literal) (f : Linear) (t : Assignment)
    → l.variable < length f.coefficients
    → value (plus_literal w l f) t ≡ value f t +ℤ (if literal_value t l then w else pos 0)
value_literal w l f t lt =
    by l.negated (t l.variable) (value_at w l.variable f t lt)
    (value_at (pos 0 -ℤ w) l.variable (plus_constant w f) t lt) (value_constant w f t)
  where
    by : (n b : Bool)
        → value (plus_at w l.variable f) t ≡ value f t +ℤ (if b then w else pos 0)
        → value (plus_at (pos 0 -ℤ w) l.variable (plus_constant w f)) t
        ≡ value (plus_constant w f) t +ℤ (if b then pos 0 -ℤ w else pos 0)
        → value (plus_constant w f) t ≡ value f t +ℤ w
        → value (if n then plus_at (pos 0 -ℤ w) l.variable (plus_constant w f)
        else plus_at w l.variable f) t
        ≡ value f t +ℤ (if (if n then not b else b) then w else pos 0)
    by true true p q c = omega (arith, ints, q, c)
    by true false p q c = omega (arith, ints, q, c)
    by false true p q c = p
    by false false p q c = p

pub literal_width : (w : ℤ) (l : Literal) (f : Linear)
    → length (plus_literal w l f).coefficients ≡ length f.coefficients
literal_width w l f = by l.negated
  where
    by : (n : Bool) → length (if n then plus_at (pos 0 -ℤ w) l.variable (plus_constant w f)
        else plus_at w l.variable f).coefficients ≡ length f.coefficients
    by true = length-set f.coefficients l.variable _
    by false = length-set f.coefficients l.variable _

pub literals_width : (w : ℤ) (ls : List Literal) (f : Linear)
    → length (plus_literals w ls f).coefficients ≡ length f.coefficients
literals_width w [] f = refl
literals_width w (l ∷ ls) f =
    literals_width w ls (plus_literal w l f) ∙ literal_width w l f

times_more : (w : ℤ) (n : ℕ) (b : Bool)
    → w *ℤ pos ((if b then 1 else 0) + n) ≡ (if b then w else pos 0) +ℤ (w *ℤ pos n)
times_more w n true = omega (arith, ints)
times_more w n false = omega (arith, ints)

-- w times the number of literals that are true
pub value_literals : (w : ℤ) (ls : List Literal) (f : Linear) (n : ℕ) (t : Assignment)
    → n ≡ length f.coefficients → AllByRecursion (λ l. l.variable < n) ls
    → value (plus_literals w ls f) t ≡ value f t +ℤ (w *ℤ pos (true_count t ls))
value_literals w [] f n t e h = let z = *ℤ-zero w in omega (arith, ints, z)
value_literals w (l ∷ ls) f n t e h =
    let lt : l.variable < length f.coefficients = omega (arith, e, h.0) in
    let r = value_literals w ls (plus_literal w l f) n t (e ∙ sym (literal_width w l f)) h.1 in
    let s = value_literal w l f t lt in
    let m = times_more w (true_count t ls) (literal_value t l) in
    omega (arith, ints, r, s, m)

-- the weights of the literals that are true
abbrev pub true_weight : Assignment → List (ℕ × Literal) → ℕ
true_weight t es = sum_by (λ e. if literal_value t e.1 then e.0 else 0) es

pub value_weights : (es : List (ℕ × Literal)) (f : Linear) (n : ℕ) (t : Assignment)
    → n ≡ length f.coefficients → AllByRecursion (λ e. (e.1).variable < n) es
    → value (cost_from f es) t ≡ value f t +ℤ pos (true_weight t es)
value_weights [] f n t e h = omega (arith, ints)
value_weights (x ∷ es) f n t e h =
    let lt : (x.1).variable < length f.coefficients = omega (arith, e, h.0) in
    let g = plus_literal (pos x.0) x.1 f in
    let r = value_weights es g n t (e ∙ sym (literal_width (pos x.0) x.1 f)) h.1 in
    let s = value_literal (pos x.0) x.1 f t lt in
    let c = sum_by-cons (λ (y : ℕ × Literal). if literal_value t y.1 then y.0 else 0) x es in
    omega (arith, ints, r, s, c, as_number (literal_value t x.1) x.0)
  where
    as_number : (b : Bool) (m : ℕ)
        → (if b then pos m else pos 0) ≡ pos (if b then m else 0)
    as_number true m = refl
    as_number false m = refl

pub weights_width : (es : List (ℕ × Literal)) (f : Linear)
    → length (cost_from f es).coefficients ≡ length f.coefficients
weights_width [] f = refl
weights_width (x ∷ es) f =
    weights_width es (plus_literal (pos x.0) x.1 f) ∙ literal_width (pos x.0) x.1 f

value_zeros : (n m : ℕ) (t : Assignment) → value_from n (replicate m (pos 0)) t ≡ pos 0
value_zeros n zero t = refl
value_zeros n (suc m) t = by (t n) (value_zeros (n + 1) m t)
  where
    by : (b : Bool) → value_from (n + 1) (replicate m (pos 0)) t ≡ pos 0
        → (if b then pos 0 else pos 0) +ℤ value_from (n + 1) (replicate m (pos 0)) t ≡ pos 0
    by true e = omega (arith, ints, e)
    by false e = omega (arith, ints, e)

pub value_zero : (width : ℕ) (t : Assignment) → value (zero_below width) t ≡ pos 0
value_zero width t = let e = value_zeros 0 width t in omega (arith, ints, e)

-- the cost that is made of weights
pub value_cost : (width : ℕ) (es : List (ℕ × Literal)) (t : Assignment)
    → AllByRecursion (λ e. (e.1).variable < width) es
    → value (cost_from (zero_below width) es) t ≡ pos (true_weight t es)
value_cost width es t h =
    let e = value_weights es (zero_below width) width t (sym (length-replicate width (pos 0))) h in
    let z = value_zero width t in
    omega (arith, ints, e, z)

value_more : (n m : ℕ) (cs : List ℤ) (t : Assignment)
    → value_from n (cs ++ replicate m (pos 0)) t ≡ value_from n cs t
value_more n m [] t = value_zeros n m t
value_more n m (c ∷ cs) t = ap (λ x. (if t n then c else pos 0) +ℤ x) (value_more (n + 1) m cs t)

pub value_widened : (more : ℕ) (f : Linear) (t : Assignment)
    → value (widened_linear more f) t ≡ value f t
value_widened more f t = ap (λ x. f.constant +ℤ x) (value_more 0 more f.coefficients t)

pub form_widened : (width : ℕ) (f : CostForm) (t : Assignment)
    → form_value (widened width f) t ≡ form_value f t
form_widened width f t = λ i. (pos f.scale *ℤ value_widened (width - width_of f) f.cost t i)
    +ℤ value_widened (width - width_of f) f.added t i

pub form_restarted : (scale : ℕ) (f : CostForm) (t : Assignment)
    → form_value (restarted scale f) t ≡ pos scale *ℤ value f.cost t
form_restarted scale f t = let z = value_zero (width_of f) t in omega (arith, ints, z)

-- the three lists keep one length
pub widened_wide : (width : ℕ) (f : CostForm) → HasOneWidth f → HasOneWidth (widened width f)
widened_wide width f h =
    let more = width - width_of f in
    let e = length-replicate more (pos 0) in
    let nothing : Option Bool = None in
    let d = length-replicate more nothing in
    let k = length-append f.fixed (replicate more nothing) in
    record {
      cost = omega (
        arith,
        length-append (f.cost).coefficients (replicate more (pos 0)),
        e,
        d,
        k,
        h.cost,
      );
      added = omega (
        arith,
        length-append (f.added).coefficients (replicate more (pos 0)),
        e,
        d,
        k,
        h.added,
      );
    }

pub widened_width : (width : ℕ) (f : CostForm) → width ≤ width_of (widened width f)
widened_width width f =
    let more = width - width_of f in
    let nothing : Option Bool = None in
    let k = length-append f.fixed (replicate more nothing) in
    let d = length-replicate more nothing in
    omega (arith, k, d)

pub widened_more : (width : ℕ) (f : CostForm) → width_of f ≤ width_of (widened width f)
widened_more width f =
    let nothing : Option Bool = None in
    let k = length-append f.fixed (replicate (width - width_of f) nothing) in
    omega (arith, k)

pub restarted_wide : (scale : ℕ) (f : CostForm) → HasOneWidth f → HasOneWidth (restarted scale f)
restarted_wide scale f h =
    record { cost = h.cost; added = length-replicate (width_of f) (pos 0) }
