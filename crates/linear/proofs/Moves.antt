-- What is kept of a bound of the cost as it changes.
use Rattle.std.proofs.Common.{◌≡◌, ℕ, zero, suc, ℤ, pos, ◌+ℤ◌, ◌*ℤ◌, ◌+◌, ◌-◌, ◌*◌, ◌^◌, ◌<◌, ◌≤◌}
use Rattle.std.proofs.Common.{List, [], ◌++◌, Option, Some, None, Bool, length, get_or, set}
use Rattle.std.proofs.Common.{replicate, arith, refl, sym, ap, ◌∙◌, subst}
use Rattle.std.specs.List.{sum_by}
use Rattle.std.specs.Int.RustNames.{unsigned_abs}
use Rattle.std.proofs.Math.IntN.{zero-*ℤ}
use Rattle.std.proofs.Math.Nat.{mul-le-mul}
use Rattle.std.proofs.lemmas.Int.{ints}
use Rattle.std.proofs.lemmas.List.{length-set, length-append, length-replicate, get_or-replicate}
use Rattle.std.proofs.lemmas.List.{replicate-append-replicate}
use Rattle.std.proofs.lemmas.List.Sums.{sum_by-cons, sum_by-append, sum_by-set, get_or-le-sum_by}
use Rattle.linear.specs.Linear.{plus_at, plus_constant, coefficient}
use Rattle.linear.specs.Costs.{least, least_sum, least_where, restarted, width_of, widened, form_of}
use Rattle.linear.specs.Bounds.{BoundState, HasLeast, IsBounded}
use Rattle.linear.proofs.Sums.{least_at, plus_small, scaled_small, sum_small, sum_set_cost}
use Rattle.linear.proofs.Sums.{sum_set_added, sum_set_value, sum_none, sum_scaled, sum_widened}
use Rattle.linear.proofs.Sums.{distributes}

no_mass : (n : ℕ) → sum_by unsigned_abs (replicate n (pos 0)) ≡ 0
no_mass zero = refl
no_mass (suc n) =
    let e = sum_by-cons unsigned_abs (pos 0) (replicate n (pos 0)) in
    omega (arith, e, no_mass n)

-- the least value, whichever variables have values
pub where_small : (s : BoundState) (fs : List (Option Bool)) → IsBounded s
    → unsigned_abs (least_where s.form fs) < 2 ^ 126
where_small s fs b =
    let f = s.form in
    let n = sum_by unsigned_abs (f.cost).coefficients in
    let m = unsigned_abs (f.cost).constant in
    let k = (pos f.scale *ℤ (f.cost).constant) +ℤ (f.added).constant in
    let a : f.scale ≤ 2 ^ 62 = omega (arith, b.scale) in
    let c : m ≤ 2 ^ 62 = omega (arith, b.constant, b.weights) in
    let d : n ≤ 2 ^ 62 = omega (arith, b.coefficients, b.weights) in
    let x : f.scale * m ≤ 2 ^ 62 * 2 ^ 62 = mul-le-mul a c in
    let y : f.scale * n ≤ 2 ^ 62 * 2 ^ 62 = mul-le-mul a d in
    let g = plus_small k (least_sum f.scale (f.cost).coefficients (f.added).coefficients fs) in
    let h = scaled_small f.scale (f.cost).constant (f.added).constant in
    let i = sum_small f.scale (f.cost).coefficients (f.added).coefficients fs in
    omega (arith, x, y, g, h, i, b.added, b.mass)

pub whole_small : (s : BoundState) (l k : ℤ) → HasLeast s l k → unsigned_abs l < 2 ^ 126
whole_small s l k h =
    subst (λ x. unsigned_abs x < 2 ^ 126) (sym h.whole) (where_small s (s.form).fixed h.bounded)

pub alone_small : (s : BoundState) (l k : ℤ) → HasLeast s l k → unsigned_abs k < 2 ^ 63
alone_small s l k h =
    let f = s.form in
    let cs = (f.cost).coefficients in
    let zs = replicate (width_of f) (pos 0) in
    let x = (pos 1 *ℤ (f.cost).constant) +ℤ pos 0 in
    let g = plus_small x (least_sum 1 cs zs f.fixed) in
    let i = sum_small 1 cs zs f.fixed in
    let j = scaled_small 1 (f.cost).constant (pos 0) in
    let b = h.bounded in
    let small : unsigned_abs (least (restarted 1 f)) < 2 ^ 63
    = omega (arith, g, i, j, no_mass (width_of f), b.constant, b.coefficients, b.weights) in
    subst (λ y. unsigned_abs y < 2 ^ 63) (sym h.alone) small

pub cost_small : (s : BoundState) (v : ℕ) → IsBounded s → v < width_of s.form
    → unsigned_abs (coefficient (s.form).cost v) ≤ s.weights
cost_small s v b lt =
    let d : v < length ((s.form).cost).coefficients = omega (arith, (b.width).cost, lt) in
    omega (
      arith,
      get_or-le-sum_by unsigned_abs ((s.form).cost).coefficients v (pos 0) d,
      b.coefficients,
    )

pub added_small : (s : BoundState) (v : ℕ) → IsBounded s → v < width_of s.form
    → unsigned_abs (coefficient (s.form).added v) ≤ s.mass
added_small s v b lt =
    let d : v < length ((s.form).added).coefficients = omega (arith, (b.width).added, lt) in
    omega (arith, get_or-le-sum_by unsigned_abs ((s.form).added).coefficients v (pos 0) d, b.added)

pub plus_constant_kept : (s : BoundState) (l k w : ℤ) → HasLeast s l k
    → s.mass + unsigned_abs w ≤ 2 ^ 120
    → HasLeast (record s {
      form = record (s.form) { added = plus_constant w (s.form).added };
      mass = s.mass + unsigned_abs w;
    }) (l +ℤ w) k
plus_constant_kept s l k w h m =
    let b = h.bounded in
    record {
      bounded = record {
        width = record { cost = (b.width).cost; added = (b.width).added };
        scale = b.scale;
        constant = b.constant;
        coefficients = b.coefficients;
        weights = b.weights;
        added = omega (arith, plus_small ((s.form).added).constant w, b.added);
        mass = m;
      };
      whole = omega (arith, ints, h.whole);
      alone = h.alone;
    }

pub plus_at_kept : (s : BoundState) (l k m w : ℤ) (v : ℕ) → HasLeast s l k
    → v < width_of s.form → s.mass + unsigned_abs w ≤ 2 ^ 120
    → m +ℤ least_at (s.form).scale (coefficient (s.form).cost v) (coefficient (s.form).added v)
    (get_or (s.form).fixed v None)
    ≡ l +ℤ least_at (s.form).scale (coefficient (s.form).cost v) (coefficient (s.form).added v +ℤ w)
    (get_or (s.form).fixed v None)
    → HasLeast (record s {
      form = record (s.form) { added = plus_at w v (s.form).added };
      mass = s.mass + unsigned_abs w;
    }) m k
plus_at_kept s l k m w v h lt small e =
    let b = h.bounded in
    let f = s.form in
    let cs = (f.cost).coefficients in
    let rs = (f.added).coefficients in
    let r = coefficient f.added v in
    let d : v < length rs = omega (arith, (b.width).added, lt) in
    let x = sum_by-set unsigned_abs rs v (r +ℤ w) (pos 0) d in
    let y = sum_set_added f.scale cs rs f.fixed v (r +ℤ w) (b.width).cost (b.width).added lt in
    record {
      bounded = record {
        width = record {
          cost = (b.width).cost;
          added = length-set rs v (r +ℤ w) ∙ (b.width).added;
        };
        scale = b.scale;
        constant = b.constant;
        coefficients = b.coefficients;
        weights = b.weights;
        added = omega (arith, x, plus_small r w, b.added);
        mass = small;
      };
      whole = omega (arith, ints, h.whole, e, y);
      alone = h.alone;
    }

pub set_value_kept : (s : BoundState) (l k m j : ℤ) (v : ℕ) (x : Bool) → HasLeast s l k
    → v < width_of s.form
    → m +ℤ least_at (s.form).scale (coefficient (s.form).cost v) (coefficient (s.form).added v)
    (get_or (s.form).fixed v None)
    ≡ l +ℤ least_at (s.form).scale (coefficient (s.form).cost v) (coefficient (s.form).added v)
    (Some x)
    → j +ℤ least_at 1 (coefficient (s.form).cost v) (pos 0) (get_or (s.form).fixed v None)
    ≡ k +ℤ least_at 1 (coefficient (s.form).cost v) (pos 0) (Some x)
    → HasLeast (record s {
      form = record (s.form) { fixed = set (s.form).fixed v (Some x) };
    }) m j
set_value_kept s l k m j v x h lt e g =
    let b = h.bounded in
    let f = s.form in
    let n = length f.fixed in
    let cs = (f.cost).coefficients in
    let rs = (f.added).coefficients in
    let zs = replicate n (pos 0) in
    let fs = set f.fixed v (Some x) in
    let d = length-set f.fixed v (Some x) in
    let z : get_or zs v (pos 0) ≡ pos 0 = get_or-replicate n v (pos 0) (pos 0) lt in
    let y = sum_set_value f.scale cs rs f.fixed v (Some x) (b.width).cost (b.width).added lt in
    let c = coefficient f.cost v in
    let i : least_sum 1 cs zs fs +ℤ least_at 1 c (pos 0) (get_or f.fixed v None)
    ≡ least_sum 1 cs zs f.fixed +ℤ least_at 1 c (pos 0) (Some x)
    = subst (λ r. least_sum 1 cs zs fs +ℤ least_at 1 c r (get_or f.fixed v None)
    ≡ least_sum 1 cs zs f.fixed +ℤ least_at 1 c r (Some x)) z
    (sum_set_value 1 cs zs f.fixed v (Some x) (b.width).cost (length-replicate n (pos 0)) lt) in
    let same : least (restarted 1 (record f { fixed = fs }))
    ≡ ((pos 1 *ℤ (f.cost).constant) +ℤ pos 0) +ℤ least_sum 1 cs zs fs
    = ap (λ a. ((pos 1 *ℤ (f.cost).constant) +ℤ pos 0) +ℤ least_sum 1 cs (replicate a (pos 0)) fs)
    d in
    record {
      bounded = record {
        width = record { cost = (b.width).cost ∙ sym d; added = (b.width).added ∙ sym d };
        scale = b.scale;
        constant = b.constant;
        coefficients = b.coefficients;
        weights = b.weights;
        added = b.added;
        mass = b.mass;
      };
      whole = omega (arith, ints, h.whole, e, y);
      alone = omega (arith, ints, h.alone, g, i, same);
    }

-- where the cost is taken no times
free_cost : (q : ℕ) (a b r : ℤ) (cs bs rs : List ℤ) (fs : List (Option Bool)) → q ≡ 0
    → length cs ≡ length bs
    → ((pos q *ℤ a) +ℤ r) +ℤ least_sum q cs rs fs ≡ ((pos q *ℤ b) +ℤ r) +ℤ least_sum q bs rs fs
free_cost q a b r cs bs rs fs e d =
    subst (λ n. ((pos n *ℤ a) +ℤ r) +ℤ least_sum n cs rs fs
    ≡ ((pos n *ℤ b) +ℤ r) +ℤ least_sum n bs rs fs) (sym e)
    (omega (arith, ints, zero-*ℤ a, zero-*ℤ b, sum_none cs bs rs fs d))

pub plus_cost_kept : (s : BoundState) (l k j x y : ℤ) (v n : ℕ) → HasLeast s l k
    → (s.form).scale ≡ 0 → v < width_of s.form
    → unsigned_abs x ≤ n → unsigned_abs y ≤ n → s.weights + n < 2 ^ 62
    → j +ℤ least_at 1 (coefficient (s.form).cost v) (pos 0) (get_or (s.form).fixed v None)
    ≡ (k +ℤ y) +ℤ least_at 1 (coefficient (s.form).cost v +ℤ x) (pos 0)
    (get_or (s.form).fixed v None)
    → HasLeast (record s {
      form = record (s.form) { cost = plus_at x v (plus_constant y (s.form).cost) };
      weights = s.weights + n;
    }) l j
plus_cost_kept s l k j x y v n h e lt p q small g =
    let b = h.bounded in
    let f = s.form in
    let w = length f.fixed in
    let cs = (f.cost).coefficients in
    let c = coefficient f.cost v in
    let zs = replicate w (pos 0) in
    let d = length-set cs v (c +ℤ x) in
    let z : get_or zs v (pos 0) ≡ pos 0 = get_or-replicate w v (pos 0) (pos 0) lt in
    let i = rw z
    at (sum_set_cost 1 cs zs f.fixed v (c +ℤ x) (b.width).cost (length-replicate w (pos 0)) lt) in
    let within : v < length cs = omega (arith, (b.width).cost, lt) in
    let t = sum_by-set unsigned_abs cs v (c +ℤ x) (pos 0) within in
    let o : ((pos 1 *ℤ (f.cost).constant) +ℤ y) ≡ (pos 1 *ℤ ((f.cost).constant +ℤ y)) =
    omega (arith, ints) in
    let u = free_cost f.scale (f.cost).constant ((f.cost).constant +ℤ y) (f.added).constant cs
    (set cs v (c +ℤ x)) (f.added).coefficients f.fixed e (sym d) in
    record {
      bounded = record {
        width = record { cost = d ∙ (b.width).cost; added = (b.width).added };
        scale = b.scale;
        constant = omega (arith, plus_small (f.cost).constant y, b.constant, q);
        coefficients = omega (arith, t, plus_small c x, b.coefficients, p);
        weights = small;
        added = b.added;
        mass = b.mass;
      };
      whole = h.whole ∙ u;
      alone = omega (arith, ints, h.alone, g, i, o);
    }

pub restarted_kept : (s : BoundState) (l k : ℤ) (q : ℕ) → HasLeast s l k → q < 2 ^ 62
    → HasLeast (record { form = restarted q s.form; weights = s.weights; mass = 0 }) (pos q *ℤ k) k
restarted_kept s l k q h small =
    let b = h.bounded in
    let f = s.form in
    let w = length f.fixed in
    let cs = (f.cost).coefficients in
    let a = (f.cost).constant in
    let zs = replicate w (pos 0) in
    let d = distributes q ((pos 1 *ℤ a) +ℤ pos 0) (least_sum 1 cs zs f.fixed) in
    let e : ((pos 1 *ℤ a) +ℤ pos 0) ≡ a = omega (arith, ints) in
    let g = ap (λ x. pos q *ℤ x) e in
    let i = sum_scaled q w cs f.fixed in
    record {
      bounded = record {
        width = record { cost = (b.width).cost; added = length-replicate w (pos 0) };
        scale = small;
        constant = b.constant;
        coefficients = b.coefficients;
        weights = b.weights;
        added = omega (arith, no_mass w);
        mass = omega arith;
      };
      whole = ap (λ x. pos q *ℤ x) h.alone ∙ omega (arith, ints, d, g, i);
      alone = h.alone;
    }

more_zeros : (cs : List ℤ) (n : ℕ)
    → sum_by unsigned_abs (cs ++ replicate n (pos 0)) ≡ sum_by unsigned_abs cs
more_zeros cs n =
    omega (arith, sum_by-append unsigned_abs cs (replicate n (pos 0)), no_mass n)

same_length : {X Y : Type 0} (xs : List X) (ys : List Y) (n : ℕ) (x : X) (y : Y)
    → length xs ≡ length ys → length (xs ++ replicate n x) ≡ length (ys ++ replicate n y)
same_length xs ys n x y e =
    omega (
      arith,
      length-append xs (replicate n x),
      length-append ys (replicate n y),
      length-replicate n x,
      length-replicate n y,
      e,
    )

pub widened_kept : (s : BoundState) (l k : ℤ) (width : ℕ) → HasLeast s l k
    → HasLeast (record s { form = widened width s.form }) l k
widened_kept s l k width h =
    let b = h.bounded in
    let f = s.form in
    let w = length f.fixed in
    let n = width - w in
    let cs = (f.cost).coefficients in
    let rs = (f.added).coefficients in
    let zs = replicate w (pos 0) in
    let fs = f.fixed ++ replicate n None in
    let i = sum_widened f.scale n cs rs f.fixed (b.width).cost (b.width).added in
    let j = sum_widened 1 n cs zs f.fixed (b.width).cost (length-replicate w (pos 0)) in
    let z : length fs ≡ w + n
    = omega (
      arith,
      length-append f.fixed (replicate n None),
      length-replicate {A = Option Bool} n
          None,
    ) in
    let zeros : replicate (length fs) (pos 0) ≡ zs ++ replicate n (pos 0)
    = ap (λ a. replicate a (pos 0)) z ∙ sym (replicate-append-replicate w n (pos 0)) in
    let same = ap (λ xs. least_sum 1 (cs ++ replicate n (pos 0)) xs fs) zeros in
    record {
      bounded = record {
        width = record {
          cost = same_length cs f.fixed n (pos 0) None (b.width).cost;
          added = same_length rs f.fixed n (pos 0) None (b.width).added;
        };
        scale = b.scale;
        constant = b.constant;
        coefficients = omega (arith, more_zeros cs n, b.coefficients);
        weights = b.weights;
        added = omega (arith, more_zeros rs n, b.added);
        mass = b.mass;
      };
      whole = omega (arith, ints, h.whole, i);
      alone = omega (arith, ints, h.alone, j, same);
    }

pub new_kept : (n : ℕ) → HasLeast (record { form = form_of n []; weights = 0; mass = 0 }) (pos 0)
    (pos 0)
new_kept n =
    let zs = replicate n (pos 0) in
    let d = length-replicate n (pos 0) in
    let e = length-replicate {A = Option Bool} n None in
    let i = sum_widened 0 n [] [] [] refl refl in
    let j = sum_widened 1 n [] [] [] refl refl in
    let same = ap (λ a. least_sum 1 zs (replicate a (pos 0)) (replicate n None)) e in
    record {
      bounded = record {
        width = record { cost = d ∙ sym e; added = d ∙ sym e };
        scale = omega arith;
        constant = omega arith;
        coefficients = omega (arith, no_mass n);
        weights = omega arith;
        added = omega (arith, no_mass n);
        mass = omega arith;
      };
      whole = omega (arith, ints, i);
      alone = omega (arith, ints, j, same);
    }
