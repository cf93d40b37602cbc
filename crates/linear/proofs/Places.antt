-- What stands at a variable, and a bound of the cost in which that changes.
use Rattle.std.proofs.Common.{◌≡◌, ℕ, zero, suc, ℤ, pos, ◌+ℤ◌, ◌-ℤ◌, ◌+◌, ◌-◌, ◌^◌, ◌<◌, ◌≤◌, List}
use Rattle.std.proofs.Common.{[], ◌∷◌, ◌++◌, Option, Some, None, Bool, true, false, not, replicate}
use Rattle.std.proofs.Common.{map, length, get_or, set, arith, refl, sym, ap, ◌∙◌, subst}
use Rattle.std.specs.Prelude.{if◌then◌else◌, ◌==◌, is_some}
use Rattle.std.specs.List.{All, AllByRecursion}
use Rattle.std.specs.Int.RustNames.{unsigned_abs}
use Rattle.std.proofs.lemmas.Bool.{eq-eqb, ne_eqb}
use Rattle.std.proofs.lemmas.Int.{ints}
use Rattle.std.proofs.lemmas.List.{map-set, get_or-map, set-get_or, length-map, map-append}
use Rattle.std.proofs.lemmas.List.{append-nil}
use Rattle.linear.specs.declared.terms.Term.{Term}
use Rattle.linear.specs.Linear.{Linear, plus_at, plus_constant, plus_literal}
use Rattle.cnf.specs.Literal.{Literal}
use Rattle.std.proofs.lemmas.List.Elements.{recursion_from_All}
use Rattle.linear.specs.Costs.{CostForm, fixed_by, form_of, restarted, widened, widened_linear}
use Rattle.linear.specs.Costs.{width_of}
use Rattle.linear.specs.Terms.{AreSmall, added_of, costs, additions, values, form_of_terms}
use Rattle.linear.specs.Bounds.{BoundState, HasLeast, IsBounded}
use Rattle.linear.specs.declared.bounds.CostBound.TheInside.{Inside}
use Rattle.linear.specs.Kept.{state_in, IsBoundKept}
use Rattle.linear.proofs.Sums.{least_at, plus_small}
use Rattle.linear.proofs.Moves.{cost_small, added_small, plus_at_kept, set_value_kept}
use Rattle.linear.proofs.Moves.{plus_cost_kept}

pub map_same : {X Y : Type 0} (f : X → Y) (xs : List X) (i : ℕ) (x d : X) → i < length xs
    → f x ≡ f (get_or xs i d) → map f (set xs i x) ≡ map f xs
map_same f xs i x d lt e =
    map-set f xs i x
    ∙ ap (λ y. set (map f xs) i y) (e ∙ sym (get_or-map f xs i d (f d) lt))
    ∙ set-get_or (map f xs) i (f d)

map_kept : {X Y : Type 0} (f : X → Y) (xs : List X) (i : ℕ) (x old : X) → i < length xs
    → old ≡ get_or xs i old → f x ≡ f old → map f (set xs i x) ≡ map f xs
map_kept f xs i x old lt o e = map_same f xs i x old lt (e ∙ ap f o)

map_here : {X Y : Type 0} (f : X → Y) (xs : List X) (i : ℕ) (old : X) (d : Y) → i < length xs
    → old ≡ get_or xs i old → get_or (map f xs) i d ≡ f old
map_here f xs i old d lt o = get_or-map f xs i old d lt ∙ ap f (sym o)

-- one place, with what stands there
pub record StandsAt (ts : List Term) (v : ℕ) (old : Term) : Type 0 where
  pub within : v < length ts
  pub here : old ≡ get_or ts v old

pub within_width : (ts : List Term) (v : ℕ) → v < length ts → v < length (values ts)
within_width ts v lt = omega (arith, length-map ts (λ t. t.value), lt)

pub cost_here : (ts : List Term) (v : ℕ) (old : Term) → StandsAt ts v old
    → get_or (costs ts) v (pos 0) ≡ old.cost
cost_here ts v old h = map_here (λ t. t.cost) ts v old (pos 0) h.within h.here

pub added_here : (p : ℕ) (ts : List Term) (v : ℕ) (old : Term) → StandsAt ts v old
    → get_or (additions p ts) v (pos 0) ≡ added_of p old
added_here p ts v old h = map_here (added_of p) ts v old (pos 0) h.within h.here

pub value_here : (ts : List Term) (v : ℕ) (old : Term) → StandsAt ts v old
    → get_or (values ts) v None ≡ old.value
value_here ts v old h = map_here (λ t. t.value) ts v old None h.within h.here

same_form : (k : ℤ) (s : ℕ) (r : ℤ) (cs bs rs qs : List ℤ) (fs gs : List (Option Bool))
    → cs ≡ bs → rs ≡ qs → fs ≡ gs
    → (let f : CostForm = record {
      cost = record { constant = k; coefficients = cs };
      scale = s;
      added = record { constant = r; coefficients = rs };
      fixed = fs;
    } in f) ≡ record {
      cost = record { constant = k; coefficients = bs };
      scale = s;
      added = record { constant = r; coefficients = qs };
      fixed = gs;
    }
same_form k s r cs bs rs qs fs gs a b c = cc

pub added_put : (k : ℤ) (s : ℕ) (r : ℤ) (p : ℕ) (ts : List Term) (v : ℕ) (old new : Term) (w : ℤ)
    → StandsAt ts v old → new.cost ≡ old.cost → new.value ≡ old.value → new.stamp ≡ p
    → new.added ≡ added_of p old +ℤ w
    → form_of_terms k s r p (set ts v new)
    ≡ record (form_of_terms k s r p ts) { added = plus_at w v (form_of_terms k s r p ts).added }
added_put k s r p ts v old new w h c f a e =
    let here : added_of p new ≡ get_or (additions p ts) v (pos 0) +ℤ w
    = ap (λ b. if b then new.added else pos 0) (eq-eqb new.stamp p a) ∙ e
    ∙ ap (λ x. x +ℤ w) (sym (added_here p ts v old h)) in
    same_form k s r (costs (set ts v new)) (costs ts) (additions p (set ts v new))
    (set (additions p ts) v (get_or (additions p ts) v (pos 0) +ℤ w))
    (values (set ts v new)) (values ts)
    (map_kept (λ t. t.cost) ts v new old h.within h.here c)
    (map-set (added_of p) ts v new ∙ ap (λ x. set (additions p ts) v x) here)
    (map_kept (λ t. t.value) ts v new old h.within h.here f)

pub value_put : (k : ℤ) (s : ℕ) (r : ℤ) (p : ℕ) (ts : List Term) (v : ℕ) (old new : Term)
    (x : Option Bool) → StandsAt ts v old → new.cost ≡ old.cost → new.added ≡ old.added
    → new.stamp ≡ old.stamp → new.value ≡ x
    → form_of_terms k s r p (set ts v new)
    ≡ record (form_of_terms k s r p ts) { fixed = set (values ts) v x }
value_put k s r p ts v old new x h c e a f =
    let same : added_of p new ≡ added_of p old
    = ap (λ b. if b == p then new.added else pos 0) a
    ∙ ap (λ y. if old.stamp == p then y else pos 0) e in
    same_form k s r (costs (set ts v new)) (costs ts) (additions p (set ts v new)) (additions p ts)
    (values (set ts v new)) (set (values ts) v x)
    (map_kept (λ t. t.cost) ts v new old h.within h.here c)
    (map_kept (added_of p) ts v new old h.within h.here same)
    (map-set (λ t. t.value) ts v new ∙ ap (λ y. set (values ts) v y) f)

pub cost_put : (k y : ℤ) (s : ℕ) (r : ℤ) (p : ℕ) (ts : List Term) (v : ℕ) (old new : Term) (x : ℤ)
    → StandsAt ts v old → new.cost ≡ old.cost +ℤ x → new.added ≡ old.added
    → new.stamp ≡ old.stamp → new.value ≡ old.value
    → form_of_terms (k +ℤ y) s r p (set ts v new)
    ≡ record (form_of_terms k s r p ts) {
      cost = plus_at x v (plus_constant y (form_of_terms k s r p ts).cost);
    }
cost_put k y s r p ts v old new x h c e a f =
    let same : added_of p new ≡ added_of p old
    = ap (λ b. if b == p then new.added else pos 0) a
    ∙ ap (λ y. if old.stamp == p then y else pos 0) e in
    let here : new.cost ≡ get_or (costs ts) v (pos 0) +ℤ x
    = c ∙ ap (λ z. z +ℤ x) (sym (cost_here ts v old h)) in
    same_form (k +ℤ y) s r (costs (set ts v new))
    (set (costs ts) v (get_or (costs ts) v (pos 0) +ℤ x))
    (additions p (set ts v new)) (additions p ts)
    (values (set ts v new)) (values ts)
    (map-set (λ t. t.cost) ts v new ∙ ap (λ z. set (costs ts) v z) here)
    (map_kept (added_of p) ts v new old h.within h.here same)
    (map_kept (λ t. t.value) ts v new old h.within h.here f)

-- what is kept where one place changes
pub added_put_kept : (k : ℤ) (s : ℕ) (r : ℤ) (p : ℕ) (ts : List Term) (v : ℕ) (old new : Term)
    (w : ℤ) (n q : ℕ) (l a j : ℤ)
    → HasLeast (record { form = form_of_terms k s r p ts; weights = n; mass = q }) l a
    → StandsAt ts v old → q + unsigned_abs w ≤ 2 ^ 120
    → new.cost ≡ old.cost → new.value ≡ old.value → new.stamp ≡ p
    → new.added ≡ added_of p old +ℤ w
    → j +ℤ least_at s old.cost (added_of p old) old.value ≡ l
    +ℤ least_at s old.cost new.added old.value
    → HasLeast (record {
      form = form_of_terms k s r p (set ts v new);
      weights = n;
      mass = q + unsigned_abs w;
    }) j a
added_put_kept k s r p ts v old new w n q l a j h at small c f st e g =
    let b : BoundState = record { form = form_of_terms k s r p ts; weights = n; mass = q } in
    let ec = cost_here ts v old at in
    let er = added_here p ts v old at in
    let ev = value_here ts v old at in
    let moved : j +ℤ least_at s (get_or (costs ts) v (pos 0)) (get_or (additions p ts) v (pos 0))
    (get_or (values ts) v None)
    ≡ l +ℤ least_at s (get_or (costs ts) v (pos 0)) (get_or (additions p ts) v (pos 0) +ℤ w)
    (get_or (values ts) v None)
    = cc in
    subst (λ (x : CostForm). HasLeast (record { form = x; weights = n; mass = q + unsigned_abs w })
    j a)
    (sym (added_put k s r p ts v old new w at c f st e))
    (plus_at_kept b l a j w v h (within_width ts v at.within) small moved)

pub value_put_kept : (k : ℤ) (s : ℕ) (r : ℤ) (p : ℕ) (ts : List Term) (v : ℕ) (old new : Term)
    (x : Bool) (n q : ℕ) (l a j i : ℤ)
    → HasLeast (record { form = form_of_terms k s r p ts; weights = n; mass = q }) l a
    → StandsAt ts v old
    → new.cost ≡ old.cost → new.added ≡ old.added → new.stamp ≡ old.stamp → new.value ≡ Some x
    → j +ℤ least_at s old.cost (added_of p old) old.value
    ≡ l +ℤ least_at s old.cost (added_of p old) (Some x)
    → i +ℤ least_at 1 old.cost (pos 0) old.value ≡ a +ℤ least_at 1 old.cost (pos 0) (Some x)
    → HasLeast (record { form = form_of_terms k s r p (set ts v new); weights = n; mass = q }) j i
value_put_kept k s r p ts v old new x n q l a j i h at c e st f g d =
    let b : BoundState = record { form = form_of_terms k s r p ts; weights = n; mass = q } in
    let ec = cost_here ts v old at in
    let er = added_here p ts v old at in
    let ev = value_here ts v old at in
    let moved : j +ℤ least_at s (get_or (costs ts) v (pos 0)) (get_or (additions p ts) v (pos 0))
    (get_or (values ts) v None)
    ≡ l +ℤ least_at s (get_or (costs ts) v (pos 0)) (get_or (additions p ts) v (pos 0)) (Some x)
    = cc in
    let alone : i +ℤ least_at 1 (get_or (costs ts) v (pos 0)) (pos 0) (get_or (values ts) v None)
    ≡ a +ℤ least_at 1 (get_or (costs ts) v (pos 0)) (pos 0) (Some x)
    = cc in
    subst (λ (y : CostForm). HasLeast (record { form = y; weights = n; mass = q }) j i)
    (sym (value_put k s r p ts v old new (Some x) at c e st f))
    (set_value_kept b l a j i v x h (within_width ts v at.within) moved alone)

pub cost_put_kept : (k y : ℤ) (s : ℕ) (r : ℤ) (p : ℕ) (ts : List Term) (v : ℕ) (old new : Term)
    (x : ℤ) (n q m : ℕ) (l a i : ℤ)
    → HasLeast (record { form = form_of_terms k s r p ts; weights = n; mass = q }) l a
    → s ≡ 0 → StandsAt ts v old
    → new.cost ≡ old.cost +ℤ x → new.added ≡ old.added → new.stamp ≡ old.stamp
    → new.value ≡ old.value
    → unsigned_abs x ≤ m → unsigned_abs y ≤ m → n + m < 2 ^ 62
    → i +ℤ least_at 1 old.cost (pos 0) old.value
    ≡ (a +ℤ y) +ℤ least_at 1 new.cost (pos 0) old.value
    → HasLeast (record {
      form = form_of_terms (k +ℤ y) s r p (set ts v new);
      weights = n + m;
      mass = q;
    }) l i
cost_put_kept k y s r p ts v old new x n q m l a i h z at c e st f bx by small g =
    let b : BoundState = record { form = form_of_terms k s r p ts; weights = n; mass = q } in
    let ec = cost_here ts v old at in
    let ev = value_here ts v old at in
    let moved : i +ℤ least_at 1 (get_or (costs ts) v (pos 0)) (pos 0) (get_or (values ts) v None)
    ≡ (a +ℤ y) +ℤ least_at 1 (get_or (costs ts) v (pos 0) +ℤ x) (pos 0) (get_or (values ts) v None)
    = cc in
    subst (λ (o : CostForm). HasLeast (record { form = o; weights = n + m; mass = q }) l i)
    (sym (cost_put k y s r p ts v old new x at c e st f))
    (plus_cost_kept b l a i x y v m h z (within_width ts v at.within) bx by small moved)

-- what stands at a place is small, and so are sums of it
pub here_small : (k : ℤ) (s : ℕ) (r : ℤ) (p : ℕ) (ts : List Term) (v : ℕ) (old : Term) (n q : ℕ)
    → IsBounded (record { form = form_of_terms k s r p ts; weights = n; mass = q })
    → StandsAt ts v old → AreSmall s old.cost (added_of p old)
here_small k s r p ts v old n q b at =
    let f : BoundState = record { form = form_of_terms k s r p ts; weights = n; mass = q } in
    let lt = within_width ts v at.within in
    let c : unsigned_abs old.cost ≤ n
    = subst (λ x. unsigned_abs x ≤ n) (cost_here ts v old at) (cost_small f v b lt) in
    let d : unsigned_abs (added_of p old) ≤ q
    = subst (λ x. unsigned_abs x ≤ q) (added_here p ts v old at) (added_small f v b lt) in
    record {
      times = b.scale;
      cost = omega (arith, c, b.weights);
      added = omega (arith, d, b.mass);
    }

pub stands_at : (b : Inside) (s : BoundState) (v : ℕ) (old : Term) → state_in b ≡ s
    → v < width_of s.form → old ≡ get_or b.terms.items v old → StandsAt b.terms.items v old
stands_at b s v old e lt h =
    let w = ap (λ (x : BoundState). length (x.form).fixed) e in
    let n = length-map b.terms.items (λ t. t.value) in
    record { within = omega (arith, w, n, lt); here = h }

pub kept_small : (b : Inside) (v : ℕ) (old : Term) → IsBoundKept b → StandsAt b.terms.items v old
    → AreSmall b.scale old.cost (added_of b.present old)
kept_small b v old h at =
    here_small b.cost_constant b.scale b.added_constant b.present b.terms.items v old b.weights
    b.mass (h.least).bounded at

pub raised_small : (b : Inside) (v : ℕ) (old : Term) (w : ℤ) → IsBoundKept b
    → StandsAt b.terms.items v old → b.mass + unsigned_abs w ≤ 2 ^ 120
    → AreSmall b.scale old.cost (added_of b.present old +ℤ w)
raised_small b v old w h at small =
    let s = kept_small b v old h at in
    let n = (h.least).bounded in
    let lt = within_width b.terms.items v at.within in
    let d : unsigned_abs (added_of b.present old) ≤ b.mass
    = subst (λ x. unsigned_abs x ≤ b.mass) (added_here b.present b.terms.items v old at)
    (added_small (state_in b) v n lt) in
    record {
      times = s.times;
      cost = s.cost;
      added = omega (arith, plus_small (added_of b.present old) w, d, small);
    }

-- no coefficient beside the cost counts under a stamp that is yet to come
fresh : (p : ℕ) (ts : List Term) → AllByRecursion (λ t. t.stamp < p) ts
    → additions p ts ≡ replicate (length ts) (pos 0)
fresh p [] h = refl
fresh p (t ∷ ts) h =
    let ne : (t.stamp == p) ≡ false = ne_eqb t.stamp p (λ e. omega (arith, h.0, e)) in
    ap (λ b. (if b then t.added else pos 0) ∷ additions p ts) ne
    ∙ ap (λ xs. pos 0 ∷ xs) (fresh p ts h.1)

pub same_items : (ts us : List Term) → values us ≡ values ts → length us ≡ length ts
same_items ts us f =
    omega (arith, ap length f, length-map us (λ t. t.value), length-map ts (λ t. t.value))

pub fresh_stamp : (p : ℕ) (ts us : List Term) → costs us ≡ costs ts → values us ≡ values ts
    → All (λ t. t.stamp < p) us → (k : ℤ) (s o : ℕ) (r : ℤ) (q : ℕ)
    → form_of_terms k s (pos 0) p us ≡ restarted s (form_of_terms k o r q ts)
fresh_stamp p ts us c f h k s o r q =
    let n : length us ≡ length (values ts)
    = omega (arith, ap length f, length-map us (λ t. t.value)) in
    same_form k s (pos 0) (costs us) (costs ts) (additions p us)
    (replicate (length (values ts)) (pos 0)) (values us) (values ts) c
    (fresh p us (recursion_from_All (λ t. t.stamp < p) us h)
    ∙ ap (λ m. replicate m (pos 0)) n) f

map_replicate : {X Y : Type 0} (f : X → Y) (n : ℕ) (x : X)
    → map f (replicate n x) ≡ replicate n (f x)
map_replicate f zero x = refl
map_replicate f (suc n) x = ap (λ ys. f x ∷ ys) (map_replicate f n x)

added_none : (p : ℕ) (t : Term) → t.added ≡ pos 0 → added_of p t ≡ pos 0
added_none p t r = ap (λ x. if t.stamp == p then x else pos 0) r ∙ same (t.stamp == p)
  where
    same : (b : Bool) → (if b then pos 0 else pos 0) ≡ pos 0
    same true = refl
    same false = refl

-- where nothing stands
pub nothing_form : (n : ℕ) (t : Term) → t.cost ≡ pos 0 → t.added ≡ pos 0 → t.value ≡ None
    → form_of_terms (pos 0) 0 (pos 0) 0 (replicate n t) ≡ form_of n []
nothing_form n t c r f =
    same_form (pos 0) 0 (pos 0) (costs (replicate n t)) (replicate n (pos 0))
    (additions 0 (replicate n t)) (replicate n (pos 0)) (values (replicate n t)) (replicate n None)
    (map_replicate (λ u. u.cost) n t ∙ ap (λ x. replicate n x) c)
    (map_replicate (added_of 0) n t ∙ ap (λ x. replicate n x) (added_none 0 t r))
    (map_replicate (λ u. u.value) n t ∙ ap (λ x. replicate n x) f)

-- where nothing stands at the end
pub widened_form : (k : ℤ) (s : ℕ) (r : ℤ) (p : ℕ) (ts : List Term) (width : ℕ) (t : Term)
    → t.cost ≡ pos 0 → t.added ≡ pos 0 → t.value ≡ None
    → form_of_terms k s r p (ts ++ replicate (width - length ts) t)
    ≡ widened width (form_of_terms k s r p ts)
widened_form k s r p ts width t c e f =
    let m = width - length ts in
    let n : m ≡ width - length (values ts) =
    ap (λ x. width - x) (sym (length-map ts (λ u. u.value))) in
    same_form k s r (costs (ts ++ replicate m t))
    (costs ts ++ replicate (width - length (values ts)) (pos 0))
    (additions p (ts ++ replicate m t))
    (additions p ts ++ replicate (width - length (values ts)) (pos 0))
    (values (ts ++ replicate m t)) (values ts ++ replicate (width - length (values ts)) None)
    (map-append (λ u. u.cost) ts (replicate m t)
    ∙ ap (λ xs. costs ts ++ xs) (map_replicate (λ u. u.cost) m t ∙ ap (λ x. replicate m x) c)
    ∙ ap (λ x. costs ts ++ replicate x (pos 0)) n)
    (map-append (added_of p) ts (replicate m t)
    ∙ ap (λ xs. additions p ts ++ xs) (map_replicate (added_of p) m t
    ∙ ap (λ x. replicate m x) (added_none p t e))
    ∙ ap (λ x. additions p ts ++ replicate x (pos 0)) n)
    (map-append (λ u. u.value) ts (replicate m t)
    ∙ ap (λ xs. values ts ++ xs) (map_replicate (λ u. u.value) m t ∙ ap (λ x. replicate m x) f)
    ∙ ap (λ x. values ts ++ replicate x None) n)

-- what a literal's weight adds to its coefficient and to the constant
pub literal_parts : (w : ℤ) (l : Literal) (f : Linear)
    → plus_at (if l.negated then pos 0 -ℤ w else w) l.variable
    (plus_constant (if l.negated then w else pos 0) f)
    ≡ plus_literal w l f
literal_parts w l f = by_sign l.negated
  where
    by_sign : (b : Bool)
        → plus_at (if b then pos 0 -ℤ w else w) l.variable
        (plus_constant (if b then w else pos 0) f)
        ≡ (if b then plus_at (pos 0 -ℤ w) l.variable (plus_constant w f) else plus_at w l.variable
        f)
    by_sign true = refl
    by_sign false =
        let z : (f.constant +ℤ pos 0) ≡ f.constant = omega (arith, ints) in
        ap (λ (k : ℤ). plus_at w l.variable (record f { constant = k })) z

pub alone_part : {s : ℕ} {c r : ℤ} → AreSmall s c r → AreSmall 1 c (pos 0)
alone_part h = record { times = omega arith; cost = h.cost; added = omega arith }

pub fixed_here : (l : Literal) (fs : List (Option Bool)) → get_or fs l.variable None ≡ None
    → fixed_by l fs ≡ set fs l.variable (Some (not l.negated))
fixed_here l fs e = rw e refl

pub none_is : (o : Option Bool) → is_some o ≡ false → o ≡ None
none_is None e = refl
none_is (Some b) e = cc

pub kept_cost : (b : Inside) (v : ℕ) (old : Term) → IsBoundKept b → StandsAt b.terms.items v old
    → unsigned_abs old.cost ≤ b.weights
kept_cost b v old h at =
    subst (λ x. unsigned_abs x ≤ b.weights) (cost_here b.terms.items v old at)
    (cost_small (state_in b) v (h.least).bounded (within_width b.terms.items v at.within))
