-- Assignments that agree with the values that variables have.
use Rattle.std.proofs.Common.{◌≡◌, ℕ, zero, suc, ◌-◌, List, [], ◌∷◌, ◌++◌, Option, Some, None, Bool}
use Rattle.std.proofs.Common.{true, false, not, if◌then◌else◌, length, get_or, set, replicate, refl}
use Rattle.std.proofs.Common.{sym, ap, ◌∙◌, subst}
use Rattle.std.specs.List.{AllByRecursion}
use Rattle.std.proofs.lemmas.List.{length-set}
use Rattle.cnf.specs.Literal.{Literal, Assignment, literal_value}
use Rattle.linear.specs.Costs.{AgreesWith, CostForm, widened, width_of}
use Rattle.linear.specs.Costs.{falsified, fixed_by}
use Rattle.std.proofs.lemmas.Option.{none-some, same_Some}
use Rattle.std.proofs.lemmas.Bool.{false≢true, true≢false}
use Rattle.linear.proofs.Places.{fixed_here}

-- what holds of each value of a list with one more
each_set : (fs : List (Option Bool)) (v : ℕ) (x : Bool) (P : ℕ → Bool → Type 0)
    → ((j : ℕ) (b : Bool) → get_or fs j None ≡ Some b → P j b) → P v x
    → (j : ℕ) (b : Bool) → get_or (set fs v (Some x)) j None ≡ Some b → P j b
each_set [] v x P h p j b e = h j b e
each_set (f ∷ fs) zero x P h p zero b e = subst (P 0) (same_Some x b e) p
each_set (f ∷ fs) zero x P h p (suc j) b e = h (suc j) b e
each_set (f ∷ fs) (suc v) x P h p zero b e = h zero b e
each_set (f ∷ fs) (suc v) x P h p (suc j) b e =
    each_set fs v x (λ i c. P (suc i) c) (λ i c k. h (suc i) c k) p j b e

-- where a literal is true, its variable has this value
true_value : (t : Assignment) (l : Literal) → literal_value t l ≡ true → t l.variable
    ≡ not l.negated
true_value t l e = by l.negated (t l.variable) e
  where
    by : (n b : Bool) → (if n then not b else b) ≡ true → b ≡ not n
    by true true e = absurd (false≢true e)
    by true false e = refl
    by false true e = refl
    by false false e = absurd (false≢true e)

false_value : (t : Assignment) (l : Literal) → literal_value t l ≡ false → t l.variable ≡ l.negated
false_value t l e = by l.negated (t l.variable) e
  where
    by : (n b : Bool) → (if n then not b else b) ≡ false → b ≡ n
    by true true e = refl
    by true false e = absurd (true≢false e)
    by false true e = absurd (true≢false e)
    by false false e = refl

fixed_there : (l : Literal) (fs : List (Option Bool)) (b : Bool)
    → get_or fs l.variable None ≡ Some b → fixed_by l fs ≡ fs
fixed_there l fs b e = rw e refl

pub agrees_fixed : (l : Literal) (fixed : List (Option Bool)) (t : Assignment)
    → AgreesWith fixed t → literal_value t l ≡ true → AgreesWith (fixed_by l fixed) t
agrees_fixed l fixed t h e =
    elim (get_or fixed l.variable None)
    as (λ o. get_or fixed l.variable None ≡ o → AgreesWith (fixed_by l fixed) t) [
      | None ↦ λ q.
          let put = each_set fixed l.variable (not l.negated) (λ v b. t v ≡ b) h
          (true_value t l e) in
          subst (λ x. AgreesWith x t) (sym (fixed_here l fixed q)) put
      | Some b ↦ λ q. subst (λ x. AgreesWith x t) (sym (fixed_there l fixed b q)) h
    ] refl

pub agrees_falsified : (ls : List Literal) (fixed : List (Option Bool)) (t : Assignment)
    → AgreesWith fixed t → AllByRecursion (λ l. literal_value t l ≡ false) ls
    → AgreesWith (falsified ls fixed) t
agrees_falsified [] fixed t h e = h
agrees_falsified (l ∷ ls) fixed t h e =
    agrees_falsified ls (set fixed l.variable (Some l.negated)) t
    (each_set fixed l.variable l.negated (λ v b. t v ≡ b) h (false_value t l e.0)) e.1

each_none : (n : ℕ) (P : ℕ → Bool → Type 0) (j : ℕ) (b : Bool)
    → get_or (replicate n None) j None ≡ Some b → P j b
each_none zero P j b e = absurd (none-some b e)
each_none (suc n) P zero b e = absurd (none-some b e)
each_none (suc n) P (suc j) b e = each_none n (λ i c. P (suc i) c) j b e

each_more : (fs : List (Option Bool)) (n : ℕ) (P : ℕ → Bool → Type 0)
    → ((j : ℕ) (b : Bool) → get_or fs j None ≡ Some b → P j b)
    → (j : ℕ) (b : Bool) → get_or (fs ++ replicate n None) j None ≡ Some b → P j b
each_more [] n P h j b e = each_none n P j b e
each_more (f ∷ fs) n P h zero b e = h zero b e
each_more (f ∷ fs) n P h (suc j) b e =
    each_more fs n (λ i c. P (suc i) c) (λ i c k. h (suc i) c k) j b e

pub agrees_none : (n : ℕ) (t : Assignment) → AgreesWith (replicate n None) t
agrees_none n t v b e = each_none n (λ i c. t i ≡ c) v b e

pub agrees_widened : (width : ℕ) (f : CostForm) (t : Assignment) → AgreesWith f.fixed t
    → AgreesWith (widened width f).fixed t
agrees_widened width f t h v b e =
    each_more f.fixed (width - width_of f) (λ i c. t i ≡ c) h v b e

pub fixed_length : (l : Literal) (fixed : List (Option Bool))
    → length (fixed_by l fixed) ≡ length fixed
fixed_length l fixed =
    elim (get_or fixed l.variable None)
    as (λ o. get_or fixed l.variable None ≡ o → length (fixed_by l fixed) ≡ length fixed) [
      | None ↦ λ q. ap length (fixed_here l fixed q)
          ∙ length-set fixed l.variable (Some (not l.negated))
      | Some b ↦ λ q. ap length (fixed_there l fixed b q)
    ] refl
