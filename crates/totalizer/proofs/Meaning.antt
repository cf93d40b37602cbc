-- Where the outputs mean what they should, the clauses of stages are true.
use Rattle.std.proofs.Common.{◌≡◌, ℕ, zero, suc, ◌+◌, ◌-◌, ◌<◌, ◌≤◌, Bool, true, false}
use Rattle.std.proofs.Common.{List, [], ◌∷◌, ◌++◌, length, refl, sym, ◌∙◌, arith, nat_le, subst}
use Rattle.std.specs.Prelude.{Option, Some, None, slice_get}
use Rattle.std.specs.List.{AllByRecursion, list_any}
use Rattle.std.proofs.lemmas.Bool.{leb-true, leb-false, le-leb, lt-leb, or_left, or_right}
use Rattle.std.proofs.lemmas.List.Folds.{list_any-append}
use Rattle.std.proofs.lemmas.Option.{slice_get_within}
use Rattle.cnf.specs.Literal.{Literal, Assignment, positive, negative, negation, literal_value}
use Rattle.cnf.specs.Clause.{Satisfies, clause_value}
use Rattle.cnf.proofs.Laws.{all_append, negation-value}
use Rattle.totalizer.specs.Stages.{Tree, Leaf, Node, size_of, outputs_of, stage, stages}
use Rattle.totalizer.specs.Stages.{tree_of, order_clause, sum_clause, sum_clauses}
use Rattle.totalizer.specs.Stages.{unless_at_least, totalizer_of, true_leaves}
use Rattle.totalizer.specs.Grown.{HasStages, AreUnary, MeansRight}
use Rattle.totalizer.proofs.Staging.{right_stage}
use Rattle.totalizer.proofs.Growing.{stage_has, bare_has}
use Rattle.totalizer.proofs.Unary.{outputs_unary, unary_front, unary_last}

-- what is listed unless there are i is true where there are fewer
module _ (t : Assignment) (xs : List Literal) (n : ℕ) (unary : AreUnary t xs n) where
  unless_true : (i : ℕ) (p : List Literal) → unless_at_least xs i ≡ Some p → n < i
      → clause_value t p ≡ true
  unless_true zero p e few = absurd (omega arith)
  unless_true (suc i) p e few = by (slice_get xs i) refl
    where
      by : (o : Option Literal) → slice_get xs i ≡ o → clause_value t p ≡ true
      by None g =
          let none : unless_at_least xs (suc i) ≡ None = rw g refl in
          absurd (cc)
      by (Some l) g =
          let some : unless_at_least xs (suc i) ≡ Some (negation l ∷ []) = rw g refl in
          let same : negation l ∷ [] ≡ p = cc in
          let off : nat_le (i + 1) n ≡ false = lt-leb (i + 1) n (omega arith) in
          let value = negation-value t l (unary i l g ∙ off) in
          subst (λ c. clause_value t c ≡ true) same (rw value refl)

-- the clauses of a sum, where a new variable means that there are i + j leaves together
module _ (t : Assignment) (left right : List Literal) (v n m : ℕ) (in_left : AreUnary t left n)
    (in_right : AreUnary t right m) where
  sum_true : (i j : ℕ) → (i + j ≤ n + m → t v ≡ true)
      → AllByRecursion (Satisfies t) (sum_clause left right v i j)
  sum_true i j enough = by (unless_at_least left i) (unless_at_least right j) refl refl
    where
      reads : Literal → Bool
      reads = literal_value t

      parts : (p q : List Literal) → unless_at_least left i ≡ Some p
          → unless_at_least right j ≡ Some q → (x y : Bool) → nat_le i n ≡ x → nat_le j m ≡ y
          → Satisfies t (p ++ q ++ positive v ∷ [])
      parts p q e f false y g k =
          let first = unless_true t left n in_left i p e (leb-false i n g) in
          let both = or_left (list_any reads p) (list_any reads q) first in
          list_any-append reads (p ++ q) (positive v ∷ [])
          ∙ or_left (list_any reads (p ++ q)) _ (list_any-append reads p q ∙ both)
      parts p q e f true false g k =
          let second = unless_true t right m in_right j q f (leb-false j m k) in
          let both = or_right (list_any reads p) (list_any reads q) second in
          list_any-append reads (p ++ q) (positive v ∷ [])
          ∙ or_left (list_any reads (p ++ q)) _ (list_any-append reads p q ∙ both)
      parts p q e f true true g k =
          let a = leb-true i n g in
          let b = leb-true j m k in
          let holds = enough (omega arith) in
          list_any-append reads (p ++ q) (positive v ∷ [])
          ∙ or_right (list_any reads (p ++ q)) _ (or_left (t v) false holds)

      by : (o r : Option (List Literal)) → unless_at_least left i ≡ o
          → unless_at_least right j ≡ r
          → AllByRecursion (Satisfies t) (sum_clause left right v i j)
      by None r e f = rw e tt
      by (Some p) None e f = rw (e, f) tt
      by (Some p) (Some q) e f =
          rw (e, f) (parts p q e f (nat_le i n) (nat_le j m) refl refl, tt)

  sums_true : (i j : ℕ) → (i + j ≤ n + m → t v ≡ true)
      → AllByRecursion (Satisfies t) (sum_clauses left right v i j)
  sums_true i zero enough = sum_true i 0 enough
  sums_true i (suc j) enough =
      all_append (Satisfies t) (sum_clause left right v i (suc j))
      (sum_clauses left right v (i + 1) j) (sum_true i (suc j) enough)
      (sums_true (i + 1) j (λ few. enough (omega arith)))

-- the last variable implies the one before
order_true : (t : Assignment) (own : List Literal) (v n : ℕ)
    → AreUnary t (own ++ positive v ∷ []) n
    → AllByRecursion (Satisfies t) (order_clause own v)
order_true t own v n unary = by (slice_get own (length own - 1)) refl
  where
    value : (l : Literal) → slice_get own (length own - 1) ≡ Some l → (x y : Bool)
        → literal_value t l ≡ x → t v ≡ y → Satisfies t (negative v ∷ l ∷ [])
    value l e x false g f = rw f refl
    value l e true true g f = rw (f, g) refl
    value l e false true g f =
        let within = slice_get_within own (length own - 1) l e in
        let low = unary_front t own (positive v) n unary (length own - 1) l e in
        let high = unary_last t own (positive v) n unary in
        let more = leb-true (length own + 1) n (sym high ∙ f) in
        let less = leb-false (length own - 1 + 1) n (sym low ∙ g) in
        absurd (omega arith)

    by : (o : Option Literal) → slice_get own (length own - 1) ≡ o
        → AllByRecursion (Satisfies t) (order_clause own v)
    by None e = rw e tt
    by (Some l) e = rw e (value l e (literal_value t l) (t v) refl refl, tt)

-- the next stage
pub stage_true : (t : Assignment) (h v : ℕ) (tree : Tree) → HasStages h tree
    → MeansRight t (stage (h + 1) v tree).tree
    → AllByRecursion (Satisfies t) (stage (h + 1) v tree).clauses
stage_true t h v (Leaf l) has means = tt
stage_true t h v (Node a b own) has means =
    by (nat_le (h + 1) (size_of a + size_of b)) refl (stage_true t h v a has.0)
    (stage_true t h (stage (h + 1) v a).fresh b has.1) means
  where
    by : (x : Bool) → nat_le (h + 1) (size_of a + size_of b) ≡ x
        → (MeansRight t (stage (h + 1) v a).tree
        → AllByRecursion (Satisfies t) (stage (h + 1) v a).clauses)
        → (MeansRight t (right_stage (h + 1) v a b).tree
        → AllByRecursion (Satisfies t) (right_stage (h + 1) v a b).clauses)
        → MeansRight t (stage (h + 1) v (Node a b own)).tree
        → AllByRecursion (Satisfies t) (stage (h + 1) v (Node a b own)).clauses
    by false e true_left true_right means = rw e tt
    by true e true_left true_right means =
        let left = stage (h + 1) v a in
        let right = right_stage (h + 1) v a b in
        let r = right.fresh in
        let many = leb-true (h + 1) (size_of a + size_of b) e in
        let parts : MeansRight t (Node left.tree right.tree (own ++ positive r ∷ [])) =
        rw e at means in
        let n = true_leaves t left.tree in
        let m = true_leaves t right.tree in
        let last = unary_last t own (positive r) (n + m) parts.2 in
        let enough : 0 + (h + 1) ≤ n + m → t r ≡ true =
        λ few. last ∙ le-leb (length own + 1) (n + m) (omega (arith, has.2)) in
        let sums = sum_clauses (outputs_of left.tree) (outputs_of right.tree) r 0 (h + 1) in
        let P = Satisfies t in
        rw e (all_append P (left.clauses ++ right.clauses ++ sums) (order_clause own r)
        (all_append P (left.clauses ++ right.clauses) sums
        (all_append P left.clauses right.clauses (true_left parts.0) (true_right parts.1))
        (sums_true t (outputs_of left.tree) (outputs_of right.tree) r n m
        (outputs_unary t left.tree parts.0) (outputs_unary t right.tree parts.1) 0 (h + 1) enough))
        (order_true t own r (n + m) parts.2))

-- a stage keeps the leaves
pub stage_leaves : (t : Assignment) (h v : ℕ) (tree : Tree)
    → true_leaves t (stage h v tree).tree ≡ true_leaves t tree
stage_leaves t h v (Leaf l) = refl
stage_leaves t h v (Node a b own) =
    by (nat_le h (size_of a + size_of b)) refl (stage_leaves t h v a)
    (stage_leaves t h (stage h v a).fresh b)
  where
    by : (x : Bool) → nat_le h (size_of a + size_of b) ≡ x
        → true_leaves t (stage h v a).tree ≡ true_leaves t a
        → true_leaves t (right_stage h v a b).tree ≡ true_leaves t b
        → true_leaves t (stage h v (Node a b own)).tree ≡ true_leaves t a + true_leaves t b
    by true e left right = rw e (omega (arith, left, right))
    by false e left right = rw e refl

-- what the outputs mean after a stage, those before it mean
pub stage_means_back : (t : Assignment) (h v : ℕ) (tree : Tree)
    → MeansRight t (stage h v tree).tree → MeansRight t tree
stage_means_back t h v (Leaf l) means = tt
stage_means_back t h v (Node a b own) means =
    by (nat_le h (size_of a + size_of b)) refl (stage_means_back t h v a)
    (stage_means_back t h (stage h v a).fresh b) means
  where
    by : (x : Bool) → nat_le h (size_of a + size_of b) ≡ x
        → (MeansRight t (stage h v a).tree → MeansRight t a)
        → (MeansRight t (right_stage h v a b).tree → MeansRight t b)
        → MeansRight t (stage h v (Node a b own)).tree → MeansRight t (Node a b own)
    by false e left right means = rw e at means
    by true e left right means =
        let f = (stage h v a).fresh in
        let r = (right_stage h v a b).fresh in
        let parts : MeansRight t (Node (stage h v a).tree (right_stage h v a b).tree
        (own ++ positive r ∷ [])) = rw e at means in
        let same : true_leaves t (stage h v a).tree + true_leaves t (right_stage h v a b).tree
        ≡ true_leaves t a + true_leaves t b =
        omega (arith, stage_leaves t h v a, stage_leaves t h f b) in (
          left parts.0,
          right parts.1,
          unary_front t own (positive r) (true_leaves t a + true_leaves t b)
              (subst (AreUnary t (own ++ positive r ∷ [])) same parts.2),
        )

-- several stages
pub stages_leaves : (t : Assignment) (count h v : ℕ) (tree : Tree)
    → true_leaves t (stages count h v tree).tree ≡ true_leaves t tree
stages_leaves t zero h v tree = refl
stages_leaves t (suc count) h v tree =
    let first = stage h v tree in
    stages_leaves t count (h + 1) first.fresh first.tree ∙ stage_leaves t h v tree

pub stages_mean_back : (t : Assignment) (count h v : ℕ) (tree : Tree)
    → MeansRight t (stages count h v tree).tree → MeansRight t tree
stages_mean_back t zero h v tree means = means
stages_mean_back t (suc count) h v tree means =
    let first = stage h v tree in
    stage_means_back t h v tree (stages_mean_back t count (h + 1) first.fresh first.tree means)

pub stages_true : (t : Assignment) (count h v : ℕ) (tree : Tree) → HasStages h tree
    → MeansRight t (stages count (h + 1) v tree).tree
    → AllByRecursion (Satisfies t) (stages count (h + 1) v tree).clauses
stages_true t zero h v tree has means = tt
stages_true t (suc count) h v tree has means =
    let first = stage (h + 1) v tree in
    let more = stages count (h + 1 + 1) first.fresh first.tree in
    all_append (Satisfies t) first.clauses more.clauses
    (stage_true t h v tree has
    (stages_mean_back t count (h + 1 + 1) first.fresh first.tree means))
    (stages_true t count (h + 1) first.fresh first.tree (stage_has h v tree has) means)

-- a totalizer
pub totalizer_true : (t : Assignment) (count v : ℕ) (xs : List Literal)
    → MeansRight t (totalizer_of count v xs).tree
    → AllByRecursion (Satisfies t) (totalizer_of count v xs).clauses
totalizer_true t count v xs = stages_true t count 0 v (tree_of xs) (bare_has xs)
