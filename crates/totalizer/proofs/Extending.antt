-- The variables of stages can be given the values that they mean.
use Rattle.std.proofs.Common.{◌≡◌, ℕ, zero, suc, ◌+◌, ◌<◌, Bool, true, false, not}
use Rattle.std.proofs.Common.{List, [], ◌∷◌, ◌++◌, length, refl, sym, ◌∙◌, ap, arith, nat_le, subst}
use Rattle.std.proofs.Common.{◌/◌, take, drop}
use Rattle.std.specs.Prelude.{if◌then◌else◌}
use Rattle.cnf.specs.Literal.{Literal, Assignment, SameBelow, positive, literal_value, put}
use Rattle.cnf.proofs.Laws.{put_here, put_other}
use Rattle.totalizer.specs.Stages.{Tree, Leaf, Node, size_of, stage, stages}
use Rattle.totalizer.specs.Stages.{tree_of, tree_within, totalizer_of, true_leaves}
use Rattle.cnf.specs.Clause.{AreBelow}
use Rattle.totalizer.specs.Grown.{IsTreeBelow, AreUnary, MeansRight}
use Rattle.totalizer.proofs.Staging.{stage_takes, right_stage}
use Rattle.cnf.proofs.Laws.{below_more}
use Rattle.totalizer.proofs.Apart.{all_got}
use Rattle.totalizer.proofs.Variables.{stage_below, tree_below_more}
use Rattle.totalizer.proofs.Unary.{unary_push}
use Rattle.totalizer.proofs.Meaning.{stage_leaves}

-- agreement below n
literal_same : (n : ℕ) (t u : Assignment) (l : Literal) → SameBelow n t u → l.variable < n
    → literal_value u l ≡ literal_value t l
literal_same n t u l same low =
    ap (λ b. if l.negated then not b else b) (same l.variable low)

pub leaves_same : (n : ℕ) (t u : Assignment) (tree : Tree) → SameBelow n t u
    → IsTreeBelow n tree → true_leaves u tree ≡ true_leaves t tree
leaves_same n t u (Leaf l) same below =
    ap (λ b. if b then 1 else 0) (literal_same n t u l same below)
leaves_same n t u (Node a b own) same below =
    omega (
      arith,
      leaves_same n t u a same below.0,
      leaves_same n t u b same below.1,
    )

unary_same : (n : ℕ) (t u : Assignment) (xs : List Literal) (m : ℕ) → SameBelow n t u
    → AreBelow n xs → AreUnary t xs m → AreUnary u xs m
unary_same n t u xs m same below unary i l e =
    literal_same n t u l same (all_got (λ k. k.variable < n) xs i l below e) ∙ unary i l e

pub means_same : (n : ℕ) (t u : Assignment) (tree : Tree) → SameBelow n t u
    → IsTreeBelow n tree → MeansRight t tree → MeansRight u tree
means_same n t u (Leaf l) same below means = tt
means_same n t u (Node a b own) same below means =
    let count : true_leaves t a + true_leaves t b ≡ true_leaves u a + true_leaves u b =
    sym (leaves_same n t u (Node a b own) same below) in (
      means_same n t u a same below.0 means.0,
      means_same n t u b same below.1 means.1,
      subst (AreUnary u own) count
          (unary_same n t u own (true_leaves t a + true_leaves t b) same below.2 means.2),
    )

-- an assignment that agrees with t below v, and under which a tree's outputs mean what they should
pub record Extends (t : Assignment) (v : ℕ) (tree : Tree) : Type 0 where
  pub extended : Assignment
  pub same : SameBelow v t extended
  pub means : MeansRight extended tree

-- a variable that is new is given the value that it means
give_last : (w : Assignment) (r : ℕ) (a b : Tree) (own : List Literal) → IsTreeBelow r a
    → IsTreeBelow r b → AreBelow r own → MeansRight w (Node a b own)
    → Extends w r (Node a b (own ++ positive r ∷ []))
give_last w r a b own below_a below_b below means =
    let n = true_leaves w a + true_leaves w b in
    let value = nat_le (length own + 1) n in
    let u = put w r value in
    let same : SameBelow r w u = λ k low. put_other w r k value (λ e. omega arith) in
    let kept = means_same r w u (Node a b own) same (below_a, below_b, below) means in
    let leaves : n ≡ true_leaves u a + true_leaves u b =
    sym (leaves_same r w u (Node a b own) same (below_a, below_b, below)) in
    record {
      extended = u;
      same = same;
      means = (
        kept.0,
        kept.1,
        unary_push u own (positive r) (true_leaves u a + true_leaves u b) kept.2
            (put_here w r value ∙ ap (nat_le (length own + 1)) leaves),
      );
    }

-- the variables of a stage can be given such values, and those below them keep theirs
pub stage_extends : (t : Assignment) (h v : ℕ) (tree : Tree) → IsTreeBelow v tree
    → MeansRight t tree → Extends t v (stage h v tree).tree
stage_extends t h v (Leaf l) below means =
    record { extended = t; same = λ k low. refl; means = tt }
stage_extends t h v (Node a b own) below means =
    by (nat_le h (size_of a + size_of b)) refl (stage_extends t h v a below.0 means.0)
    (λ u. stage_extends u h (stage h v a).fresh b)
  where
    by : (x : Bool) → nat_le h (size_of a + size_of b) ≡ x → Extends t v (stage h v a).tree
        → ((u : Assignment) → IsTreeBelow (stage h v a).fresh b → MeansRight u b
        → Extends u (stage h v a).fresh (right_stage h v a b).tree)
        → Extends t v (stage h v (Node a b own)).tree
    by false e left right = rw e record { extended = t; same = λ k low. refl; means = means }
    by true e left right =
        let f = (stage h v a).fresh in
        let r = (right_stage h v a b).fresh in
        let na = (stage h v a).tree in
        let nb = (right_stage h v a b).tree in
        let from = (stage_takes h v a).from in
        let more = (stage_takes h f b).from in
        let b_below = tree_below_more v f b from below.1 in
        let u = left.extended in
        let second = right u b_below (means_same v t u b left.same below.1 means.1) in
        let w = second.extended in
        let both : SameBelow v t w =
        λ k low. second.same k (omega arith) ∙ left.same k low in
        let na_below = stage_below h v a below.0 in
        let nb_below = stage_below h f b b_below in
        let whole = means_same v t w (Node a b own) both below means in
        let count : true_leaves w a + true_leaves w b ≡ true_leaves w na + true_leaves w nb =
        omega (arith, stage_leaves w h v a, stage_leaves w h f b) in
        let third = give_last w r na nb own (tree_below_more f r na more na_below) nb_below
        (below_more v r own (omega arith) below.2) (
          means_same f u w na second.same na_below left.means,
          second.means,
          subst (AreUnary w own) count whole.2,
        ) in
        rw e record {
          extended = third.extended;
          same = λ k low. third.same k (omega arith) ∙ both k low;
          means = third.means;
        }

pub stages_extend : (t : Assignment) (count h v : ℕ) (tree : Tree) → IsTreeBelow v tree
    → MeansRight t tree → Extends t v (stages count h v tree).tree
stages_extend t zero h v tree below means =
    record { extended = t; same = λ k low. refl; means = means }
stages_extend t (suc count) h v tree below means =
    let first = stage h v tree in
    let from = (stage_takes h v tree).from in
    let one = stage_extends t h v tree below means in
    let rest = stages_extend one.extended count (h + 1) first.fresh first.tree
    (stage_below h v tree below) one.means in
    record {
      extended = rest.extended;
      same = λ k low. rest.same k (omega arith) ∙ one.same k low;
      means = rest.means;
    }

bare_within_means : (t : Assignment) (d : ℕ) (xs : List Literal) → MeansRight t (tree_within d xs)
bare_within_means t d [] = tt
bare_within_means t zero (x ∷ xs) = tt
bare_within_means t (suc d) (x ∷ []) = tt
bare_within_means t (suc d) (x ∷ y ∷ more) =
    let half = length (x ∷ y ∷ more) / 2 in (
      bare_within_means t d (take half (x ∷ y ∷ more)),
      bare_within_means t d (drop half (x ∷ y ∷ more)),
      λ i l e. absurd (cc),
    )

-- before the first stage
pub bare_means : (t : Assignment) (xs : List Literal) → MeansRight t (tree_of xs)
bare_means t xs = bare_within_means t (length xs) xs

pub totalizer_extends : (t : Assignment) (count v : ℕ) (xs : List Literal)
    → IsTreeBelow v (tree_of xs) → Extends t v (totalizer_of count v xs).tree
totalizer_extends t count v xs below =
    stages_extend t count 1 v (tree_of xs) below (bare_means t xs)
