-- A code of trees: their nodes in a list, each behind its halves.
use Rattle.std.specs.Prelude.{◌≡◌, ◌⊎◌, List, [], ◌∷◌, ◌++◌, refl}
use Rattle.std.specs.Coded.{Coded, code_by, coded_list, coded⊎, coded×, coded_ℕ, coded_bool}
use Rattle.std.proofs.Common.{inl, inr, ◌∙◌, append_assoc, ap, sym}
use Rattle.std.proofs.lemmas.List.{append-nil}
use Rattle.cnf.specs.Literal.{Literal, positive}
use Rattle.totalizer.specs.Stages.{Tree, Leaf, Node}

abbrev literal_code : Coded Literal
literal_code =
    code_by (_ × _) (coded× coded_ℕ coded_bool) (λ l. (l.variable, l.negated))
    (λ p. record { variable = p.0; negated = p.1 }) (λ _. refl)

-- a leaf, or the outputs of an inner node
abbrev Mark : Type 0
Mark = Literal ⊎ List Literal

abbrev marks_of : Tree → List Mark
marks_of (Leaf l) = inl l ∷ []
marks_of (Node a b outputs) = marks_of a ++ (marks_of b ++ (inr outputs ∷ []))

-- the trees of these marks on top of those that are there, the last one first
abbrev trees_from : List Mark → List Tree → List Tree
trees_from [] trees = trees
trees_from (inl l ∷ marks) trees = trees_from marks (Leaf l ∷ trees)
trees_from (inr outputs ∷ marks) [] = []
trees_from (inr outputs ∷ marks) (b ∷ []) = []
trees_from (inr outputs ∷ marks) (b ∷ a ∷ trees) = trees_from marks (Node a b outputs ∷ trees)

abbrev pub first_tree : List Tree → Tree
first_tree [] = Leaf (positive 0)
first_tree (t ∷ trees) = t

trees_from-marks : (t : Tree) (marks : List Mark) (trees : List Tree)
    → trees_from (marks_of t ++ marks) trees ≡ trees_from marks (t ∷ trees)
trees_from-marks (Leaf l) marks trees = refl
trees_from-marks (Node a b outputs) marks trees =
    ap (λ m. trees_from m trees)
    (append_assoc (marks_of a) (marks_of b ++ (inr outputs ∷ [])) marks
    ∙ ap (λ m. marks_of a ++ m) (append_assoc (marks_of b) (inr outputs ∷ []) marks))
    ∙ trees_from-marks a (marks_of b ++ (inr outputs ∷ marks)) trees
    ∙ trees_from-marks b (inr outputs ∷ marks) (a ∷ trees)

pub back : (t : Tree) → first_tree (trees_from (marks_of t) []) ≡ t
back t =
    ap (λ m. first_tree (trees_from m [])) (sym (append-nil (marks_of t)))
    ∙ ap first_tree (trees_from-marks t [] [])

abbrev pub tree_code : Coded Tree
tree_code =
    code_by (List Mark) (coded_list (coded⊎ literal_code (coded_list literal_code))) marks_of
    (λ m. first_tree (trees_from m [])) back
