-- One literal more, which is of the pair or not.
use Rattle.std.proofs.Common.{◌≡◌, ℕ, ◌+◌, ◌<◌, true, false, not, List, [], ◌∷◌, ◌++◌, length, take}
use Rattle.std.proofs.Common.{get_or, Vec, Global, refl, sym, ◌∙◌, ap, append-nil}
use Rattle.std.specs.Prelude.{if◌then◌else◌}
use Rattle.std.proofs.lemmas.Bool.{not-true, not-false}
use Rattle.std.proofs.lemmas.List.{take_more}
use Rattle.std.proofs.lemmas.List.Elements.{filter-append}
use Rattle.cnf.specs.Literal.{Literal, literal_eq}
use Rattle.cnf.specs.Clause.{without_literal}
use Rattle.eliminate_pairs.specs.Pairs.{positive, replaced}
use Rattle.cnf.proofs.Laws.{codes_agree, codes_differ, literal_eq-sides}
use Rattle.eliminate_pairs.proofs.pairs.replaced_lits.Goals as goal
use Rattle.eliminate_pairs.proofs.pairs.replaced_lits.Goals.{
  then-ne+then-ne-2+in_ok-push-2,
  else-ne,
  else-ne-via-then-ne+else-ne-2,
  else-ne-via-else-ne,
}

more_replaced : (z : ℕ) (a b : Literal) (c : List Literal) (i : ℕ) (l : Literal) → i < length c
    → l ≡ get_or c i l → replaced z a b (take (i + 1) c)
    ≡ replaced z a b (take i c) ++ without_literal b (without_literal a (l ∷ []))
more_replaced z a b c i l lt is =
    ap (replaced z a b) (take_more c i l lt ∙ ap (λ x. take i c ++ x ∷ []) (sym is))
    ∙ ap (λ x. positive z ∷ without_literal b x)
    (filter-append (λ k. not (literal_eq a k)) (take i c) (l ∷ []))
    ∙ ap (λ x. positive z ∷ x)
    (filter-append (λ k. not (literal_eq b k)) (without_literal a (take i c))
    (without_literal a (l ∷ [])))

of_neither : (a b l : Literal) → literal_eq a l ≡ false → literal_eq b l ≡ false
    → without_literal b (without_literal a (l ∷ [])) ≡ l ∷ []
of_neither a b l e f = rw (e, f)

is_left : (a b l : Literal) → literal_eq a l ≡ true
    → without_literal b (without_literal a (l ∷ [])) ≡ []
is_left a b l e = rw e

is_right : (a b l : Literal) → literal_eq b l ≡ true
    → without_literal b (without_literal a (l ∷ [])) ≡ []
is_right a b l e =
    elim (literal_eq a l) as (λ t. without_literal b (if not t then l ∷ [] else []) ≡ []) [
      | true ↦ refl
      | false ↦ rw e
    ]

pub loop-lit-preserved : goal.loop-lit-preserved
loop-lit-preserved c =
    let d = c.args.definition.now in
    let l = c.lit-item.result in
    let old = replaced d.variable d.left d.right (take c.loop-lit.lit-index c.args.lits.now) in
    let more =
    more_replaced d.variable d.left d.right c.args.lits.now c.loop-lit.lit-index l
    c.loop-lit-test.true c.lit-item.is in
    elim c.if-ne.branch [
      | then-ne+then-ne-2+in_ok-push-2 w ↦
          ap (λ (v : Vec Literal Global). v.items) w.left-is ∙ w.in_ok-push-2.ensures.items
          ∙ ap (λ xs. xs ++ l ∷ []) c.loop-lit.invariant
          ∙ ap (λ xs. old ++ xs) (sym (of_neither d.left d.right l
          (literal_eq-sides l d.left
          (codes_differ l d.left (not-true _ (sym c.ne.ensures ∙ w.if-ne.true))))
          (literal_eq-sides l d.right
          (codes_differ l d.right (not-true _ (sym w.ne-then-ne.ensures ∙ w.if-ne-2.true))))))
          ∙ sym more
      | else-ne w ↦
          let none : without_literal d.right (without_literal d.left (l ∷ [])) ≡ [] =
          elim w.else-ne.branch [
            | else-ne-via-then-ne+else-ne-2 w' ↦
                is_right d.left d.right l
                (codes_agree l d.right (not-false _ (sym w'.ne-then-ne.ensures
                ∙ w'.if-ne-2.false)))
            | else-ne-via-else-ne w' ↦
                is_left d.left d.right l
                (codes_agree l d.left (not-false _ (sym c.ne.ensures ∙ w'.if-ne.false)))
          ] in
          ap (λ (v : Vec Literal Global). v.items) w.left-is ∙ c.loop-lit.invariant
          ∙ sym (more ∙ ap (λ xs. old ++ xs) none ∙ append-nil old)
    ]
