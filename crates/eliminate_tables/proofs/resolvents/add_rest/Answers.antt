-- A literal and its negation.
use Rattle.std.proofs.Common.{◌≡◌, ◌∙◌, ◌+◌, sym, ap, not, true, false, rules, [], ◌∷◌, ◌++◌}
use Rattle.std.proofs.Common.{take, Vec, Global, append_assoc, append-nil}
use Rattle.std.specs.List.{list_any}
use Rattle.std.proofs.lemmas.Bool.{not-true, not-false}
use Rattle.std.proofs.lemmas.List.Folds.{list_any-append}
use Rattle.cnf.specs.Literal.{Literal, negation}
use Rattle.cnf.specs.Marks.{mark_of}
use Rattle.cnf.proofs.Laws.{literal_eq-sides, codes_differ, codes_agree}
use Rattle.eliminate_tables.specs.Resolvents.{unmarked_rest, clashes}
use Rattle.eliminate_tables.proofs.Built.{clash_at, rest_more, rest_one, rest_none, rest_marked}
use Rattle.eliminate_tables.proofs.resolvents.add_rest.Goals as goal
use Rattle.eliminate_tables.proofs.resolvents.add_rest.Goals.{
  then-ne+then-not-is_marked+else-is_marked+in_ok-push,
  else-ne,
}
use Rattle.eliminate_tables.proofs.resolvents.add_rest.Goals.{
  else-ne-via-then-ne+else-not-is_marked,
  else-ne-via-else-ne,
}

pub returns-then-is_marked-clause-plain : goal.returns-then-is_marked-clause-plain
returns-then-is_marked-clause-plain c =
    let ms = c.args.marks.now in
    let unmarked : mark_of ms c.lit-item.result ≡ false =
    sym c.is_marked.ensures ∙ c.if-not-is_marked.true in
    let clash : mark_of ms (negation c.lit-item.result) ≡ true =
    ap (mark_of ms) (sym c.negation.ensures) ∙ sym c.is_marked-then-not-is_marked.ensures
    ∙ c.if-is_marked.true in
    sym (ap not (clash_at ms c.args.left_out c.args.lits.now c.loop-lit.lit-index
    c.lit-item.result c.loop-lit-test.true c.lit-item.is
    (codes_differ c.lit-item.result c.args.left_out (search rules)) unmarked clash))

pub loop-lit-preserved : goal.loop-lit-preserved
loop-lit-preserved c =
    let ms = c.args.marks.now in
    let q = c.args.left_out in
    let l = c.lit-item.result in
    let old = c.args.out.now.items in
    let rest = unmarked_rest ms q (take c.loop-lit.lit-index c.args.lits.now) in
    let more =
    rest_more ms q c.args.lits.now c.loop-lit.lit-index l c.loop-lit-test.true c.lit-item.is in
    let is = c.loop-lit.invariant in
    elim c.if-ne.branch [
      | then-ne+then-not-is_marked+else-is_marked+in_ok-push w ↦
          let one : unmarked_rest ms q (l ∷ []) ≡ l ∷ [] =
          rest_one ms q l
          (literal_eq-sides l q (codes_differ l q (not-true _ (sym c.ne.ensures ∙ w.if-ne.true))))
          (sym w.is_marked.ensures ∙ w.if-not-is_marked.true) in
          let apart : mark_of ms (negation l) ≡ false =
          ap (mark_of ms) (sym w.negation.ensures) ∙ sym w.is_marked-then-not-is_marked.ensures
          ∙ w.if-is_marked.false in
          record {
            built =
                ap (λ (v : Vec Literal Global). v.items) w.out-is ∙ w.in_ok-push.ensures.items
                ∙ ap (λ xs. xs ++ l ∷ []) is.built ∙ append_assoc old rest (l ∷ [])
                ∙ ap (λ xs. old ++ xs) (ap (λ xs. rest ++ xs) (sym one) ∙ sym more);
            plain =
                ap (list_any (clashes ms)) (more ∙ ap (λ xs. rest ++ xs) one)
                ∙ list_any-append (clashes ms) rest (l ∷ []) ∙ rw (is.plain, apart);
          }
      | else-ne w ↦
          let none : unmarked_rest ms q (l ∷ []) ≡ [] = elim w.else-ne.branch [
            | else-ne-via-then-ne+else-not-is_marked w' ↦
                rest_marked ms q l (sym w'.is_marked.ensures ∙ w'.if-not-is_marked.false)
            | else-ne-via-else-ne w' ↦
                rest_none ms q l
                (codes_agree l q (not-false _ (sym c.ne.ensures ∙ w'.if-ne.false)))
          ] in
          let same : unmarked_rest ms q (take (c.loop-lit.lit-index + 1) c.args.lits.now)
          ≡ rest = more ∙ ap (λ xs. rest ++ xs) none ∙ append-nil rest in
          record {
            built =
                ap (λ (v : Vec Literal Global). v.items) w.out-is ∙ is.built
                ∙ ap (λ xs. old ++ xs) (sym same);
            plain = ap (list_any (clashes ms)) same ∙ is.plain;
          }
    ]
