-- What was built is the resolvent.
use Rattle.std.proofs.Common.{◌≡◌, ◌∙◌, ◌<◌, ◌++◌, length, ap, not}
use Rattle.std.specs.Prelude.{All}
use Rattle.std.specs.List.{list_any}
use Rattle.std.proofs.lemmas.List.Elements.{All-weaker}
use Rattle.cnf.specs.Literal.{Literal, negation}
use Rattle.cnf.specs.Clause.{without_literal}
use Rattle.cnf.specs.Marks.{HasPlace}
use Rattle.eliminate_tables.specs.Resolvents.{clashes, unmarked_rest}
use Rattle.eliminate_tables.proofs.Built.{rest_is, clash_is}
use Rattle.eliminate_tables.proofs.resolvents.resolve.Goals as goal

pub returns-clause-plain : goal.returns-clause-plain
returns-clause-plain c =
    let ms = c.mark_without.new.self in
    let some : All (λ (l : Literal). 0 < l.variable) c.args.second.now =
    All-weaker (HasPlace (length c.args.marks.now)) (λ (l : Literal). 0 < l.variable) (λ l h. h.0)
    c.args.second.now c.requires.second in
    c.in_ok-plain.ensures.plain
    ∙ ap (λ q. not (list_any (clashes ms) (unmarked_rest ms q c.args.second.now)))
    c.negation.ensures
    ∙ ap not (clash_is ms c.args.pivot c.args.first.now c.args.second.now
    c.mark_without.ensures.marked some c.requires.plain_first c.requires.plain_second)

pub returns-clause-built : goal.returns-clause-built
returns-clause-built c h =
    let ms = c.mark_without.new.self in
    let p = c.args.pivot in
    let first = c.args.first.now in
    let second = c.args.second.now in
    let some : All (λ (l : Literal). 0 < l.variable) second =
    All-weaker (HasPlace (length c.args.marks.now)) (λ (l : Literal). 0 < l.variable) (λ l h. h.0)
    second c.requires.second in
    let others : c.add_others.new.out.items ≡ without_literal p first = c.in_ok-add_others.ensures
    ∙ ap (λ xs. xs ++ without_literal p first) c.clear.ensures.items in
    c.in_ok-plain.ensures.built h
    ∙ ap (λ xs. xs ++ unmarked_rest ms c.negation.result second) others
    ∙ ap (λ q. without_literal p first ++ unmarked_rest ms q second) c.negation.ensures
    ∙ ap (λ xs. without_literal p first ++ xs)
    (rest_is ms (without_literal p first) (negation p) second c.mark_without.ensures.marked some)
