use Rattle.std.proofs.Common.{◌≡◌, length, take, sym, ◌∙◌, ap}
use Rattle.std.proofs.lemmas.List.{with_items_is}
use Rattle.reconstruction.specs.Removals.{extended}
use Rattle.reconstruction.proofs.Laws.{length-extended}
use Rattle.cdcl.proofs.answers.set_eliminated.Goals as goal

pub returns : goal.returns
returns c =
    let p = c.args.input.now in
    let old = c.args.bits.now in
    let removed = p.stack.removed in
    let set : c.extend.new.bits ≡ extended removed old.items =
    c.extend.ensures.set ∙ ap (extended removed) c.deref_mut.ensures.value in
    let long : length c.extend.new.bits ≡ old.len =
    ap length set ∙ length-extended removed old.items ∙ sym old.ok.0 in
    c.truncate.ensures.items
    ∙ ap (take c.len.result) (with_items_is old c.extend.new.bits long ∙ set)
    ∙ ap (λ k. take k (extended removed old.items)) (c.len.ensures ∙ p.frozen.ok.0)
