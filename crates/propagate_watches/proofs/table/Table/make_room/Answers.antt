use Rattle.std.proofs.Common.{◌≡◌, ◌+◌, ◌-◌, ◌++◌, true, not, ◌≤◌, length, replicate, sym, ◌∙◌, ap}
use Rattle.std.proofs.Common.{arith}
use Rattle.std.specs.Result.{is_ok}
use Rattle.std.proofs.lemmas.Bool.{cond-true}
use Rattle.std.proofs.lemmas.List.{append-nil}
use Rattle.clauses.proofs.Laws.{length-zipped}
use Rattle.propagate_watches.specs.declared.table.Attachment.TheVariants.{Detached}
use Rattle.propagate_watches.specs.declared.table.Tag.TheVariants.{Detached as Nothing}
use Rattle.propagate_watches.specs.declared.table.Rest.TheVariants.{Nothing as NoRest}
use Rattle.propagate_watches.specs.TableLayout.{attachment_of}
use Rattle.propagate_watches.proofs.Zipped.{attachments_grow, grown_by}
use Rattle.propagate_watches.proofs.table.Table.make_room.Goals as goal

pub returns-then-len-index-clause-ok : goal.returns-then-len-index-clause-ok
returns-then-len-index-clause-ok c =
    let i = c.self.inside in
    let none : c.args.reference + 1 - length c.args.self.now ≡ 0 =
    omega (
      arith,
      c.if-len-index.true,
      c.index.ensures,
      c.len-len.ensures,
      i.tags.ok.0,
      ap length c.self.view_is,
      length-zipped attachment_of i.tags.items i.pairs.items c.self.invariant,
    ) in
    rw none (sym (append-nil c.args.self.now))

pub returns-clause-ok : goal.returns-clause-ok
returns-clause-ok c =
    let i = c.self.inside in
    let r = c.args.reference in
    let short : length i.tags.items ≤ r =
    omega (arith, c.if-len-index.false, c.index.ensures, c.len-len.ensures, i.tags.ok.0) in
    let same : length c.args.self.now ≡ length i.tags.items = sym (ap length c.self.view_is)
    ∙ length-zipped attachment_of i.tags.items i.pairs.items c.self.invariant in
    let n = r + 1 - length c.args.self.now in
    let ok : is_ok c.resize-2.result ≡ true = c.is_err.ensures.negation
    ∙ ap not c.if-is_err.false in
    let tags : c.resize.new.self.items ≡ i.tags.items ++ replicate n Nothing =
    c.in_ok-resize.ensures.items
    ∙ grown_by _ _ r _ _ Nothing c.index-2.ensures (omega (arith, i.tags.ok.0, same)) short in
    let pairs : c.resize-2.new.self.items ≡ i.pairs.items ++ replicate n
    (record { one = c.new-none.result; other = c.new-none.result; rest = NoRest }) =
    c.resize-2.ensures.items ∙ cond-true (is_ok c.resize-2.result) _ _ ok
    ∙ grown_by _ _ r _ _ _ c.index-3.ensures (omega (arith, i.pairs.ok.0, c.self.invariant, same))
    (omega (arith, c.self.invariant)) in
    rw (tags, pairs) (attachments_grow i.tags.items i.pairs.items n Nothing _ c.self.invariant
    ∙ ap (λ t. t ++ replicate n Detached) c.self.view_is)
