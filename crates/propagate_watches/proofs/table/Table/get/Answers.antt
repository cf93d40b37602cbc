use Rattle.std.proofs.Common.{◌<◌, ◌≤◌, length, refl, ◌∙◌, ap, arith}
use Rattle.propagate_watches.specs.Table.{attachment_in}
use Rattle.propagate_watches.proofs.Zipped.{attachments_past, attachments_tag, attachments_pair}
use Rattle.propagate_watches.proofs.table.Table.get.Goals as goal

pub returns-then-reference-len : goal.returns-then-reference-len
returns-then-reference-len c =
    let i = c.self.inside in
    let past : length i.tags.items ≤ c.args.reference =
    omega (arith, c.len.ensures, i.tags.ok.0, c.if-reference-len.true) in
    attachments_past i.tags.items i.pairs.items c.args.reference c.self.invariant past
    ∙ ap (λ t. attachment_in t c.args.reference) c.self.view_is

pub returns-in-Detached : goal.returns-in-Detached
returns-in-Detached c =
    let within : c.args.reference < length c.self.inside.tags.items =
    omega (arith, c.len.ensures, c.self.inside.tags.ok.0, c.if-reference-len.false) in
    attachments_tag c.self.inside.tags.items c.self.inside.pairs.items c.args.reference
    c.index.result.now _ _ c.self.invariant within c.index.ensures c.in-Detached.is (λ p. refl)
    ∙ ap (λ t. attachment_in t c.args.reference) c.self.view_is

pub returns-in-Waiting : goal.returns-in-Waiting
returns-in-Waiting c =
    let within : c.args.reference < length c.self.inside.tags.items =
    omega (arith, c.len.ensures, c.self.inside.tags.ok.0, c.if-reference-len.false) in
    attachments_tag c.self.inside.tags.items c.self.inside.pairs.items c.args.reference
    c.index.result.now _ _ c.self.invariant within c.index.ensures c.in-Waiting.is (λ p. refl)
    ∙ ap (λ t. attachment_in t c.args.reference) c.self.view_is

pub returns-in-Satisfied : goal.returns-in-Satisfied
returns-in-Satisfied c =
    let within : c.args.reference < length c.self.inside.tags.items =
    omega (arith, c.len.ensures, c.self.inside.tags.ok.0, c.if-reference-len.false) in
    attachments_tag c.self.inside.tags.items c.self.inside.pairs.items c.args.reference
    c.index.result.now _ _ c.self.invariant within c.index.ensures c.in-Satisfied.is (λ p. refl)
    ∙ ap (λ t. attachment_in t c.args.reference) c.self.view_is

pub returns-in-Watching : goal.returns-in-Watching
returns-in-Watching c =
    let within : c.args.reference < length c.self.inside.tags.items =
    omega (arith, c.len.ensures, c.self.inside.tags.ok.0, c.if-reference-len.false) in
    attachments_pair c.self.inside.tags.items c.self.inside.pairs.items c.args.reference
    c.index.result.now c.index-in-Watching.result.now c.self.invariant within c.index.ensures
    c.in-Watching.is c.index-in-Watching.ensures
    ∙ ap (λ t. attachment_in t c.args.reference) c.self.view_is
