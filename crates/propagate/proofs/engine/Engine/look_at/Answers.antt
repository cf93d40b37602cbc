use Rattle.std.proofs.Common.{◌≡◌, true, false, None, Some, sym, ap, subst, ◌∙◌, arith}
use Rattle.std.proofs.lemmas.Bool.{true≢false}
use Rattle.cnf.specs.Clause.{contains_literal}
use Rattle.propagate_watches.specs.Table.{attachment_in, IsWatchedBy}
use Rattle.propagate_trail.specs.Trail.{value_in}
use Rattle.propagate.specs.Watches.{EngineState}
use Rattle.propagate.proofs.Looking.{within_variable, same_other, open_left, unit_left, false_left}
use Rattle.propagate.proofs.engine.Engine.look_at.Goals as goal

pub is_true-requires : goal.is_true-requires
is_true-requires c =
    omega (
      arith,
      (within_variable c.args.self.now.variables c.requires.clause c.args.entry.blocker
          c.requires.within c.requires.blocker).1,
      ap (λ (x : EngineState). x.variables) c.self.view_is,
    )

pub beside-requires-clause-watched : goal.beside-requires-clause-watched
beside-requires-clause-watched c = (
  c.args.falsified,
  c.requires,
  subst (λ (x : EngineState). IsWatchedBy (attachment_in x.watches.table c.args.entry.reference)
      c.args.falsified c.other.result.0) c.self.view_is c.other.ensures.other,
)

pub returns-in-None-2 : goal.returns-in-None-2
returns-in-None-2 c =
    let now = c.args.self.now in
    let o = c.other.result.0 in
    let by =
    subst (λ (x : EngineState). IsWatchedBy (attachment_in x.watches.table c.args.entry.reference)
    c.args.falsified o) c.self.view_is c.other.ensures.other in
    let so : o ≡ c.requires.other =
    same_other (attachment_in now.watches.table c.args.entry.reference) c.args.falsified
    c.requires.other o c.requires.apart c.requires.attachment by in
    let member : contains_literal o c.requires.clause ≡ true =
    subst (λ x. contains_literal x c.requires.clause ≡ true) (sym so) c.requires.member in
    let T = now.trail in
    let trail = ap (λ (x : EngineState). x.trail) c.self.view_is in
    let e : value_in T o ≡ None =
    subst (λ X. value_in X o ≡ None) trail
    (open_left _ (λ t. true≢false (sym (c.is_true-2.ensures.1 t) ∙ c.if-is_true-2.false))
    (λ f. true≢false (sym (c.is_false.ensures.1 f) ∙ c.if-is_false.false))) in (
      e,
      (within_variable now.variables c.requires.clause o c.requires.within member).1,
      λ d live. let sd : c.requires.clause ≡ d = cc (c.requires.live, live) in
          unit_left T d o (subst (λ x. contains_literal o x ≡ true) sd member) e
          (c.in-None-2.ensures d live),
    )

pub returns-in-None : goal.returns-in-None
returns-in-None c =
    let o = c.other.result.0 in
    let T = c.args.self.now.trail in
    let trail = ap (λ (x : EngineState). x.trail) c.self.view_is in
    let e : value_in T o ≡ Some false =
    subst (λ X. value_in X o ≡ Some false) trail (c.is_false.ensures.0 c.if-is_false.true) in
    λ d live. false_left T d o e (c.in-None.ensures d live)
