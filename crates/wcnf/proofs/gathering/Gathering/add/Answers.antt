-- The clause with one more literal, and its marks.
use Rattle.wcnf.specs.declared.gathering.TheConstants.{UNMARKED_LENGTH}
use Rattle.std.proofs.Common.{◌≡◌, ◌<◌, ◌≤◌, ◌∙◌, false, length, ap, sym, subst, arith}
use Rattle.cnf.specs.Clause.{contains_literal}
use Rattle.wcnf.specs.Drafts.{Gathered}
use Rattle.cnf.specs.Marks.{IsMarked}
use Rattle.wcnf.proofs.Gathered.{marked-push}
use Rattle.wcnf.proofs.gathering.Gathering.add.Goals as goal

pub invariant_of-self-2 : goal.invariant_of-self-2
invariant_of-self-2 c =
    let s = c.self.inside in
    let marks = c.mark_last.new.marks in
    let covered : s.vars ≡ c.args.self.now.variables =
    ap (λ (g : Gathered). g.variables) c.self.view_is in
    let small : c.args.lit.variable ≤ s.vars = omega (arith, covered, c.requires.covered) in
    let fresh : contains_literal c.args.lit s.lits.items ≡ false =
    ap (λ (g : Gathered). contains_literal c.args.lit g.literals) c.self.view_is
    ∙ sym c.has.ensures ∙ c.if-has.false in
    let whole = c.deref.ensures.value ∙ c.in_ok-push.ensures.items in
    rw c.in_ok-push.ensures.items (marked-push s.vars s.marks marks s.lits.items c.args.lit
    c.self.invariant c.requires.from_one small fresh c.mark_last.ensures.len
    (λ h. subst (IsMarked marks) whole (c.mark_last.ensures.marked s.lits.items whole
    c.self.invariant.marked (subst (λ c. UNMARKED_LENGTH < length c) (sym whole) h))))
