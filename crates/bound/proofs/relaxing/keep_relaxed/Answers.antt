-- A clause with the next variable, and what was added with one more.
use Rattle.std.proofs.Common.{◌≡◌, ◌+◌, ◌*◌, ◌≤◌, List, [], ◌∷◌, ◌++◌, All, length, take}
use Rattle.std.proofs.Common.{length-take-le, true, false, arith, rules, sym, ◌∙◌, ap, subst}
use Rattle.cnf.specs.Literal.{Literal, positive}
use Rattle.cnf.specs.Instance.{IsClauseWithin}
use Rattle.adder.specs.Network.{relaxing_of}
use Rattle.bound.specs.Adding.{gets_variable}
use Rattle.cnf.specs.Marks.{HasPlace}
use Rattle.bound.proofs.Relaxations.{relaxed_no_repeat, relaxed_places, relaxed_fresh, relaxed_own}
use Rattle.bound.proofs.Relaxations.{soft_within, soft_more}
use Rattle.bound.proofs.relaxing.keep_relaxed.Goals as goal
use Rattle.bound.proofs.relaxing.keep_relaxed.Goals.{}
use Rattle.bound.proofs.relaxing.keep_relaxed.Goals.{}
use Rattle.bound.proofs.relaxing.keep_relaxed.Goals.{
  then-is_given_variable+in_ok-relaxed+in_ok-keep,
}
use Rattle.bound.proofs.relaxing.keep_relaxed.Goals.{else-is_given_variable}

pub keep-requires-clause-no_repeat : goal.keep-requires-clause-no_repeat
keep-requires-clause-no_repeat c =
    let vars = c.args.instance.now.variables in
    let ss = c.soft-soft-items.result.now in
    let s = c.soft-item.result in
    let all : All (λ x. IsClauseWithin vars x.clause) ss =
    rw (c.soft-soft-items.ensures) c.vars-last.ensures.limits.soft_clauses in
    let w = soft_within vars ss c.loop-soft.soft-index s all (search rules) c.soft-item.is in
    let lits : c.lits-lits.result.now ≡ s.clause =
    cc (c.lits-lits.ensures.lits, c.clause.ensures) in
    let text : c.deref.result.now ≡ s.clause ++ positive (c.loop-soft.last + 1) ∷ [] =
    c.deref.ensures.value ∙ c.in_ok-relaxed.ensures
    ∙ ap (λ x. x ++ positive (c.loop-soft.last + 1) ∷ []) lits in
    rw text (relaxed_no_repeat s.clause vars (c.loop-soft.last + 1) w.0 w
    (omega (arith, c.loop-soft.invariant.0.counted)))

pub keep-requires-clause-places : goal.keep-requires-clause-places
keep-requires-clause-places c =
    let vars = c.args.instance.now.variables in
    let ss = c.soft-soft-items.result.now in
    let s = c.soft-item.result in
    let all : All (λ x. IsClauseWithin vars x.clause) ss =
    rw (c.soft-soft-items.ensures) c.vars-last.ensures.limits.soft_clauses in
    let w = soft_within vars ss c.loop-soft.soft-index s all (search rules) c.soft-item.is in
    let lits : c.lits-lits.result.now ≡ s.clause =
    cc (c.lits-lits.ensures.lits, c.clause.ensures) in
    let text : c.deref.result.now ≡ s.clause ++ positive (c.loop-soft.last + 1) ∷ [] =
    c.deref.ensures.value ∙ c.in_ok-relaxed.ensures
    ∙ ap (λ x. x ++ positive (c.loop-soft.last + 1) ∷ []) lits in
    let i = c.loop-soft.soft-index in
    let before : length (take i ss) ≡ i = length-take-le i ss (search rules) in
    let same : length ss ≡ length c.args.instance.now.soft = ap length c.soft-soft-items.ensures in
    let room : 2 * (c.loop-soft.last + 1) ≤ length c.loop-soft.marks =
    omega (
      arith,
      c.loop-soft.invariant.0.few,
      before,
      same,
      c.requires,
      c.loop-soft.invariant.1,
      c.loop-soft-test.true,
    ) in
    let P : List Literal → Type 0 = λ x. All (HasPlace (length c.loop-soft.marks)) x in
    subst P (sym text) (relaxed_places s.clause vars (c.loop-soft.last + 1)
    (length c.loop-soft.marks) w (omega (arith, c.loop-soft.invariant.0.counted)) room)

pub loop-soft-preserved : goal.loop-soft-preserved
loop-soft-preserved c =
    let vars = c.args.instance.now.variables in
    let ss = c.soft-soft-items.result.now in
    let s = c.soft-item.result in
    let i = c.loop-soft.soft-index in
    let lits : c.lits-lits.result.now ≡ s.clause =
    cc (c.lits-lits.ensures.lits, c.clause.ensures) in
    let more : take (i + 1) ss ≡ take i ss ++ s ∷ [] =
    soft_more ss i s (search rules) c.soft-item.is in
    elim c.if-is_given_variable.branch [
      | then-is_given_variable+in_ok-relaxed+in_ok-keep w ↦
          let gets : gets_variable (relaxing_of c.args.profile) s.clause ≡ true =
          cc (lits, c.relaxing.ensures, c.is_given_variable.ensures, w.if-is_given_variable.true) in
          let text : w.deref.result.now ≡ s.clause ++ positive (c.loop-soft.last + 1) ∷ [] =
          w.deref.ensures.value ∙ w.in_ok-relaxed.ensures
          ∙ ap (λ x. x ++ positive (c.loop-soft.last + 1) ∷ []) lits in
          let added =
          relaxed_fresh (relaxing_of c.args.profile) vars (take i ss) s _ c.loop-soft.clauses
          c.loop-soft.last
          c.loop-soft.invariant.0 w.keep.new.clauses w.deref.result.now gets text
          w.in_ok-keep.ensures.clauses in
          rw (more, w.clauses-is, w.last-is, w.marks-is) (
            added,
            w.in_ok-keep.ensures.marks
                ∙ c.loop-soft.invariant.1,
          )
      | else-is_given_variable w ↦
          let gets : gets_variable (relaxing_of c.args.profile) s.clause ≡ false =
          cc (lits, c.relaxing.ensures, c.is_given_variable.ensures, w.if-is_given_variable.false)
          in
          let added =
          relaxed_own (relaxing_of c.args.profile) vars (take i ss) s _ c.loop-soft.clauses
          c.loop-soft.last
          c.loop-soft.invariant.0 gets in
          rw (more, w.clauses-is, w.last-is, w.marks-is) (added, c.loop-soft.invariant.1)
    ]
