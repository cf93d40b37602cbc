use Rattle.std.proofs.Common.{◌≡◌, ℕ, ◌<◌, ◌∷◌, [], ◌++◌, ◌∙◌, List, ap, subst, sym}
use Rattle.std.specs.Prelude.{All}
use Rattle.std.proofs.lemmas.Bool.{cond-false}
use Rattle.cnf.specs.Literal.{Literal}
use Rattle.lrat_live.specs.Listed.{IsRising}
use Rattle.lrat_live.specs.Near.{NearParts}
use Rattle.lrat_live.proofs.LiveLaws.{all_second, all_front, rising_second}
use Rattle.lrat_live.proofs.live.put.Goals as goal
use Rattle.lrat_live.proofs.live.put.Goals.{Else-branch}

pub push-requires : goal.push-requires
push-requires c =
    let near = c.args.near.now in
    let far = c.args.far.now in
    let P = λ (e : ℕ × List Literal). e.0 < c.args.id in
    record {
      rising = subst (λ (m : NearParts). All P m.recent) (sym c.reclaim.ensures.unchanged)
          (all_second P far near.recent
          (all_second P near.given (far ++ near.recent) c.requires.above));
    }

same_recent : (c : Else-branch) → c.push.new.self.recent ≡ (c.args.near.now).recent
same_recent c =
    let recent = c.reclaim.new.self.recent in
    c.in_ok-push.ensures.recent
    ∙ cond-false c.in_ok-push.field-0 (recent ++ (c.args.id, c.args.lits.now) ∷ []) recent
    c.if-branch.false
    ∙ ap (λ (m : NearParts). m.recent) c.reclaim.ensures.unchanged

pub flush-requires : goal.flush-requires
flush-requires c =
    let at = (goal.at.flush-requires c).Else-branch in
    let near = c.args.near.now in
    let far = c.args.far.now in
    record {
      rising = subst (λ es. IsRising (far ++ es)) (sym (same_recent at))
          (rising_second near.given (far ++ near.recent) c.requires.rising);
    }

pub add-requires : goal.add-requires
add-requires c =
    let at = (goal.at.add-requires c).Else-branch in
    let near = c.args.near.now in
    let far = c.args.far.now in
    let P = λ (e : ℕ × List Literal). e.0 < c.args.id in
    record {
      rising = all_front P c.flush.new.far c.flush.new.self.recent
          (subst (All P) (sym (c.in_ok-flush.ensures.all ∙ ap (λ es. far ++ es) (same_recent at)))
          (all_second P near.given (far ++ near.recent) c.requires.above));
    }
