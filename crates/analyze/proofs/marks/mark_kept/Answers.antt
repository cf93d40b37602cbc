use Rattle.std.proofs.Common.{◌≡◌, ◌<◌, ◌++◌, ◌∷◌, [], length, Some, sym, ◌∙◌, ap}
use Rattle.std.proofs.Common.{arith, vec_capacity}
use Rattle.std.proofs.lemmas.List.{length-set}
use Rattle.propagate.specs.Trail.{position_in}
use Rattle.analyze.specs.declared.marks.Mark.TheVariants.{Kept}
use Rattle.analyze.specs.declared.marks.Marking.{Marking}
use Rattle.analyze.proofs.Listing.{position_at, position_some, listed_kept, listed_spare}
use Rattle.analyze.proofs.marks.mark_kept.Goals as goal
use Rattle.analyze.proofs.marks.mark_kept.Goals.{in-Some, in_default}

pub push_reserved-requires : goal.push_reserved-requires
push_reserved-requires c =
    let m = c.requires.marking in
    let room : c.args.variable < length c.args.marking.now.marks.items = let a = m.room in
    let b = c.requires.small in omega arith in
    let spare =
    listed_spare c.args.engine.now.trail c.args.marking.now.marks.items
    c.args.marking.now.met.items c.args.variable room c.requires.clear m.listed in
    let s = m.spare in
    omega arith

pub returns-clause-marking : goal.returns-clause-marking
returns-clause-marking c =
    let T = c.args.engine.now.trail in
    let M = c.args.marking.now.marks.items in
    let v = c.args.variable in
    let met = c.args.marking.now.met.items in
    let m = c.requires.marking in
    let room : v < length M = let a = m.room in let b = c.requires.small in omega arith in
    elim c.match-position.branch [
      | in-Some w ↦
          let here : position_in T v ≡ Some w.in-Some.position =
          sym c.position.ensures ∙ w.in-Some.is in
          let at = position_at T v w.in-Some.position c.requires.above here in
          let is = w.marking-is in
          let now = c.match-position.marking in
          let same : now.marks.items ≡ M = ap (λ (k : Marking). k.marks.items) is in
          let long = length-set now.marks.items v Kept ∙ ap length same in
          let items : now.met.items ≡ met ++ w.in-Some.position ∷ [] =
          ap (λ (k : Marking). k.met.items) is ∙ w.push_reserved.ensures.items in
          record {
            room = (let a = m.room in omega arith);
            spare = (let s = m.spare in let more = w.push_reserved.ensures.capacity in
                let cap = ap (λ (k : Marking). vec_capacity k.met) is in omega arith);
            listed = rw (same, items)
                (listed_kept T M met v w.in-Some.position at.0 at.1 room c.requires.clear
                m.listed);
          }
      | in_default w ↦ absurd (position_some T v c.requires.above (sym c.position.ensures
          ∙ w.in_default.is))
    ]
