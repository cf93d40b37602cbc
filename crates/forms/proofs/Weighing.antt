-- One weight more.
use Rattle.std.proofs.Common.{◌≡◌, ℕ, ◌+◌, ◌<◌, pos, List, [], ◌∷◌, ◌++◌, length, map, take, get_or}
use Rattle.std.proofs.Common.{refl, sym}
use Rattle.std.proofs.Common.{◌∙◌, ap}
use Rattle.std.proofs.lemmas.List.{map-append, take_more}
use Rattle.cnf.specs.Literal.{Literal}
use Rattle.adder.specs.declared.relaxations.Relaxation.{Relaxation}
use Rattle.adder.specs.Parts.{weight_in}
use Rattle.linear.specs.Linear.{Linear, plus_literal}
use Rattle.linear.specs.Costs.{cost_from, form_of}

cost_push : (f : Linear) (ws : List (ℕ × Literal)) (e : ℕ × Literal)
    → cost_from f (ws ++ e ∷ []) ≡ plus_literal (pos e.0) e.1 (cost_from f ws)
cost_push f [] e = refl
cost_push f (w ∷ ws) e = cost_push (plus_literal (pos w.0) w.1 f) ws e

pub form_push : (n : ℕ) (rs : List Relaxation) (i : ℕ) (r : Relaxation) → i < length rs
    → r ≡ get_or rs i r
    → form_of n (map weight_in (take (i + 1) rs))
    ≡ (let f = form_of n (map weight_in (take i rs)) in
    record f { cost = plus_literal (pos r.weight) r.lit f.cost })
form_push n rs i r lt is =
    let before = map weight_in (take i rs) in
    ap (λ x. form_of n (map weight_in x)) (take_more rs i r lt)
    ∙ ap (λ x. form_of n (map weight_in (take i rs ++ x ∷ []))) (sym is)
    ∙ ap (form_of n) (map-append weight_in (take i rs) (r ∷ []))
    ∙ (λ j. record (form_of n before) {
      cost = cost_push (form_of n []).cost before (weight_in r) j;
    })
