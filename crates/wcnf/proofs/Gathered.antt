-- The clause that is gathered with its marks, as a literal comes and as room is made for more
-- variables.
use Rattle.wcnf.specs.declared.gathering.TheConstants.{UNMARKED_LENGTH}
use Rattle.std.proofs.Common.{◌≡◌, ℕ, ◌*◌, ◌<◌, ◌≤◌, Bool, false, List, [], ◌∷◌, ◌++◌}
use Rattle.std.proofs.Common.{refl, ◌∙◌, arith, length}
use Rattle.std.proofs.lemmas.List.Elements.{All-nil, All-push}
use Rattle.cnf.specs.Literal.{Literal}
use Rattle.cnf.specs.Clause.{contains_literal}
use Rattle.cnf.specs.Marks.{HasPlace, IsMarked}
use Rattle.cnf.proofs.Laws.{repeat_push}
use Rattle.wcnf.specs.Drafts.{AreMarked}

pub marked-push : (v : ℕ) (marks now : List Bool) (c : List Literal) (l : Literal)
    → AreMarked v marks c → 0 < l.variable → l.variable ≤ v → contains_literal l c ≡ false
    → length now ≡ length marks
    → (UNMARKED_LENGTH < length (c ++ l ∷ []) → IsMarked now (c ++ l ∷ []))
    → AreMarked v now (c ++ l ∷ [])
marked-push v marks now c l a p h fresh same marked = record {
  count = same ∙ a.count;
  marked = marked;
  places = All-push (HasPlace (2 * v)) c l a.places (p, omega (arith, h));
  once = repeat_push c l fresh a.once;
}

-- a clause without literals
pub marked-none : (v : ℕ) (marks : List Bool) → length marks ≡ 2 * v → AreMarked v marks []
marked-none v marks e = record {
  count = e;
  marked = λ h. absurd (omega (arith, h));
  places = All-nil (HasPlace (2 * v));
  once = refl;
}
