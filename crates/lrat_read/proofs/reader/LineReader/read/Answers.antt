use Rattle.std.proofs.Common.{◌≡◌, ℕ, Bool, false, List, [], ◌∷◌, Result, Some, sym, ◌∙◌, ap, subst}
use Rattle.std.specs.Result.{IfOk}
use Rattle.std.proofs.lemmas.Result.{IfOk-weaker}
use Rattle.lrat_read.specs.Form.{signed_of}
use Rattle.lrat_read.specs.Reader.{LineState, IsReadAs, IsDeletionRead}
use Rattle.lrat_read.specs.declared.types.Form.{Form}
use Rattle.lrat_read.proofs.reader.LineReader.read.Goals as goal

-- from what follows the letter to the whole line
whole_deletion : {E : Type 0} (r : Result Form E) (s : LineState) (ts us vs : List (List ℕ))
    (t : List ℕ) (b : Bool) (n : ℕ) → ts ≡ t ∷ us → signed_of t ≡ Some (b, n) → b ≡ false
    → us ≡ (100 ∷ []) ∷ vs →
    IfOk r (λ form. IsDeletionRead vs form s) → IfOk r (λ form. IsReadAs ts form s)
whole_deletion r s ts us vs t b n e v plain letter h =
    IfOk-weaker r (λ form. IsDeletionRead vs form s) (λ form. IsReadAs ts form s)
    (λ form k. subst (λ (w : List (List ℕ)). IsReadAs w form s)
    (sym (e ∙ ap (λ (w : List (List ℕ)). t ∷ w) letter))
    (k t n (v ∙ ap (λ (d : Bool). Some (d, n)) plain))) h

pub returns-in-Some : goal.returns-in-Some
returns-in-Some c =
    whole_deletion c.read_deletion.result _ _ _ _ c.in-Number-false-default-default.ensures.0 _ _
    c.in-Number-false-default-default.ensures.1 c.in-Number-false-default-default.ensures.2
    c.in-Number-false-default-default.is_dashed-test c.in-Some.ensures.0 c.read_deletion.ensures
