-- What a line feed ends of a text.
use Rattle.std.proofs.Common.{◌≡◌, ℕ, Bool, false, List, [], ◌∷◌, ◌++◌, refl, sym, ◌∙◌, ap}
use Rattle.std.proofs.Common.{subst, inl, inr, append_assoc, append-nil, if◌then◌else◌}
use Rattle.std.specs.Prelude.{◌==◌, ◌≤◌, length, Option, None, Some, Ok, Err, IsOk}
use Rattle.std.proofs.lemmas.List.Elements.{All-head, All-tail}
use Rattle.cnf.specs.Problem.{Problem}
use Rattle.text.specs.declared.watched.TheConstants.{READ_SIZE}
use Rattle.text.specs.Text.{IsNoFeed}
use Rattle.text.specs.Pieces.{IsCut, IsEnded}
use Rattle.lrat_machine.specs.declared.verdicts.Cause.{Cause}
use Rattle.lrat_cuts.specs.Pieces.{Holds, IsOpen, ReadingState, ReadsOn}
use Rattle.lrat_cuts.specs.Verdict.{ended_part, ended_with, judged_text}

ended_feed : (bs : List ℕ) → ended_part (10 ∷ bs) ≡ 10 ∷ ended_part bs
ended_feed bs =
    elim (ended_part bs) as (λ e. ended_with 10 e ≡ 10 ∷ e) [
      | [] ↦ refl
      | ◌∷◌ c cs ↦ refl
    ]

-- where a line feed stands, all before it is ended
ended_front : (front bs : List ℕ)
    → ended_part (front ++ 10 ∷ bs) ≡ front ++ 10 ∷ ended_part bs
ended_front [] bs = ended_feed bs
ended_front (f ∷ []) bs = ap (ended_with f) (ended_feed bs)
ended_front (f ∷ g ∷ front) bs = ap (ended_with f) (ended_front (g ∷ front) bs)

pub ended_part-more : (done bs : List ℕ) → IsEnded done
    → ended_part (done ++ bs) ≡ done ++ ended_part bs
ended_part-more done bs (inl e) =
    ap (λ x. ended_part (x ++ bs)) e ∙ ap (λ x. x ++ ended_part bs) (sym e)
ended_part-more done bs (inr e) =
    ap (λ x. ended_part (x ++ bs)) e.1
    ∙ ap ended_part (append_assoc e.0 (10 ∷ []) bs)
    ∙ ended_front e.0 bs
    ∙ sym (append_assoc e.0 (10 ∷ []) (ended_part bs))
    ∙ ap (λ x. x ++ ended_part bs) (sym e.1)

pub ended_none : (bs : List ℕ) → IsNoFeed bs → ended_part bs ≡ []
ended_none [] h = refl
ended_none (b ∷ bs) h =
    let rest = ended_none bs (All-tail (λ x. (x == 10) ≡ false) b bs h) in
    let no = All-head (λ x. (x == 10) ≡ false) b bs h in
    ap (ended_with b) rest ∙ ap (λ (t : Bool). if t then b ∷ [] else []) no

pub ended_part-cut : (bytes done rest : List ℕ) → IsCut bytes done rest
    → ended_part bytes ≡ done
ended_part-cut bytes done rest c =
    ap ended_part c.split ∙ ended_part-more done rest c.ended
    ∙ ap (λ x. done ++ x) (ended_none rest c.unfinished) ∙ append-nil done

-- what the checker has judged
pub open_ended : (r : ReadingState) (cost : Option ℕ) (p : Problem) (bytes : List ℕ)
    → IsOpen r cost p bytes → judged_text cost p (ended_part bytes) ≡ Ok (r.machine).state
open_ended r cost p bytes o =
    ap (judged_text cost p) (ended_part-cut bytes o.done r.rest o.cut ∙ sym (append-nil o.done))
    ∙ sym (o.resumes [])

-- a piece more is read
pub piece_on : (r : ReadingState) (cost : Option ℕ) (p : Problem) (before front piece : List ℕ)
    → IsOpen r cost p (before ++ front) → length piece ≤ READ_SIZE
    → ReadsOn cost p before (front ++ piece)
piece_on r cost p before front piece o few = record {
  front = front;
  piece = piece;
  split = refl;
  small = few;
  is_open = subst IsOk (sym (open_ended r cost p (before ++ front) o)) refl;
}

module _ (r : ReadingState) (p : Problem) (bytes : List ℕ) (cost : Option ℕ)
    (h : Holds r cost p bytes) where
  pub ended_open : r.refused ≡ None
      → judged_text cost p (ended_part bytes) ≡ Ok (r.machine).state
  ended_open none = open_ended r cost p bytes (h.open_end none)

  pub ended_refused : (e : Cause × ℕ) → r.refused ≡ Some e
      → judged_text cost p (ended_part bytes) ≡ Err e
  ended_refused e is =
      let w = h.refused e is in
      ap (judged_text cost p) (ap ended_part w.split ∙ ended_part-more w.done w.after w.ended)
      ∙ w.stays (ended_part w.after)
