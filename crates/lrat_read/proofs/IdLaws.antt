-- Numbers without dashes, as far as they are read.
use Rattle.std.proofs.Common.{◌≡◌, ℕ, zero, suc, ◌<◌, Bool, List, [], ◌∷◌, ◌++◌, drop, Option, Some}
use Rattle.std.proofs.Common.{None, refl, sym, ◌∙◌, ap, subst, arith, append_assoc, append-nil}
use Rattle.text.specs.Text.{tokens_of}
use Rattle.lrat_read.specs.Blocks.{AreIdsRead}
use Rattle.lrat_read.specs.Form.{unsigned_of}
use Rattle.lrat_read.specs.Numbers.{first_unsigned}
use Rattle.lrat_read.specs.Words.{ended_ids}
use Rattle.lrat_read.proofs.Ends.{is_done}

abbrev pub Ids : Type 0
Ids = List ℕ

-- numbers with these before them
abbrev pub ids_ahead : Ids → Option Ids → Option Ids
ids_ahead xs None = None
ids_ahead xs (Some ys) = Some (xs ++ ys)

ahead_ahead : (xs ys : Ids) (o : Option Ids)
    → ids_ahead xs (ids_ahead ys o) ≡ ids_ahead (xs ++ ys) o
ahead_ahead xs ys None = refl
ahead_ahead xs ys (Some zs) = ap Some (sym (append_assoc xs ys zs))

pub one_id_ahead : (t : List ℕ) (us : List (List ℕ)) (n : ℕ) → unsigned_of t ≡ Some n → 0 < n
    → ended_ids (t ∷ us) ≡ ids_ahead (n ∷ []) (ended_ids us)
one_id_ahead t us zero e h = absurd (omega arith)
one_id_ahead t us (suc n) e h =
    elim (ended_ids us) as (λ o. ended_ids us ≡ o
    → ended_ids (t ∷ us) ≡ ids_ahead (suc n ∷ []) (ended_ids us)) [
      | None ↦ λ g. rw (e, g) refl
      | Some ns ↦ λ g. rw (e, g) refl
    ] refl

-- a number more
pub ids_next : (total : Option Ids) (xs new : Ids) (ts us : List (List ℕ)) (t : List ℕ) (n : ℕ)
    → total ≡ ids_ahead xs (ended_ids ts) → ts ≡ t ∷ us → unsigned_of t ≡ Some n → 0 < n
    → new ≡ xs ++ n ∷ [] → total ≡ ids_ahead new (ended_ids us)
ids_next total xs new ts us t n sofar e g h pushed =
    sofar ∙ ap (λ ws. ids_ahead xs (ended_ids ws)) e
    ∙ ap (ids_ahead xs) (one_id_ahead t us n g h) ∙ ahead_ahead xs (n ∷ []) (ended_ids us)
    ∙ ap (λ ys. ids_ahead ys (ended_ids us)) (sym pushed)

-- no number
pub ids_break : (total : Option Ids) (xs : Ids) (ts : List (List ℕ))
    → total ≡ ids_ahead xs (ended_ids ts) → first_unsigned ts ≡ None → total ≡ None
ids_break total xs ts sofar e = sofar ∙ ap (ids_ahead xs) (none ts e)
  where
    none : (ts : List (List ℕ)) → first_unsigned ts ≡ None → ended_ids ts ≡ None
    none [] e = refl
    none (t ∷ ts) e = rw e refl

-- the 0 that ends the numbers, with nothing behind it or with something
pub ids_end : (line : List ℕ) (at : ℕ) (xs : Ids) (ts us : List (List ℕ)) (t : List ℕ) (n : ℕ)
    (b : Bool) → ended_ids (tokens_of (drop at line)) ≡ ids_ahead xs (ended_ids ts)
    → ts ≡ t ∷ us → unsigned_of t ≡ Some n → n ≡ 0 → b ≡ is_done us → AreIdsRead line at xs b
ids_end line at xs ts us t n b sofar e g z d =
    subst (AreIdsRead line at xs) (sym d)
    (by us (sofar ∙ ap (λ ws. ids_ahead xs (ended_ids ws)) e))
  where
    zero_read : unsigned_of t ≡ Some 0
    zero_read = g ∙ ap Some z

    by : (us : List (List ℕ))
        → ended_ids (tokens_of (drop at line)) ≡ ids_ahead xs (ended_ids (t ∷ us))
        → AreIdsRead line at xs (is_done us)
    by [] h =
        let none : ended_ids (t ∷ []) ≡ Some [] = rw zero_read refl in
        h ∙ ap (ids_ahead xs) none ∙ ap Some (append-nil xs)
    by (u ∷ us) h =
        let none : ended_ids (t ∷ u ∷ us) ≡ None = rw zero_read refl in
        h ∙ ap (ids_ahead xs) none
