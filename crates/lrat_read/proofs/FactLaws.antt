-- The facts of a form line, as far as they are read.
use Rattle.std.proofs.Common.{◌≡◌, ℕ, zero, suc, ◌<◌, Bool, List, [], ◌∷◌, ◌++◌}
use Rattle.std.proofs.Common.{drop, Option, Some, None, refl, sym, ◌∙◌, ap, subst, arith}
use Rattle.std.proofs.Common.{append_assoc, append-nil}
use Rattle.text.specs.Text.{tokens_of}
use Rattle.lrat_read.specs.Facts.{AreFactsRead}
use Rattle.lrat_read.specs.Form.{signed_of, unsigned_of}
use Rattle.lrat_read.specs.Numbers.{first_unsigned}
use Rattle.lrat_read.specs.Words.{NamedFact, ended_facts}
use Rattle.lrat_read.proofs.Ends.{is_done}

abbrev pub Facts : Type 0
Facts = List NamedFact

-- facts with these before them
abbrev pub facts_ahead : Facts → Option Facts → Option Facts
facts_ahead fs None = None
facts_ahead fs (Some gs) = Some (fs ++ gs)

pub ahead_none : (o : Option Facts) → facts_ahead [] o ≡ o
ahead_none None = refl
ahead_none (Some gs) = refl

ahead_ahead : (fs gs : Facts) (o : Option Facts)
    → facts_ahead fs (facts_ahead gs o) ≡ facts_ahead (fs ++ gs) o
ahead_ahead fs gs None = refl
ahead_ahead fs gs (Some hs) = ap Some (sym (append_assoc fs gs hs))

abbrev pub fact_of : ℕ → Bool → ℕ → NamedFact
fact_of w s n = record { weight = w; is_numbered = s; number = n }

pub one_ahead : (t u : List ℕ) (vs : List (List ℕ)) (w : ℕ) (s : Bool) (n : ℕ)
    → unsigned_of t ≡ Some w → 0 < w → signed_of u ≡ Some (s, n) → 0 < n
    → ended_facts (t ∷ u ∷ vs) ≡ facts_ahead (fact_of w s n ∷ []) (ended_facts vs)
one_ahead t u vs zero s n e h f k = absurd (omega arith)
one_ahead t u vs (suc w) s zero e h f k = absurd (omega arith)
one_ahead t u vs (suc w) s (suc n) e h f k =
    elim (ended_facts vs) as (λ o. ended_facts vs ≡ o → ended_facts (t ∷ u ∷ vs)
    ≡ facts_ahead (fact_of (suc w) s (suc n) ∷ []) (ended_facts vs)) [
      | None ↦ λ g. rw (e, f, g) refl
      | Some fs ↦ λ g. rw (e, f, g) refl
    ] refl

-- a fact more
pub facts_next : (total : Option Facts) (fs new : Facts) (ts us vs : List (List ℕ)) (t u : List ℕ)
    (w : ℕ) (s : Bool) (n : ℕ) → total ≡ facts_ahead fs (ended_facts ts) → ts ≡ t ∷ us
    → us ≡ u ∷ vs → unsigned_of t ≡ Some w → 0 < w → signed_of u ≡ Some (s, n) → 0 < n
    → new ≡ fs ++ fact_of w s n ∷ [] → total ≡ facts_ahead new (ended_facts vs)
facts_next total fs new ts us vs t u w s n sofar e f g h k l pushed =
    sofar ∙ ap (λ xs. facts_ahead fs (ended_facts xs)) (e ∙ ap (λ xs. t ∷ xs) f)
    ∙ ap (facts_ahead fs) (one_ahead t u vs w s n g h k l)
    ∙ ahead_ahead fs (fact_of w s n ∷ []) (ended_facts vs)
    ∙ ap (λ xs. facts_ahead xs (ended_facts vs)) (sym pushed)

-- no fact, and no 0 either
pub facts_break : (total : Option Facts) (fs : Facts) (ts : List (List ℕ))
    → total ≡ facts_ahead fs (ended_facts ts) → first_unsigned ts ≡ None → total ≡ None
facts_break total fs ts sofar e = sofar ∙ ap (facts_ahead fs) (none ts e)
  where
    none : (ts : List (List ℕ)) → first_unsigned ts ≡ None → ended_facts ts ≡ None
    none [] e = refl
    none (t ∷ []) e = rw e refl
    none (t ∷ u ∷ ts) e = rw e refl

-- the 0 that ends the facts, with nothing behind it or with something
pub facts_end : (line : List ℕ) (at : ℕ) (fs : Facts) (ts us : List (List ℕ)) (t : List ℕ) (w : ℕ)
    (b : Bool) → ended_facts (tokens_of (drop at line)) ≡ facts_ahead fs (ended_facts ts)
    → ts ≡ t ∷ us → unsigned_of t ≡ Some w → w ≡ 0 → b ≡ is_done us → AreFactsRead line at fs b
facts_end line at fs ts us t w b sofar e g z d =
    subst (AreFactsRead line at fs) (sym d)
    (by us (sofar ∙ ap (λ xs. facts_ahead fs (ended_facts xs)) e))
  where
    zero_read : unsigned_of t ≡ Some 0
    zero_read = g ∙ ap Some z

    by : (us : List (List ℕ))
        → ended_facts (tokens_of (drop at line)) ≡ facts_ahead fs (ended_facts (t ∷ us))
        → AreFactsRead line at fs (is_done us)
    by [] h =
        let none : ended_facts (t ∷ []) ≡ Some [] = rw zero_read refl in
        h ∙ ap (facts_ahead fs) none ∙ ap Some (append-nil fs)
    by (u ∷ us) h =
        let none : ended_facts (t ∷ u ∷ us) ≡ None = rw zero_read refl in
        h ∙ ap (facts_ahead fs) none
