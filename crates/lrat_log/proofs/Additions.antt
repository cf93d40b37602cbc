-- How many additions a log has, and the ids of the lines behind these.
use Rattle.std.proofs.Common.{◌≡◌, ℕ, ◌+◌, ◌≤◌, Bool, true, false, not, cond, List, [], ◌∷◌, ◌++◌}
use Rattle.std.proofs.Common.{length, map, inl, inr, sym, ◌∙◌, ap, arith}
use Rattle.std.specs.Prelude.{if◌then◌else◌}
use Rattle.std.proofs.lemmas.Bool.{cases_Bool}
use Rattle.std.proofs.lemmas.List.Sums.{sum_by-cons, sum_by_push, count_by-le-length}
use Rattle.cnf.specs.Lrat.{Live, with_clause, without_ids}
use Rattle.lrat_log.specs.Log.{LogLine, is_delete, id_of, name_of, numbered_line, numbered_on}
use Rattle.lrat_log.specs.Steps.{live_after, added_count}

pub additions_few : (ls : List LogLine) → added_count ls ≤ length ls
additions_few ls = count_by-le-length (λ (l : LogLine). not (is_delete l.kind)) ls

-- a line more at the front
pub additions_cons : (l : LogLine) (ls : List LogLine)
    → added_count (l ∷ ls) ≡ cond (not (is_delete l.kind)) 1 0 + added_count ls
additions_cons l ls = sum_by-cons (λ (k : LogLine). cond (not (is_delete k.kind)) 1 0) l ls

-- and at the end
pub additions_push : (ls : List LogLine) (l : LogLine)
    → added_count (ls ++ l ∷ []) ≡ added_count ls + cond (not (is_delete l.kind)) 1 0
additions_push ls l = sum_by_push (λ (k : LogLine). cond (not (is_delete k.kind)) 1 0) ls l

count_at : (d : Bool) (before n : ℕ)
    → (if d then before else before + 1) + n ≡ before + (cond (not d) 1 0 + n)
count_at true before n = omega arith
count_at false before n = omega arith

abbrev pub after_line : LogLine → ℕ → ℕ
after_line l before = if is_delete l.kind then before else before + 1

pub count_step : (before : ℕ) (l : LogLine) (ls : List LogLine)
    → after_line l before + added_count ls ≡ before + added_count (l ∷ ls)
count_step before l ls =
    count_at (is_delete l.kind) before (added_count ls)
    ∙ ap (λ n. before + n) (sym (additions_cons l ls))

-- lines behind others are numbered on
pub numbered_on-append : (base before : ℕ) (ls ms : List LogLine)
    → numbered_on base before (ls ++ ms)
    ≡ numbered_on base before ls ++ numbered_on base (before + added_count ls) ms
numbered_on-append base before [] ms = ap (λ k. numbered_on base k ms) (omega arith)
numbered_on-append base before (l ∷ ls) ms =
    ap (λ x. numbered_line base before l ∷ x) (
    numbered_on-append base (after_line l before) ls ms
    ∙ ap (λ k. numbered_on base (after_line l before) ls ++ numbered_on base k ms)
    (count_step before l ls)
    )

-- the number of additions is the distance of the last id from the base
pub last_numbered : (base before : ℕ) (ls : List LogLine) (live : Live) → live.last ≡ base + before
    → (live_after live (numbered_on base before ls)).last ≡ base + (before + added_count ls)
last_numbered base before [] live e = e ∙ omega arith
last_numbered base before (l ∷ ls) live e =
    let gone : Live = without_ids live (map (λ h. id_of base (name_of h)) l.hints) in
    let come : Live = with_clause live (base + before + 1) l.clause in
    elim (cases_Bool (is_delete l.kind)) [
      | inl d ↦ rw d (last_numbered base before ls gone e
          ∙ ap (λ n. base + n) (rw d at (count_step before l ls)))
      | inr d ↦ rw d (last_numbered base (before + 1) ls come (omega arith)
          ∙ ap (λ n. base + n) (rw d at (count_step before l ls)))
    ]
