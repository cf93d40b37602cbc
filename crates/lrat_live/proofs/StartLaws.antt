-- The spans of a formula's clauses: one more, where they lie, and which clauses they give.
use Rattle.std.proofs.Common.{◌≡◌, ℕ, ◌+◌, ◌-◌, ◌≤◌, true, List}
use Rattle.std.proofs.Common.{[], ◌∷◌, ◌++◌, length, take, drop, Some, refl, sym, ◌∙◌}
use Rattle.std.proofs.Common.{ap, subst, arith}
use Rattle.std.specs.Prelude.{slice_get}
use Rattle.std.specs.List.{flat_map}
use Rattle.std.proofs.lemmas.Bool.{ne_eqb}
use Rattle.std.proofs.lemmas.List.{length-append, drop-drop, take_more}
use Rattle.std.proofs.lemmas.Grind.{flat_map-append}
use Rattle.std.proofs.lemmas.Option.{get_or_from_slice_get, slice_get_within}
use Rattle.std.proofs.Math.Seq.{take-append_seam, drop-append_seam}
use Rattle.cnf.specs.Literal.{Literal}
use Rattle.lrat_live.specs.Listed.{listed_from}
use Rattle.lrat_live.specs.Near.{is_live, literals_at, spanned, spans_from, AreSpread}
use Rattle.lrat_live.specs.declared.spans.LiveSpan.{LiveSpan}
use Rattle.lrat_live.specs.declared.spans.TheConstants.{DEAD, MOST_KEPT}
use Rattle.lrat_live.proofs.SpanLaws.{spanned_live, end_live}

-- the literals of all clauses
abbrev pub joined : List (List Literal) → List Literal
joined cs = flat_map (λ c. c) cs

one_more : (cs : List (List Literal)) (p : ℕ) (c : List Literal) → slice_get cs p ≡ Some c
    → take (p + 1) cs ≡ take p cs ++ c ∷ []
one_more cs p c e =
    take_more cs p c (slice_get_within cs p c e)
    ∙ ap (λ (x : List Literal). take p cs ++ x ∷ []) (get_or_from_slice_get cs p c c e)

pub joined_more : (cs : List (List Literal)) (p : ℕ) (c : List Literal) → slice_get cs p ≡ Some c
    → length (joined (take (p + 1) cs)) ≡ length (joined (take p cs)) + length c
joined_more cs p c e =
    ap (λ xs. length (joined xs)) (one_more cs p c e)
    ∙ ap length (flat_map-append (λ (x : List Literal). x) (take p cs) (c ∷ []))
    ∙ omega (arith, length-append (joined (take p cs)) (c ++ []), length-append c [])

spans_push : (start : ℕ) (cs : List (List Literal)) (c : List Literal)
    → spans_from start (cs ++ c ∷ []) ≡ spans_from start cs
    ++ record { start = start + length (joined cs); length = length c } ∷ []
spans_push start [] c =
    let z : start + 0 ≡ start = omega arith in
    ap (λ n. record { start = n; length = length c } ∷ []) (sym z)
spans_push start (d ∷ cs) c =
    let n : (start + length d) + length (joined cs) ≡ start + length (d ++ joined cs) =
    omega (arith, length-append d (joined cs)) in
    ap (λ (ss : List LiveSpan). record { start = start; length = length d } ∷ ss)
    (spans_push (start + length d) cs c
    ∙ ap (λ m. spans_from (start + length d) cs
    ++ record { start = m; length = length c } ∷ []) n)

pub spans_more : (start : ℕ) (cs : List (List Literal)) (p : ℕ) (c : List Literal)
    → slice_get cs p ≡ Some c → spans_from start (take (p + 1) cs)
    ≡ spans_from start (take p cs)
    ++ record { start = start + length (joined (take p cs)); length = length c } ∷ []
spans_more start cs p c e =
    ap (spans_from start) (one_more cs p c e) ∙ spans_push start (take p cs) c

pub live_below : (n m : ℕ) → n ≤ MOST_KEPT → is_live (record { start = n; length = m }) ≡ true
live_below n m h = rw (ne_eqb n DEAD (λ e. absurd (omega arith))) refl

pub spread_from : (start : ℕ) (cs : List (List Literal)) (to : ℕ)
    → start + length (joined cs) ≤ to → to ≤ MOST_KEPT → AreSpread start (spans_from start cs) to
spread_from start [] to h few = omega arith
spread_from start (c ∷ cs) to h few =
    let all : (start + length c) + length (joined cs) ≤ to =
    omega (arith, length-append c (joined cs)) in
    let live : is_live (record { start = start; length = length c }) ≡ true =
    live_below start (length c) (omega arith) in (
      λ t. omega arith,
      subst (λ n. AreSpread n (spans_from (start + length c) cs) to)
          (sym (end_live start (record { start = start; length = length c }) live))
          (spread_from (start + length c) cs to all few),
    )

pub spanned_from : (ls : List Literal) (n start : ℕ) (cs : List (List Literal))
    → drop start ls ≡ joined cs → start + length (joined cs) ≤ MOST_KEPT
    → spanned ls n (spans_from start cs) ≡ listed_from n cs
spanned_from ls n start [] e few = refl
spanned_from ls n start (c ∷ cs) e few =
    let live : is_live (record { start = start; length = length c }) ≡ true =
    live_below start (length c) (omega arith) in
    let count : start + length c - start ≡ length c = omega arith in
    let here : literals_at ls (record { start = start; length = length c }) ≡ c =
    ap (λ m. take m (drop start ls)) count ∙ ap (take (length c)) e
    ∙ take-append_seam c (joined cs) in
    let rest : drop (start + length c) ls ≡ joined cs =
    sym (drop-drop (length c) start ls) ∙ ap (drop (length c)) e
    ∙ drop-append_seam c (joined cs) in
    spanned_live ls n (record { start = start; length = length c })
    (spans_from (start + length c) cs) live
    ∙ ap (λ x. (n, x) ∷ spanned ls (n + 1) (spans_from (start + length c) cs)) here
    ∙ ap (λ es. (n, c) ∷ es) (spanned_from ls (n + 1) (start + length c) cs rest
    (omega (arith, length-append c (joined cs))))
