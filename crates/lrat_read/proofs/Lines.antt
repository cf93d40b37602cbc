-- A certificate's line, against what it is read as.
use Rattle.std.proofs.Common.{◌≡◌, ℕ, ◌<◌, ◌^◌, Bool, true, false, List, [], ◌∷◌, ◌++◌, map, Option}
use Rattle.std.proofs.Common.{Some, None, ◌⊎◌, inl, inr, refl, sym, ◌∙◌, ap, subst, append_assoc}
use Rattle.std.proofs.lemmas.List.{map-append}
use Rattle.std.proofs.Math.Bool.{cond}
use Rattle.std.specs.Prelude.{◌==◌}
use Rattle.std.specs.List.{AllByRecursion, list_any, flat_map}
use Rattle.std.specs.Fmt.{decimal}
use Rattle.std.proofs.lemmas.Bool.{cond-false, eqb-true, ne_eqb, cases_Bool, both_ways, eq-eqb}
use Rattle.std.proofs.lemmas.Bool.{true≢false}
use Rattle.std.proofs.lemmas.List.Elements.{All-from_recursion, recursion_from_All}
use Rattle.cnf.specs.Literal.{Literal}
use Rattle.text.specs.Text.{literal_text}
use Rattle.cnf.specs.Lrat.{CandidateHints, ProofLine, Addition as AddsLine}
use Rattle.cnf.specs.Lrat.{Deletion as DeletesLine}
use Rattle.cnf.specs.Lrat.{IsId}
use Rattle.text.specs.LratText.{group_tokens, line_tokens, HasNumbers}
use Rattle.cnf.proofs.Laws.{GroupHasIds}
use Rattle.lrat_read.specs.Form.{signed_of, block_of, Parsed, Addition, Deletion, Malformed}
use Rattle.lrat_read.specs.Form.{line_of, literal_from, leading, groups_of}
use lib.Chars.{codes}
use Rattle.lrat_read.proofs.Tokens.{spell, Signed, HasIds, signed_means, signed_from, block_means}
use Rattle.lrat_read.proofs.Tokens.{block_from}

-- hints with their groups, as signed numbers
abbrev pub positive : ℕ → Bool × ℕ
positive h = (false, h)

abbrev pub signed_group : CandidateHints → Signed
signed_group g = (true, g.candidate) ∷ map positive g.hints

abbrev pub signed_hints : List ℕ → List CandidateHints → Signed
signed_hints hints groups = map positive hints ++ flat_map signed_group groups

leading_groups : (gs : List CandidateHints) → leading (flat_map signed_group gs) ≡ []
leading_groups [] = refl
leading_groups (g ∷ gs) = refl

pub leading-signed_hints : (hints : List ℕ) (gs : List CandidateHints)
    → leading (signed_hints hints gs) ≡ hints
leading-signed_hints [] gs = leading_groups gs
leading-signed_hints (h ∷ hints) gs = ap (λ x. h ∷ x) (leading-signed_hints hints gs)

groups_after : (hints : List ℕ) (xs : Signed) → groups_of (map positive hints ++ xs) ≡ groups_of xs
groups_after [] xs = refl
groups_after (h ∷ hints) xs = groups_after hints xs

groups_groups : (gs : List CandidateHints) → groups_of (flat_map signed_group gs) ≡ gs
groups_groups [] = refl
groups_groups (g ∷ gs) =
    ap (λ hs. record { candidate = g.candidate; hints = hs } ∷ groups_of (signed_hints g.hints gs))
    (leading-signed_hints g.hints gs)
    ∙ ap (λ x. g ∷ x) (groups_after g.hints (flat_map signed_group gs) ∙ groups_groups gs)

pub groups_of-signed_hints : (hints : List ℕ) (gs : List CandidateHints)
    → groups_of (signed_hints hints gs) ≡ gs
groups_of-signed_hints hints gs = groups_after hints (flat_map signed_group gs) ∙ groups_groups gs

pub signed_hints-parts : (hs : Signed) → signed_hints (leading hs) (groups_of hs) ≡ hs
signed_hints-parts [] = refl
signed_hints-parts ((false, h) ∷ hs) = ap (λ x. (false, h) ∷ x) (signed_hints-parts hs)
signed_hints-parts ((true, h) ∷ hs) = ap (λ x. (true, h) ∷ x) (signed_hints-parts hs)

pub map_spell_positive : (hints : List ℕ) → map spell (map positive hints) ≡ map decimal hints
map_spell_positive [] = refl
map_spell_positive (h ∷ hints) = ap (λ x. decimal h ∷ x) (map_spell_positive hints)

map_spell_groups : (gs : List CandidateHints)
    → map spell (flat_map signed_group gs) ≡ flat_map group_tokens gs
map_spell_groups [] = refl
map_spell_groups (g ∷ gs) =
    ap (λ x. (45 ∷ decimal g.candidate) ∷ x)
    (map-append spell (map positive g.hints) (flat_map signed_group gs)
    ∙ ap (λ x. x ++ map spell (flat_map signed_group gs)) (map_spell_positive g.hints)
    ∙ ap (λ x. map decimal g.hints ++ x) (map_spell_groups gs))

pub map_spell_hints : (hints : List ℕ) (gs : List CandidateHints)
    → map spell (signed_hints hints gs) ≡ map decimal hints ++ flat_map group_tokens gs
map_spell_hints hints gs = map-append spell (map positive hints) (flat_map signed_group gs)
    ∙ ap (λ x. x ++ map spell (flat_map signed_group gs)) (map_spell_positive hints)
    ∙ ap (λ x. map decimal hints ++ x) (map_spell_groups gs)

-- literals as signed numbers
abbrev pub signed_literal : Literal → Bool × ℕ
signed_literal l = (l.negated, l.variable)

map_literal : (xs : Signed) → map signed_literal (map literal_from xs) ≡ xs
map_literal [] = refl
map_literal (x ∷ xs) = ap (λ y. x ∷ y) (map_literal xs)

pub map_signed : (c : List Literal) → map literal_from (map signed_literal c) ≡ c
map_signed [] = refl
map_signed (l ∷ c) = ap (λ y. l ∷ y) (map_signed c)

pub map_spell_literal : (c : List Literal) → map spell (map signed_literal c) ≡ map literal_text c
map_spell_literal [] = refl
map_spell_literal (l ∷ c) = ap (λ y. literal_text l ∷ y) (map_spell_literal c)

-- what a line is, in steps with names
ends_at : Option (Signed × List (List ℕ)) → Option Signed
ends_at None = None
ends_at (Some (xs, [])) = Some xs
ends_at (Some (xs, t ∷ ts)) = None

as_deletion : Option Signed → Parsed
as_deletion None = Malformed
as_deletion (Some xs) = cond (list_any (λ x. x.0) xs) Malformed (Deletion (map (λ x. x.1) xs))

as_hinted : ℕ → Signed → Option Signed → Parsed
as_hinted id c None = Malformed
as_hinted id c (Some hs) = Addition id (map literal_from c) hs

as_addition : ℕ → Option (Signed × List (List ℕ)) → Parsed
as_addition id None = Malformed
as_addition id (Some (c, rest)) = as_hinted id c (ends_at (block_of rest))

line_deletes : (t : List ℕ) (us : List (List ℕ)) (n : ℕ) → signed_of t ≡ Some (false, n)
    → line_of (t ∷ (100 ∷ []) ∷ us) ≡ as_deletion (ends_at (block_of us))
unfolding ends_at as_deletion
line_deletes t us n u =
    elim (block_of us) as (λ o. block_of us ≡ o
    → line_of (t ∷ (100 ∷ []) ∷ us) ≡ as_deletion (ends_at (block_of us))) [
      | None ↦ λ v. rw (u, v) refl
      | Some (xs, []) ↦ λ v. rw (u, v) refl
      | Some (xs, x ∷ more) ↦ λ v. rw (u, v) refl
    ] refl

line_adds_none : (t u : List ℕ) (us : List (List ℕ)) (n : ℕ) → signed_of t ≡ Some (false, n)
    → (u ≡ 100 ∷ [] → ⊥) → block_of (u ∷ us) ≡ None → line_of (t ∷ u ∷ us) ≡ Malformed
line_adds_none t [] us n e ne v = rw e refl
line_adds_none t (b ∷ []) us n e ne v = let d : (b == 100) ≡ false =
    ne_eqb b 100 (λ z. ne (ap (λ x. x ∷ []) z)) in rw (e, d, v) refl
line_adds_none t (b ∷ c ∷ bs) us n e ne v = rw (e, v) refl

line_adds_some : (t u : List ℕ) (us : List (List ℕ)) (n : ℕ) → signed_of t ≡ Some (false, n)
    → (u ≡ 100 ∷ [] → ⊥) → (c : Signed) (rest : List (List ℕ)) → block_of (u ∷ us) ≡ Some (c, rest)
    → (m : Option (Signed × List (List ℕ))) → block_of rest ≡ m
    → line_of (t ∷ u ∷ us) ≡ as_hinted n c (ends_at m)
unfolding as_hinted ends_at
line_adds_some t [] us n e ne c rest v m w = absurd (cc)
line_adds_some t (b ∷ []) us n e ne c rest v None w = let d : (b == 100) ≡ false =
    ne_eqb b 100 (λ z. ne (ap (λ x. x ∷ []) z)) in rw (e, d, v, w) refl
line_adds_some t (b ∷ []) us n e ne c rest v (Some (hs, [])) w = let d : (b == 100) ≡ false =
    ne_eqb b 100 (λ z. ne (ap (λ x. x ∷ []) z)) in rw (e, d, v, w) refl
line_adds_some t (b ∷ []) us n e ne c rest v (Some (hs, x ∷ xs)) w = let d : (b == 100) ≡ false =
    ne_eqb b 100 (λ z. ne (ap (λ x. x ∷ []) z)) in rw (e, d, v, w) refl
line_adds_some t (b ∷ b' ∷ bs) us n e ne c rest v None w = rw (e, v, w) refl
line_adds_some t (b ∷ b' ∷ bs) us n e ne c rest v (Some (hs, [])) w = rw (e, v, w) refl
line_adds_some t (b ∷ b' ∷ bs) us n e ne c rest v (Some (hs, x ∷ xs)) w = rw (e, v, w) refl

line_adds_at : (t u : List ℕ) (us : List (List ℕ)) (n : ℕ) → signed_of t ≡ Some (false, n)
    → (u ≡ 100 ∷ [] → ⊥) → (o : Option (Signed × List (List ℕ))) → block_of (u ∷ us) ≡ o
    → line_of (t ∷ u ∷ us) ≡ as_addition n o
unfolding as_addition
line_adds_at t u us n e ne None v = line_adds_none t u us n e ne v
line_adds_at t u us n e ne (Some (c, rest)) v =
    line_adds_some t u us n e ne c rest v (block_of rest) refl

line_alone : (t : List ℕ) → line_of (t ∷ []) ≡ Malformed
line_alone t =
    elim (signed_of t) as (λ o. signed_of t ≡ o → line_of (t ∷ []) ≡ Malformed) [
      | None ↦ λ v. rw v refl
      | Some (true, n) ↦ λ v. rw v refl
      | Some (false, n) ↦ λ v. rw v refl
    ] refl

pub line_dashed : (t : List ℕ) (us : List (List ℕ)) (n : ℕ) → signed_of t ≡ Some (true, n)
    → line_of (t ∷ us) ≡ Malformed
line_dashed t us n v = rw v refl

pub line_bad : (t : List ℕ) (us : List (List ℕ)) → signed_of t ≡ None → line_of (t ∷ us) ≡ Malformed
line_bad t us v = rw v refl

is_letter : (u : List ℕ) → (u ≡ 100 ∷ []) ⊎ (u ≡ 100 ∷ [] → ⊥)
is_letter [] = inr (λ e. cc)
is_letter (b ∷ []) =
    elim (cases_Bool (b == 100)) [
      | inl t ↦ inl (ap (λ x. x ∷ []) (eqb-true b 100 t))
      | inr f ↦
          inr (λ e. let same : b ≡ 100 = cc in both_ways _ f (eq-eqb b 100 same))
    ]
is_letter (b ∷ c ∷ bs) = inr (λ e. cc)

-- numbers of signed numbers
ids_unsigned : (xs : Signed) → HasIds xs → AllByRecursion IsId (map (λ x. x.1) xs)
ids_unsigned [] h = tt
ids_unsigned (x ∷ xs) h = (h.0, ids_unsigned xs h.1)

ids_literals : (xs : Signed) → HasIds xs
    → AllByRecursion (λ l. IsId l.variable) (map literal_from xs)
ids_literals [] h = tt
ids_literals (x ∷ xs) h = (h.0, ids_literals xs h.1)

ids_leading : (hs : Signed) → HasIds hs → AllByRecursion IsId (leading hs)
ids_leading [] h = tt
ids_leading ((false, n) ∷ hs) h = (h.0, ids_leading hs h.1)
ids_leading ((true, n) ∷ hs) h = tt

ids_groups : (hs : Signed) → HasIds hs → AllByRecursion GroupHasIds (groups_of hs)
ids_groups [] h = tt
ids_groups ((false, n) ∷ hs) h = ids_groups hs h.1
ids_groups ((true, n) ∷ hs) h =
    ((h.0, All-from_recursion IsId (leading hs) (ids_leading hs h.1)), ids_groups hs h.1)

pub ids_signed_literals : (c : List Literal) → AllByRecursion (λ l. IsId l.variable) c
    → HasIds (map signed_literal c)
ids_signed_literals [] h = tt
ids_signed_literals (l ∷ c) h = (h.0, ids_signed_literals c h.1)

ids_append : (xs ys : Signed) → HasIds xs → HasIds ys → HasIds (xs ++ ys)
ids_append [] ys h k = k
ids_append (x ∷ xs) ys h k = (h.0, ids_append xs ys h.1 k)

pub ids_positive : (hints : List ℕ) → AllByRecursion IsId hints → HasIds (map positive hints)
ids_positive [] h = tt
ids_positive (x ∷ xs) h = (h.0, ids_positive xs h.1)

ids_signed_groups : (gs : List CandidateHints) → AllByRecursion GroupHasIds gs
    → HasIds (flat_map signed_group gs)
ids_signed_groups [] h = tt
ids_signed_groups (g ∷ gs) h = (
  h.0.0,
  ids_append (map positive g.hints) (flat_map signed_group gs)
      (ids_positive g.hints (recursion_from_All IsId g.hints h.0.1)) (ids_signed_groups gs h.1),
)

no_dashes : (xs : Signed) → list_any (λ x. x.0) xs ≡ false
    → map spell xs ≡ map decimal (map (λ x. x.1) xs)
no_dashes [] e = refl
no_dashes ((true, n) ∷ xs) e = absurd (true≢false e)
no_dashes ((false, n) ∷ xs) e = ap (λ y. decimal n ∷ y) (no_dashes xs e)

pub dashes_none : (hints : List ℕ) → list_any (λ x. x.0) (map positive hints) ≡ false
dashes_none [] = refl
dashes_none (h ∷ hints) = dashes_none hints

pub unsigned_positive : (hints : List ℕ) → map (λ x. x.1) (map positive hints) ≡ hints
unsigned_positive [] = refl
unsigned_positive (h ∷ hints) = ap (λ y. h ∷ y) (unsigned_positive hints)

ends_means : (o : Option (Signed × List (List ℕ))) (xs : Signed) → ends_at o ≡ Some xs
    → o ≡ Some (xs, [])
unfolding ends_at
ends_means None xs e = absurd (cc)
ends_means (Some (ys, [])) xs e = let same : ys ≡ xs = cc in ap (λ x. Some (x, [])) same
ends_means (Some (ys, t ∷ ts)) xs e = absurd (cc)

-- what a line that is read as a deletion says
deletion_means : (o : Option Signed) (ids : List ℕ) → as_deletion o ≡ Deletion ids
    → (xs : Signed) × (o ≡ Some xs) × (list_any (λ x. x.0) xs ≡ false) × (map (λ x. x.1) xs ≡ ids)
unfolding as_deletion
deletion_means None ids e = absurd (cc)
deletion_means (Some xs) ids e =
    elim (list_any (λ x. x.0) xs) as (λ v. list_any (λ x. x.0) xs ≡ v
    → cond v Malformed (Deletion (map (λ x. x.1) xs)) ≡ Deletion ids
    → (ys : Signed) × (◌≡◌ {A = Option Signed} (Some xs) (Some ys))
    × (list_any (λ x. x.0) ys ≡ false) × (map (λ x. x.1) ys ≡ ids)) [
      | true ↦ λ t e. absurd (cc)
      | false ↦ λ t e. (xs, refl, t, cc)
    ] refl e

deletion_not_addition : (o : Option Signed) (id : ℕ) (c : List Literal) (hs : Signed)
    → as_deletion o ≡ Addition id c hs → ⊥
unfolding as_deletion
deletion_not_addition None id c hs e = cc
deletion_not_addition (Some xs) id c hs e =
    elim (list_any (λ x. x.0) xs) as (λ v. cond v Malformed (Deletion (map (λ x. x.1) xs))
    ≡ Addition id c hs → ⊥) [ true ↦ λ e. cc | false ↦ λ e. cc ] e

addition_means_at : (n : ℕ) (xs : Signed) (o : Option Signed) (id : ℕ) (c : List Literal)
    (hs : Signed) → as_hinted n xs o ≡ Addition id c hs → (o ≡ Some hs) × (n ≡ id)
    × (map literal_from xs ≡ c)
unfolding as_hinted
addition_means_at n xs None id c hs e = absurd (cc)
addition_means_at n xs (Some ys) id c hs e =
    let same : ys ≡ hs = cc in (ap (λ x. Some x) same, cc, cc)

addition_means : (n : ℕ) (o : Option (Signed × List (List ℕ))) (id : ℕ) (c : List Literal)
    (hs : Signed) → as_addition n o ≡ Addition id c hs → (xs : Signed) × (rest : List (List ℕ))
    × (o ≡ Some (xs, rest)) × (block_of rest ≡ Some (hs, [])) × (n ≡ id)
    × (map literal_from xs ≡ c)
unfolding as_addition
addition_means n None id c hs e = absurd (cc)
addition_means n (Some (xs, rest)) id c hs e =
    let h = addition_means_at n xs (ends_at (block_of rest)) id c hs e in
    (xs, rest, refl, ends_means (block_of rest) hs h.0, h.1, h.2)

hinted_not_deletion : (n : ℕ) (xs : Signed) (o : Option Signed) (ids : List ℕ)
    → as_hinted n xs o ≡ Deletion ids → ⊥
unfolding as_hinted
hinted_not_deletion n xs None ids e = cc
hinted_not_deletion n xs (Some ys) ids e = cc

addition_not_deletion : (n : ℕ) (o : Option (Signed × List (List ℕ))) (ids : List ℕ)
    → as_addition n o ≡ Deletion ids → ⊥
unfolding as_addition
addition_not_deletion n None ids e = cc
addition_not_deletion n (Some (xs, rest)) ids e =
    hinted_not_deletion n xs (ends_at (block_of rest)) ids e

abbrev line_added : ℕ → List Literal → Signed → ProofLine
line_added id c hs = AddsLine id c (leading hs) (groups_of hs)

abbrev IsLine : List (List ℕ) → ProofLine → Type 0
IsLine ts l = (ts ≡ line_tokens l) × HasNumbers l

rearranged : (X H G : List (List ℕ)) (z : List ℕ)
    → X ++ (z ∷ ((H ++ G) ++ (z ∷ []))) ≡ ((X ++ (z ∷ H)) ++ G) ++ (z ∷ [])
rearranged X H G z = simp append_assoc

spelled_addition : (id : ℕ) (xs hs : Signed)
    → (decimal id ∷ (map spell xs ++ (codes "0" ∷ (map spell hs ++ (codes "0" ∷ [])))))
    ≡ line_tokens (line_added id (map literal_from xs) hs)
spelled_addition id xs hs =
    let a : map spell xs ≡ map literal_text (map literal_from xs) =
    ap (map spell) (sym (map_literal xs)) ∙ map_spell_literal (map literal_from xs) in
    let b : map spell hs ≡ map decimal (leading hs) ++ flat_map group_tokens (groups_of hs) =
    ap (map spell) (sym (signed_hints-parts hs)) ∙ map_spell_hints (leading hs) (groups_of hs) in
    ap (λ y. decimal id ∷ y) (ap (λ y. y ++ (codes "0" ∷ (map spell hs ++ (codes "0" ∷ [])))) a
    ∙ ap (λ y. map literal_text (map literal_from xs) ++ (codes "0" ∷ (y ++ (codes "0" ∷ [])))) b
    ∙ rearranged (map literal_text (map literal_from xs)) (map decimal (leading hs))
    (flat_map group_tokens (groups_of hs)) (codes "0"))

numbers_addition : (id : ℕ) (xs hs : Signed) → id < 2 ^ 62 → HasIds xs → HasIds hs
    → HasNumbers (line_added id (map literal_from xs) hs)
numbers_addition id xs hs small h k = (
  small,
  All-from_recursion (λ l. IsId l.variable) (map literal_from xs) (ids_literals xs h),
  All-from_recursion IsId (leading hs) (ids_leading hs k),
  All-from_recursion GroupHasIds (groups_of hs) (ids_groups hs k),
)

added_at : (t u : List ℕ) (us : List (List ℕ)) (n id : ℕ) (c : List Literal) (hs : Signed)
    → signed_of t ≡ Some (false, n) → as_addition n (block_of (u ∷ us)) ≡ Addition id c hs
    → IsLine (t ∷ u ∷ us) (line_added id c hs)
added_at t u us n id c hs v e =
    let h = addition_means n (block_of (u ∷ us)) id c hs e in
    let k = signed_means t (false, n) v in
    let b = block_means (u ∷ us) h.0 h.1 h.2 in
    let d = block_means h.1 hs [] h.3 in
    let spelled : (t ∷ u ∷ us) ≡ line_tokens (line_added n (map literal_from h.0) hs) =
    ap (λ y. y ∷ u ∷ us) k.0
    ∙ ap (λ y. decimal n ∷ y) (b.0 ∙ ap (λ y. map spell h.0 ++ (codes "0" ∷ y)) d.0)
    ∙ spelled_addition n h.0 hs in
    subst (λ m. IsLine (t ∷ u ∷ us) (line_added m c hs)) h.4
    (subst (λ cs. IsLine (t ∷ u ∷ us) (line_added n cs hs)) h.5 (
      spelled,
      numbers_addition n h.0 hs k.1 b.1 d.1,
    ))

pub addition_line : (ts : List (List ℕ)) (id : ℕ) (c : List Literal) (hs : Signed)
    → line_of ts ≡ Addition id c hs → IsLine ts (AddsLine id c (leading hs) (groups_of hs))
addition_line [] id c hs e = absurd (cc)
addition_line (t ∷ []) id c hs e = let z = line_alone t in absurd (cc)
addition_line (t ∷ u ∷ us) id c hs e =
    elim (signed_of t) as (λ o. signed_of t ≡ o → IsLine (t ∷ u ∷ us) (line_added id c hs)) [
      | None ↦ λ v. let z = line_bad t (u ∷ us) v in absurd (cc)
      | Some (true, n) ↦ λ v. let z = line_dashed t (u ∷ us) n v in absurd (cc)
      | Some (false, n) ↦ λ v. elim (is_letter u) [
        | inl d ↦ absurd (deletion_not_addition (ends_at (block_of us)) id c hs
            (sym (line_deletes t us n v)
            ∙ subst (λ w. line_of (t ∷ w ∷ us) ≡ Addition id c hs) d e))
        | inr ne ↦ added_at t u us n id c hs v
            (sym (line_adds_at t u us n v ne (block_of (u ∷ us)) refl) ∙ e)
      ]
    ] refl

deleted_at : (t : List ℕ) (us : List (List ℕ)) (n : ℕ) (ids : List ℕ)
    → signed_of t ≡ Some (false, n) → as_deletion (ends_at (block_of us)) ≡ Deletion ids
    → IsLine (t ∷ (100 ∷ []) ∷ us) (DeletesLine n ids)
deleted_at t us n ids v e =
    let h = deletion_means (ends_at (block_of us)) ids e in
    let k = signed_means t (false, n) v in
    let b = block_means us h.0 [] (ends_means (block_of us) h.0 h.1) in (
      ap (λ y. y ∷ (100 ∷ []) ∷ us) k.0
          ∙ ap (λ y. decimal n ∷ (100 ∷ []) ∷ y) (b.0
          ∙ ap (λ y. y ++ (codes "0" ∷ [])) (no_dashes h.0 h.2 ∙ ap (map decimal) h.3)),
      (k.1, All-from_recursion IsId ids (subst (AllByRecursion IsId) h.3 (ids_unsigned h.0 b.1))),
    )

pub deletion_line : (ts : List (List ℕ)) (ids : List ℕ) → line_of ts ≡ Deletion ids
    → (lead : ℕ) × IsLine ts (DeletesLine lead ids)
deletion_line [] ids e = absurd (cc)
deletion_line (t ∷ []) ids e = let z = line_alone t in absurd (cc)
deletion_line (t ∷ u ∷ us) ids e =
    elim (signed_of t) as (λ o. signed_of t ≡ o
    → (lead : ℕ) × IsLine (t ∷ u ∷ us) (DeletesLine lead ids)) [
      | None ↦ λ v. let z = line_bad t (u ∷ us) v in absurd (cc)
      | Some (true, n) ↦ λ v. let z = line_dashed t (u ∷ us) n v in absurd (cc)
      | Some (false, n) ↦ λ v. elim (is_letter u) [
        | inl d ↦ (
          n,
          subst (λ w. IsLine (t ∷ w ∷ us) (DeletesLine n ids)) (sym d)
              (deleted_at t us n ids v (sym (line_deletes t us n v)
              ∙ subst (λ w. line_of (t ∷ w ∷ us) ≡ Deletion ids) d e)),
        )
        | inr ne ↦ absurd (addition_not_deletion n (block_of (u ∷ us)) ids
            (sym (line_adds_at t u us n v ne (block_of (u ∷ us)) refl) ∙ e))
      ]
    ] refl

-- a line from what its blocks are
pub deletes_block : (t : List ℕ) (us : List (List ℕ)) (n : ℕ) (hs : Signed)
    → signed_of t ≡ Some (false, n) → block_of us ≡ Some (hs, []) → list_any (λ x. x.0) hs ≡ false
    → line_of (t ∷ (100 ∷ []) ∷ us) ≡ Deletion (map (λ x. x.1) hs)
unfolding as_deletion ends_at
deletes_block t us n hs e b d = line_deletes t us n e ∙ ap (λ o. as_deletion (ends_at o)) b
    ∙ cond-false (list_any (λ x. x.0) hs) Malformed (Deletion (map (λ x. x.1) hs)) d

-- how a line is read
abbrev pub parsed_of : ProofLine → Parsed
parsed_of (AddsLine id c hints groups) = Addition id c (signed_hints hints groups)
parsed_of (DeletesLine lead ids) = Deletion ids

not_letter : (u : List ℕ) (x : Bool × ℕ) → signed_of u ≡ Some x → u ≡ 100 ∷ [] → ⊥
not_letter u x v e = let z : signed_of u ≡ None = ap signed_of e in cc

read_addition : (n : ℕ) → n < 2 ^ 62 → (xs hs : Signed) → HasIds xs → HasIds hs
    → line_of (decimal n ∷ (map spell xs ++ (codes "0" ∷ (map spell hs ++ (codes "0" ∷ [])))))
    ≡ Addition n (map literal_from xs) hs
unfolding as_addition as_hinted ends_at
read_addition n small [] hs h k =
    line_adds_at (decimal n) (codes "0") (map spell hs ++ (codes "0" ∷ [])) n
    (signed_from false n small) (not_letter (codes "0") (false, 0) refl)
    (Some ([], map spell hs ++ (codes "0" ∷ [])))
    (block_from [] (map spell hs ++ (codes "0" ∷ [])) h)
    ∙ ap (λ o. as_hinted n [] (ends_at o)) (block_from hs [] k)
read_addition n small ((s, m) ∷ xs) hs h k =
    line_adds_at (decimal n) (spell (s, m))
    (map spell xs ++ (codes "0" ∷ (map spell hs ++ (codes "0" ∷ [])))) n
    (signed_from false n small) (not_letter (spell (s, m)) (s, m) (signed_from s m h.0.1))
    (Some ((s, m) ∷ xs, map spell hs ++ (codes "0" ∷ [])))
    (block_from ((s, m) ∷ xs) (map spell hs ++ (codes "0" ∷ [])) h)
    ∙ ap (λ o. as_hinted n ((s, m) ∷ xs) (ends_at o)) (block_from hs [] k)

read_deletion : (n : ℕ) → n < 2 ^ 62 → (ids : List ℕ) → AllByRecursion IsId ids
    → line_of (decimal n ∷ (100 ∷ []) ∷ (map decimal ids ++ (codes "0" ∷ []))) ≡ Deletion ids
unfolding as_deletion ends_at
read_deletion n small ids h =
    line_deletes (decimal n) (map decimal ids ++ (codes "0" ∷ [])) n (signed_from false n small)
    ∙ ap (λ ts. as_deletion (ends_at (block_of (ts ++ (codes "0" ∷ [])))))
    (sym (map_spell_positive ids))
    ∙ ap (λ o. as_deletion (ends_at o)) (block_from (map positive ids) [] (ids_positive ids h))
    ∙ cond-false (list_any (λ x. x.0) (map positive ids)) Malformed
    (Deletion (map (λ x. x.1) (map positive ids))) (dashes_none ids)
    ∙ ap Deletion (unsigned_positive ids)

pub line_read : (l : ProofLine) → HasNumbers l → line_of (line_tokens l) ≡ parsed_of l
line_read (AddsLine id c hints groups) h =
    let xs : Signed = map signed_literal c in
    let hs : Signed = signed_hints hints groups in
    let spelled = spelled_addition id xs hs in
    let same : line_added id (map literal_from xs) hs ≡ AddsLine id c hints groups =
    ap (λ y. AddsLine id y (leading hs) (groups_of hs)) (map_signed c)
    ∙ ap (λ y. AddsLine id c y (groups_of hs)) (leading-signed_hints hints groups)
    ∙ ap (λ y. AddsLine id c hints y) (groups_of-signed_hints hints groups) in
    let k : HasIds hs =
    ids_append (map positive hints) (flat_map signed_group groups)
    (ids_positive hints (recursion_from_All IsId hints h.2))
    (ids_signed_groups groups (recursion_from_All GroupHasIds groups h.3)) in
    ap line_of (sym (spelled ∙ ap line_tokens same))
    ∙ read_addition id h.0 xs hs
    (ids_signed_literals c (recursion_from_All (λ l. IsId l.variable) c h.1)) k
    ∙ ap (λ y. Addition id y hs) (map_signed c)
line_read (DeletesLine lead ids) h = read_deletion lead h.0 ids (recursion_from_All IsId ids h.1)

-- what a line is, by its blocks
ends_none : (o : Option (Signed × List (List ℕ))) → ((hs : Signed) → o ≡ Some (hs, []) → ⊥)
    → ends_at o ≡ None
unfolding ends_at
ends_none None none = refl
ends_none (Some (hs, [])) none = absurd (none hs refl)
ends_none (Some (hs, t ∷ ts)) none = refl

abbrev pub IsLetter : List (List ℕ) → Type 0
IsLetter ts = (us : List (List ℕ)) × (ts ≡ (100 ∷ []) ∷ us)

line_adds : (t : List ℕ) (ts : List (List ℕ)) (n : ℕ) → signed_of t ≡ Some (false, n)
    → (IsLetter ts → ⊥) → line_of (t ∷ ts) ≡ as_addition n (block_of ts)
unfolding as_addition
line_adds t [] n e other = line_alone t
line_adds t (u ∷ us) n e other =
    line_adds_at t u us n e (λ z. other (us, ap (λ v. v ∷ us) z)) (block_of (u ∷ us)) refl

pub breaks_in_hints : (t : List ℕ) (ts : List (List ℕ)) (n : ℕ) (xs : Signed) (rest : List (List ℕ))
    → signed_of t ≡ Some (false, n) → (IsLetter ts → ⊥) → block_of ts ≡ Some (xs, rest)
    → ((hs : Signed) → block_of rest ≡ Some (hs, []) → ⊥) → line_of (t ∷ ts) ≡ Malformed
unfolding as_addition as_hinted
breaks_in_hints t ts n xs rest e other first none =
    line_adds t ts n e other ∙ ap (as_addition n) first
    ∙ ap (as_hinted n xs) (ends_none (block_of rest) none)

pub breaks_in_ids : (t : List ℕ) (us : List (List ℕ)) (n : ℕ) → signed_of t ≡ Some (false, n)
    → ((hs : Signed) → block_of us ≡ Some (hs, []) → ⊥) → line_of (t ∷ (100 ∷ []) ∷ us) ≡ Malformed
unfolding as_deletion
breaks_in_ids t us n e none = line_deletes t us n e ∙ ap as_deletion (ends_none (block_of us) none)
