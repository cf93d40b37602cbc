-- The text of a line, in the pieces in which it is put.
use Rattle.std.proofs.Common.{◌≡◌, ℕ, List, [], ◌∷◌, ◌++◌, map, Option, Some, None, refl, sym}
use Rattle.std.proofs.Common.{◌∙◌, ap, append_assoc, false}
use Rattle.std.specs.Prelude.{if◌then◌else◌}
use Rattle.std.specs.List.{flat_map}
use Rattle.std.specs.Fmt.{decimal}
use lib.Chars.{codes}
use Rattle.cnf.specs.Literal.{Literal}
use Rattle.text.specs.Text.{literal_text}
use Rattle.text.specs.Writing.{joined}
use Rattle.text.proofs.Laws.{flat_map-append, joined-last}
use Rattle.text.specs.LratText.{group_tokens, line_tokens}
use Rattle.cnf.specs.Lrat.{Addition, Deletion}
use Rattle.lrat_log.specs.declared.lines.Hint.{Hint}
use Rattle.lrat_log.specs.Log.{group_ids, id_of, leading_ids, name_of}
use Rattle.lrat_log.specs.Texts.{hints_text, literals_text, number_text}
use Rattle.lrat_log.proofs.Laws.{hints_spaced, literals_spaced, with_spaces}
use Rattle.lrat_read.specs.Words.{NamedFact, CountLine, MoreLine, GroupLine, FormLine}
use Rattle.lrat_read.specs.Words.{CutLine, BoundLine}
use Rattle.lrat_read.specs.WordTokens.{fact_tokens, scale_token, word_tokens}
use Rattle.cuts_log.specs.Facts.{fact_text, facts_text, ids_text, numbers_text}
use Rattle.cuts_log.specs.Facts.{scale_text, spelled}
use Rattle.forms.specs.declared.types.NamedFact.{NamedFact as FormFact}

facts_spaced : (fs : List NamedFact) → with_spaces (flat_map fact_tokens fs) ≡ facts_text fs
facts_spaced [] = refl
facts_spaced (f ∷ fs) =
    ap (λ z. (decimal f.weight ++ 32 ∷ [])
    ++ (((if f.is_numbered then 45 ∷ decimal f.number else decimal f.number) ++ 32 ∷ []) ++ z))
    (facts_spaced fs)
    ∙ sym (append_assoc (decimal f.weight ++ 32 ∷ [])
    ((if f.is_numbered then 45 ∷ decimal f.number else decimal f.number) ++ 32 ∷ []) (facts_text
    fs))

pub facts_spelled : (fs : List FormFact)
    → flat_map (λ f. fact_text (spelled f)) fs ≡ facts_text (map spelled fs)
facts_spelled [] = refl
facts_spelled (f ∷ fs) = ap (λ z. fact_text (spelled f) ++ z) (facts_spelled fs)

scale_spaced : (scale : Option ℕ) → scale_token scale ++ 32 ∷ [] ≡ scale_text scale
scale_spaced None = refl
scale_spaced (Some d) = refl

pub more_text : (n : ℕ)
    → (codes "more " ++ number_text false n) ++ codes "0" ≡ joined (word_tokens (MoreLine n))
more_text n = append_assoc (codes "more ") (number_text false n) (codes "0")
    ∙ ap (λ z. codes "more " ++ z) (append_assoc (decimal n) (32 ∷ []) (codes "0"))

pub bound_text : (n : ℕ)
    → (codes "bound " ++ number_text false n) ++ codes "0" ≡ joined (word_tokens (BoundLine n))
bound_text n = append_assoc (codes "bound ") (number_text false n) (codes "0")
    ∙ ap (λ z. codes "bound " ++ z) (append_assoc (decimal n) (32 ∷ []) (codes "0"))

pub cut_text : (c : List Literal)
    → (codes "cut " ++ literals_text c) ++ codes "0" ≡ joined (word_tokens (CutLine c))
cut_text c = ap (λ z. (codes "cut " ++ z) ++ codes "0") (sym (literals_spaced c))
    ∙ sym (joined-last (codes "cut" ∷ map literal_text c) (codes "0"))

pub count_text : (n : ℕ) (c : List Literal)
    → ((codes "count " ++ number_text false n) ++ literals_text c) ++ codes "0"
    ≡ joined (word_tokens (CountLine n c))
count_text n c =
    ap (λ z. ((codes "count " ++ number_text false n) ++ z) ++ codes "0") (sym (literals_spaced
    c))
    ∙ ap (λ z. z ++ codes "0")
    (append_assoc (codes "count ") (number_text false n) (with_spaces (map literal_text c)))
    ∙ sym (joined-last (codes "count" ∷ decimal n ∷ map literal_text c) (codes "0"))

numbers_spaced : (ns : List ℕ) → with_spaces (map decimal ns) ≡ numbers_text ns
numbers_spaced [] = refl
numbers_spaced (n ∷ ns) = ap (λ z. (decimal n ++ 32 ∷ []) ++ z) (numbers_spaced ns)

pub group_text : (c : List Literal) (ids : List ℕ)
    → (((codes "group " ++ literals_text c) ++ codes "0 ") ++ numbers_text ids) ++ codes "0"
    ≡ joined (word_tokens (GroupLine c ids))
group_text c ids =
    let lits = map literal_text c in
    let nums = map decimal ids in
    let front : List (List ℕ) = codes "group" ∷ (lits ++ codes "0" ∷ nums) in
    let last : literals_text c ++ (codes "0 " ++ numbers_text ids)
    ≡ with_spaces (lits ++ codes "0" ∷ nums) =
    sym (flat_map-append (λ t. t ++ 32 ∷ []) lits (codes "0" ∷ nums)
    ∙ ap (λ z. z ++ with_spaces (codes "0" ∷ nums)) (literals_spaced c)
    ∙ ap (λ z. literals_text c ++ (codes "0 " ++ z)) (numbers_spaced ids)) in
    ap (λ z. z ++ codes "0") (append_assoc (codes "group " ++ literals_text c) (codes "0 ")
    (numbers_text ids)
    ∙ append_assoc (codes "group ") (literals_text c) (codes "0 " ++ numbers_text ids)
    ∙ ap (λ z. codes "group " ++ z) last)
    ∙ sym (joined-last front (codes "0"))
    ∙ ap (λ z. joined (codes "group" ∷ z)) (append_assoc lits (codes "0" ∷ nums) (codes "0" ∷ []))

pub form_text : (scale : Option ℕ) (fs : List NamedFact)
    → ((codes "form " ++ scale_text scale) ++ facts_text fs) ++ codes "0"
    ≡ joined (word_tokens (FormLine scale fs))
form_text scale fs =
    ap (λ z. ((codes "form " ++ z) ++ facts_text fs) ++ codes "0") (sym (scale_spaced scale))
    ∙ ap (λ z. ((codes "form " ++ (scale_token scale ++ 32 ∷ [])) ++ z) ++ codes "0")
    (sym (facts_spaced fs))
    ∙ ap (λ z. z ++ codes "0")
    (append_assoc (codes "form ") (scale_token scale ++ 32 ∷ []) (with_spaces (flat_map fact_tokens
    fs)))
    ∙ sym (joined-last (codes "form" ∷ scale_token scale ∷ flat_map fact_tokens fs) (codes "0"))

-- additions and deletions
ids_spaced : (base : ℕ) (hs : List Hint)
    → with_spaces (map decimal (map (λ h. id_of base (name_of h)) hs)) ≡ ids_text base hs
ids_spaced base [] = refl
ids_spaced base (h ∷ hs) =
    ap (λ z. (decimal (id_of base (name_of h)) ++ 32 ∷ []) ++ z) (ids_spaced base hs)

pub deletion_text : (base last : ℕ) (hs : List Hint)
    → ((number_text false last ++ codes "d ") ++ ids_text base hs) ++ codes "0"
    ≡ joined (line_tokens (Deletion last (map (λ h. id_of base (name_of h)) hs)))
deletion_text base last hs =
    let ids : List (List ℕ) = map decimal (map (λ h. id_of base (name_of h)) hs) in
    ap (λ z. ((number_text false last ++ codes "d ") ++ z) ++ codes "0") (sym (ids_spaced base
    hs))
    ∙ ap (λ z. z ++ codes "0") (append_assoc (number_text false last) (codes "d ") (with_spaces
    ids))
    ∙ sym (joined-last (decimal last ∷ codes "d" ∷ ids) (codes "0"))

pub addition_text : (base id : ℕ) (c : List Literal) (hs : List Hint)
    → (((number_text false id ++ literals_text c) ++ codes "0 ") ++ hints_text base hs) ++ codes "0"
    ≡ joined (line_tokens (Addition id c (leading_ids base hs) (group_ids base hs)))
addition_text base id c hs =
    let lits = map literal_text c in
    let plain = map decimal (leading_ids base hs) in
    let groups = flat_map group_tokens (group_ids base hs) in
    let front : List (List ℕ) = (decimal id ∷ lits ++ codes "0" ∷ plain) ++ groups in
    let same : front ≡ decimal id ∷ lits ++ (codes "0" ∷ (plain ++ groups)) =
    append_assoc (decimal id ∷ lits) (codes "0" ∷ plain) groups in
    sym (joined-last front (codes "0")
    ∙ ap (λ z. with_spaces z ++ codes "0") same
    ∙ ap (λ z. z ++ codes "0") (flat_map-append (λ t. t ++ 32 ∷ []) (decimal id ∷ lits)
    (codes "0" ∷ (plain ++ groups)))
    ∙ ap (λ z. ((number_text false id ++ z) ++ with_spaces (codes "0" ∷ (plain ++ groups)))
    ++ codes "0") (literals_spaced c)
    ∙ ap (λ z. ((number_text false id ++ literals_text c) ++ (codes "0 " ++ z)) ++ codes "0")
    (hints_spaced base hs)
    ∙ ap (λ z. z ++ codes "0") (sym (append_assoc (number_text false id ++ literals_text c)
    (codes "0 ") (hints_text base hs))))
