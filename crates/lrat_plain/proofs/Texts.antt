-- Lines that are put piece by piece.
use Rattle.std.proofs.Common.{◌≡◌, ℕ, List, [], ◌∷◌, ◌++◌, map, Option, Result, Ok, Err, OnOk, refl}
use Rattle.std.proofs.Common.{sym, ◌∙◌, ap, subst, append_assoc, append-nil}
use Rattle.std.specs.List.{flat_map}
use Rattle.std.specs.Prelude.{IfErr}
use Rattle.std.specs.Fmt.{decimal}
use lib.Chars.{codes}
use Rattle.cnf.specs.Literal.{Literal}
use Rattle.cnf.specs.Lrat.{Addition, Deletion}
use Rattle.text.specs.LratText.{line_tokens}
use Rattle.text.specs.Text.{literal_text}
use Rattle.text.specs.Writing.{PassesOn, Puts, spaced}
use Rattle.text.proofs.Laws.{flat_map-append, passed-nil, passed-more, spaced-last}
use Rattle.bound.specs.Bound.{dimacs_clause, header_line}

-- only what went well is told
pub puts_ok : {T E : Type 0} (r : Result T E) (a b : Option (List ℕ)) (h x j : List ℕ)
    → Puts r a h x b j → OnOk r (PassesOn a h x b j)
puts_ok (Ok v) a b h x j p = p
puts_ok (Err e) a b h x j p = tt

pub ok_weaker : {T E : Type 0} (P Q : Type 0) (r : Result T E) → OnOk r P → (P → Q) → OnOk r Q
ok_weaker P Q (Ok v) p f = f p
ok_weaker P Q (Err e) p f = tt

pub ok_both : {T E : Type 0} (P Q : Type 0) (r : Result T E) → OnOk r P → OnOk r Q
    → OnOk r (P × Q)
ok_both P Q (Ok v) p q = (p, q)
ok_both P Q (Err e) p q = tt

pub if_err_weaker : {T E : Type 0} (P Q : E → Type 0) (r : Result T E)
    → ((e : E) → P e → Q e) → IfErr r P → IfErr r Q
if_err_weaker P Q (Ok v) f p = tt
if_err_weaker P Q (Err e) f p = f e p

pub puts_ok_as : {T E : Type 0} (r : Result T E) (a b : Option (List ℕ)) (h x y j : List ℕ)
    → x ≡ y → Puts r a h x b j → OnOk r (PassesOn a h y b j)
puts_ok_as r a b h x y j e p = puts_ok r a b h y j (subst (λ z. Puts r a h z b j) e p)

pub passed_as : (a b : Option (List ℕ)) (h x y j : List ℕ) → x ≡ y → PassesOn a h x b j
    → PassesOn a h y b j
passed_as a b h x y j e p = subst (λ z. PassesOn a h z b j) e p

-- of the whole text all but what is left was put
pub record IsPutUpTo (old : Option (List ℕ)) (held whole left : List ℕ) (new : Option (List ℕ))
    (holds : List ℕ) : Type 0 where
  pub text : List ℕ
  pub passed : PassesOn old held text new holds
  pub split : whole ≡ text ++ left

pub none_put : (a : Option (List ℕ)) (h whole left : List ℕ) → whole ≡ left
    → IsPutUpTo a h whole left a h
none_put a h whole left e = record { text = []; passed = passed-nil a h; split = e }

pub all_put : (a b : Option (List ℕ)) (h whole left j : List ℕ) → left ≡ []
    → IsPutUpTo a h whole left b j → PassesOn a h whole b j
all_put a b h whole left j e p =
    subst (λ z. PassesOn a h z b j)
    (sym (append-nil p.text) ∙ ap (λ z. p.text ++ z) (sym e) ∙ sym p.split) p.passed

pub put_more : (a b c : Option (List ℕ)) (h whole j k left piece rest : List ℕ)
    → left ≡ piece ++ rest → IsPutUpTo a h whole left b j → PassesOn b j piece c k
    → IsPutUpTo a h whole rest c k
put_more a b c h whole j k left piece rest e p q = record {
  text = p.text ++ piece;
  passed = passed-more a b c h j k p.text piece p.passed q;
  split = p.split ∙ ap (λ z. p.text ++ z) e ∙ sym (append_assoc p.text piece rest);
}

abbrev spaced_one : List ℕ → List ℕ
spaced_one t = t ++ 32 ∷ []

abbrev pub lits_text : List Literal → List ℕ
lits_text c = flat_map (λ l. spaced_one (literal_text l)) c

flat_map-map : {X Y : Type 0} (f : Y → List ℕ) (g : X → Y) (xs : List X)
    → flat_map f (map g xs) ≡ flat_map (λ x. f (g x)) xs
flat_map-map f g [] = refl
flat_map-map f g (x ∷ xs) = ap (λ z. f (g x) ++ z) (flat_map-map f g xs)

pub clause_text : (c : List Literal) → lits_text c ++ codes "0\n" ≡ dimacs_clause c
clause_text c =
    sym (spaced-last (map literal_text c) (codes "0")
    ∙ ap (λ z. z ++ codes "0\n") (flat_map-map spaced_one literal_text c))

pub header_text : (v n : ℕ)
    → codes "p cnf " ++ ((decimal v ++ 32 ∷ []) ++ (decimal n ++ 10 ∷ [])) ≡ header_line v n
header_text v n = ap (λ z. codes "p cnf " ++ z) (append_assoc (decimal v) (32 ∷ [])
    (decimal n ++ 10 ∷ []))

module _ (r : ℕ → ℕ) where
  pub named_text : {X : Type 0} (f : X → ℕ) (xs : List X)
      → flat_map spaced_one (map decimal (map (λ x. r (f x)) xs))
      ≡ flat_map (λ x. decimal (r (f x)) ++ 32 ∷ []) xs
  named_text f xs =
      flat_map-map spaced_one decimal (map (λ x. r (f x)) xs)
      ∙ flat_map-map (λ n. decimal n ++ 32 ∷ []) (λ x. r (f x)) xs

pub addition_text : (id : ℕ) (c : List Literal) (hs : List ℕ) (ids : List ℕ)
    → flat_map spaced_one (map decimal hs) ≡ ids
    → (decimal id ++ 32 ∷ []) ++ (lits_text c ++ (codes "0 " ++ (ids ++ codes "0\n")))
    ≡ spaced (line_tokens (Addition id c hs []))
addition_text id c hs ids e =
    let front : List (List ℕ) = decimal id ∷ (map literal_text c ++ codes "0" ∷ map decimal hs) in
    let tokens : front ++ codes "0" ∷ [] ≡ line_tokens (Addition id c hs []) =
    ap (λ z. z ++ codes "0" ∷ []) (sym (append-nil front)) in
    let inner : flat_map spaced_one (map literal_text c ++ codes "0" ∷ map decimal hs)
    ≡ lits_text c ++ (codes "0 " ++ ids) =
    flat_map-append spaced_one (map literal_text c) (codes "0" ∷ map decimal hs)
    ∙ ap (λ z. z ++ flat_map spaced_one (codes "0" ∷ map decimal hs))
    (flat_map-map spaced_one literal_text c)
    ∙ ap (λ z. lits_text c ++ (codes "0 " ++ z)) e in
    sym (ap spaced (sym tokens) ∙ spaced-last front (codes "0")
    ∙ ap (λ z. ((decimal id ++ 32 ∷ []) ++ z) ++ codes "0\n") inner
    ∙ append_assoc (decimal id ++ 32 ∷ []) (lits_text c ++ (codes "0 " ++ ids)) (codes "0\n")
    ∙ ap (λ z. (decimal id ++ 32 ∷ []) ++ z)
    (append_assoc (lits_text c) (codes "0 " ++ ids) (codes "0\n")
    ∙ ap (λ z. lits_text c ++ z) (append_assoc (codes "0 ") ids (codes "0\n"))))

pub deletion_text : (lead : ℕ) (hs ids : List ℕ) → flat_map spaced_one (map decimal hs) ≡ ids
    → (decimal lead ++ 32 ∷ []) ++ (codes "d " ++ (ids ++ codes "0\n"))
    ≡ spaced (line_tokens (Deletion lead hs))
deletion_text lead hs ids e =
    let front = decimal lead ∷ codes "d" ∷ map decimal hs in
    sym (spaced-last front (codes "0")
    ∙ ap (λ z. ((decimal lead ++ 32 ∷ []) ++ (codes "d " ++ z)) ++ codes "0\n") e
    ∙ append_assoc (decimal lead ++ 32 ∷ []) (codes "d " ++ ids) (codes "0\n")
    ∙ ap (λ z. (decimal lead ++ 32 ∷ []) ++ z) (append_assoc (codes "d ") ids (codes "0\n")))
