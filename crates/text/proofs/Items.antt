-- The texts of a list's items, put one after another by way of a block.
use Rattle.std.proofs.Common.{◌≡◌, ℕ, ◌+◌, ◌<◌, ◌≤◌, List, [], ◌∷◌, ◌++◌, length, take, drop}
use Rattle.std.proofs.Common.{get_or, Option, refl, sym, ◌∙◌, ap, subst, append_assoc, append-nil}
use Rattle.std.proofs.Common.{take-append-drop}
use Rattle.std.specs.List.{flat_map}
use Rattle.std.proofs.lemmas.List.{take_more, drop_more, take_all}
use Rattle.text.specs.Writing.{PassesOn, AppendsPart}
use Rattle.text.proofs.Passing.{passed-more, passed_fault}

pub flat_map-append : {X : Type 0} (f : X → List ℕ) (xs ys : List X)
    → flat_map f (xs ++ ys) ≡ flat_map f xs ++ flat_map f ys
flat_map-append f [] ys = refl
flat_map-append f (x ∷ xs) ys = ap (λ z. f x ++ z) (flat_map-append f xs ys)
    ∙ sym (append_assoc (f x) (flat_map f xs) (flat_map f ys))

-- the text of a list, up to an item and after it
split_text : {X : Type 0} (f : X → List ℕ) (xs : List X) (i : ℕ) (x : X) → i < length xs
    → x ≡ get_or xs i x
    → flat_map f xs ≡ flat_map f (take i xs) ++ (f x ++ flat_map f (drop (i + 1) xs))
split_text f xs i x h is =
    ap (flat_map f) (sym (take-append-drop i xs)
    ∙ ap (λ z. take i xs ++ z) (drop_more xs i x h ∙ ap (λ z. z ∷ drop (i + 1) xs) (sym is)))
    ∙ flat_map-append f (take i xs) (x ∷ drop (i + 1) xs)

text_more : {X : Type 0} (f : X → List ℕ) (xs : List X) (i : ℕ) (x : X) → i < length xs
    → x ≡ get_or xs i x → flat_map f (take (i + 1) xs) ≡ flat_map f (take i xs) ++ f x
text_more f xs i x h is =
    ap (flat_map f) (take_more xs i x h ∙ ap (λ z. take i xs ++ z ∷ []) (sym is))
    ∙ flat_map-append f (take i xs) (x ∷ [])
    ∙ ap (λ z. flat_map f (take i xs) ++ z) (append-nil (f x))

-- one more item was put
pub items_more : {X : Type 0} (f : X → List ℕ) (a b c : Option (List ℕ)) (h j k head : List ℕ)
    (xs : List X) (i : ℕ) (x : X) → i < length xs → x ≡ get_or xs i x
    → PassesOn a h (head ++ flat_map f (take i xs)) b j → PassesOn b j (f x) c k
    → PassesOn a h (head ++ flat_map f (take (i + 1) xs)) c k
items_more f a b c h j k head xs i x lt is p q =
    let e : head ++ flat_map f (take (i + 1) xs) ≡ (head ++ flat_map f (take i xs)) ++ f x =
    ap (λ z. head ++ z) (text_more f xs i x lt is)
    ∙ sym (append_assoc head (flat_map f (take i xs)) (f x)) in
    subst (λ z. PassesOn a h z c k) (sym e)
    (passed-more a b c h j k (head ++ flat_map f (take i xs)) (f x) p q)

-- a fault in an item, or before its end
pub items_fault : {X : Type 0} (f : X → List ℕ) (a b c : Option (List ℕ))
    (h j head part rest tail : List ℕ) (xs : List X) (i : ℕ) (x : X) → i < length xs
    → x ≡ get_or xs i x → f x ≡ part ++ rest → PassesOn a h (head ++ flat_map f (take i xs)) b j
    → AppendsPart b c (j ++ part) → AppendsPart a c (h ++ ((head ++ flat_map f xs) ++ tail))
items_fault f a b c h j head part rest tail xs i x lt is e p q =
    let front = flat_map f (take i xs) in
    let back = flat_map f (drop (i + 1) xs) in
    let whole : (head ++ flat_map f xs) ++ tail ≡ (head ++ front)
    ++ (part ++ (rest ++ (back ++ tail))) =
    ap (λ z. (head ++ z) ++ tail) (split_text f xs i x lt is ∙ ap (λ z. front ++ (z ++ back)) e)
    ∙ simp append_assoc in
    passed_fault a b c h j (head ++ front) part (rest ++ (back ++ tail)) _ p q whole

pub all_taken : {X : Type 0} (f : X → List ℕ) (xs : List X) (i : ℕ) → length xs ≤ i
    → flat_map f (take i xs) ≡ flat_map f xs
all_taken f xs i h = ap (flat_map f) (take_all i xs h)
