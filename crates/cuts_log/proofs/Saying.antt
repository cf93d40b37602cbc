-- Texts put out one after another.
use Rattle.std.proofs.Common.{◌≡◌, ℕ, ◌+◌, ◌<◌, Bool, true, false, List, [], ◌∷◌, ◌++◌, length}
use Rattle.std.proofs.Common.{get_or, take, refl, sym, ◌∙◌, ap, subst, append-nil, append_assoc}
use Rattle.std.proofs.Common.{Option}
use Rattle.std.specs.Prelude.{if◌then◌else◌}
use Rattle.std.proofs.KnownBytes.{Appends-nil}
use Rattle.std.specs.List.{flat_map}
use Rattle.std.proofs.lemmas.Bool.{false≢true}
use Rattle.std.proofs.lemmas.List.{take_more}
use Rattle.text.specs.Writing.{AppendsPart, PassesOn}
use Rattle.text.proofs.Laws.{first_fault, flat_map-append, part-more, passed-more, passed-nil}
use Rattle.text.proofs.Laws.{passed_part-more}
use Rattle.cuts_log.specs.Outs.{OutState, Says, feed, fresh, with_feed}

pub says-none : (a : OutState) → Says a [] a
says-none a = record {
  whole = λ e. (e, passed-nil a.had a.held);
  part = λ e f. absurd (false≢true (sym e ∙ f));
  stays = λ e. refl;
}

-- a fault in the second text, or before it
part_after : (a b c : OutState) (x y : List ℕ) (failed : Bool) → b.failed ≡ failed → Says a x b
    → Says b y c → a.failed ≡ false → c.failed ≡ true → AppendsPart a.had c.had (a.held ++ (x ++ y))
part_after a b c x y true w p q e f =
    let same = ap (λ (s : OutState). s.had) (q.stays w) in
    subst (λ z. AppendsPart a.had z (a.held ++ (x ++ y))) (sym same)
    (first_fault a.had b.had a.held x y (x ++ y) (p.part e w) refl)
part_after a b c x y false w p q e f =
    passed_part-more a.had b.had c.had a.held b.held x y (p.whole w).1 (q.part w f)

pub says-more : (a b c : OutState) (x y : List ℕ) → Says a x b → Says b y c → Says a (x ++ y) c
says-more a b c x y p q = record {
  whole = λ e. let k = q.whole e in let h = p.whole k.0 in
      (h.0, passed-more a.had b.had c.had a.held b.held c.held x y h.1 k.1);
  part = λ e f. part_after a b c x y b.failed refl p q e f;
  stays = λ e. let u = p.stays e in q.stays (ap (λ (s : OutState). s.failed) u ∙ e) ∙ u;
}

pub says_as : (a b : OutState) (x y : List ℕ) → x ≡ y → Says a x b → Says a y b
says_as a b x y e p = subst (λ z. Says a z b) e p

-- the texts of a list's items
pub says_at : {X : Type 0} (f : X → List ℕ) (a b c : OutState) (xs : List X) (i : ℕ) (x : X)
    → i < length xs → Says a (flat_map f (take i xs)) b → Says b (f (get_or xs i x)) c
    → Says a (flat_map f (take (i + 1) xs)) c
says_at f a b c xs i x h p q =
    let y = get_or xs i x in
    let e : flat_map f (take i xs) ++ f y ≡ flat_map f (take (i + 1) xs) =
    sym (ap (flat_map f) (take_more xs i x h) ∙ flat_map-append f (take i xs) (y ∷ [])
    ∙ ap (λ z. flat_map f (take i xs) ++ z) (append-nil (f y))) in
    says_as a c _ _ e (says-more a b c (flat_map f (take i xs)) (f y) p q)

pub says_item : {X : Type 0} (f : X → List ℕ) (a b c : OutState) (xs : List X) (i : ℕ) (x : X)
    → i < length xs → x ≡ get_or xs i x → Says a (flat_map f (take i xs)) b → Says b (f x) c
    → Says a (flat_map f (take (i + 1) xs)) c
says_item f a b c xs i x h is p q =
    says_at f a b c xs i x h p (subst (λ z. Says b (f z) c) is q)

-- Line feeds.
passed_as : (a b : Option (List ℕ)) (h i j x y : List ℕ) → h ++ x ≡ i ++ y → PassesOn a h x b j
    → PassesOn a i y b j
passed_as a b h i j x y e p = record {
  written = p.written;
  appended = p.appended;
  split = sym e ∙ p.split;
}

feed_held : (due : Bool) (held y : List ℕ)
    → held ++ (feed due ++ y) ≡ (if due then held ++ 10 ∷ [] else held) ++ y
feed_held true held y = sym (append_assoc held (10 ∷ []) y)
feed_held false held y = refl

-- a text behind one whose line feed may be due
pub says_behind : (a o c : OutState) (due : Bool) (x y : List ℕ) → Says a x (with_feed due o)
    → o.failed ≡ false → Says o (feed due ++ y) c → Says a (x ++ y) c
says_behind a o c due x y p works q =
    let b = with_feed due o in
    let same : o.held ++ (feed due ++ y) ≡ b.held ++ y = feed_held due o.held y in
    says-more a b c x y p (record {
      whole = λ e. (
        works,
        passed_as o.had c.had o.held b.held c.held (feed due ++ y) y same
            (q.whole e).1,
      );
      part = λ _ f. subst (AppendsPart o.had c.had) same (q.part works f);
      stays = λ e. absurd (false≢true (sym works ∙ e));
    })

-- a line feed is due
pub says_feed : (a c : OutState) (x : List ℕ) → a.failed ≡ false → Says a x c
    → Says a (x ++ 10 ∷ []) (with_feed true c)
says_feed a c x works p =
    let same = append_assoc a.held x (10 ∷ []) in record {
      whole = λ e. let k = p.whole e in (
        k.0,
        record {
          written = k.1.written;
          appended = k.1.appended;
          split = sym same ∙ ap (λ z. z ++ 10 ∷ []) k.1.split
              ∙ append_assoc k.1.written c.held (10 ∷ []);
        },
      );
      part = λ e f. subst (AppendsPart a.had c.had) same
          (part-more a.had c.had (a.held ++ x) (10 ∷ []) (p.part e f));
      stays = λ e. absurd (false≢true (sym works ∙ e));
    }

-- a text that is held
pub says_put : (origin : Option (List ℕ)) (text : List ℕ)
    → Says (fresh origin) text (record { had = origin; held = text; failed = false })
says_put origin text = record {
  whole = λ _. (refl, record { written = []; appended = Appends-nil origin; split = refl });
  part = λ _ f. absurd (false≢true f);
  stays = λ e. absurd (false≢true e);
}

-- the writer has a beginning of what was put out
pub begun_part : (origin : Option (List ℕ)) (out : OutState) (text : List ℕ)
    → Says (fresh origin) text out → AppendsPart origin out.had text
begun_part origin out text said = by out.failed refl
  where
    by : (b : Bool) → out.failed ≡ b → AppendsPart origin out.had text
    by true e = said.part refl e
    by false e = let p = (said.whole e).1 in (p.written, (out.held, p.split), p.appended)
