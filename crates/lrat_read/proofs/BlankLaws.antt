-- A line without a token.
use Rattle.std.proofs.Common.{◌≡◌, ℕ, ◌+◌, ◌-◌, ◌<◌, ◌≤◌, true, false, List, [], ◌∷◌, ◌++◌}
use Rattle.std.proofs.Common.{length, take, drop, get_or, slice_range, inl, inr}
use Rattle.std.proofs.Common.{zero, suc, refl, sym, ◌∙◌, ap, arith, append_assoc}
use Rattle.std.specs.Prelude.{◌==◌}
use Rattle.std.specs.List.{list_all}
use Rattle.std.specs.Str.Lines.{strip_carriage_return}
use Rattle.std.proofs.lemmas.Bool.{and_parts, cases_Bool, cond-false, cond-true, eqb-true}
use Rattle.std.proofs.lemmas.List.{drop_more, length-append}
use Rattle.std.proofs.lemmas.List.Elements.{All-append, All-cons, All-nil}
use Rattle.std.proofs.Math.Seq.{get_or-append_seam, take-append_seam}
use Rattle.text.specs.Text.{is_blank, tokens_of, IsNoFeed}
use Rattle.lrat_read.specs.Batch.{IsFirstRead}
use Rattle.lrat_read.specs.Blanks.{no_tokens}
use Rattle.lrat_read.proofs.Scan.{split_at}

-- a blank is no line feed and no carriage return
blank_is : (b c : ℕ) → is_blank b ≡ true → is_blank c ≡ false → (b == c) ≡ false
blank_is b c h k =
    elim (cases_Bool (b == c)) [
      | inl t ↦ absurd (let e : true ≡ false = sym h ∙ ap is_blank (eqb-true b c t) ∙ k in cc)
      | inr f ↦ f
    ]

no_token : (bs : List ℕ) → list_all is_blank bs ≡ true → tokens_of bs ≡ []
no_token [] e = refl
no_token (b ∷ bs) e =
    let p = and_parts (is_blank b) (list_all is_blank bs) e in
    cond-true (is_blank b) _ _ p.0 ∙ no_token bs p.1

no_feed : (bs : List ℕ) → list_all is_blank bs ≡ true → IsNoFeed bs
no_feed [] e = All-nil (λ b. (b == 10) ≡ false)
no_feed (b ∷ bs) e =
    let p = and_parts (is_blank b) (list_all is_blank bs) e in
    All-cons (λ c. (c == 10) ≡ false) b bs (blank_is b 10 p.0 refl) (no_feed bs p.1)

no_return : (bs : List ℕ) (i : ℕ) → list_all is_blank bs ≡ true → (get_or bs i 0 == 13) ≡ false
no_return [] i e = refl
no_return (b ∷ bs) zero e =
    let p = and_parts (is_blank b) (list_all is_blank bs) e in blank_is b 13 p.0 refl
no_return (b ∷ bs) (suc i) e =
    let p = and_parts (is_blank b) (list_all is_blank bs) e in no_return bs i p.1

module _ (text : List ℕ) (at end : ℕ) (order : at ≤ end)
    (blank : list_all is_blank (slice_range text at end) ≡ true) where
  abbrev blanks : List ℕ
  blanks = slice_range text at end

  byte_at : (k b : ℕ) → k < length text → get_or text k 0 ≡ b → drop k text ≡ b ∷ drop (k + 1) text
  byte_at k b h e = drop_more text k 0 h ∙ ap (λ x. x ∷ drop (k + 1) text) e

  -- blanks and a line feed
  pub blank_to_feed : end < length text → get_or text end 0 ≡ 10
      → IsFirstRead (drop at text) no_tokens (drop (end + 1) text)
  blank_to_feed h feed = record {
    line = blanks;
    split = split_at text at end order ∙ ap (λ r. blanks ++ r) (byte_at end 10 h feed);
    no_feed = no_feed blanks blank;
    read = ap tokens_of whole ∙ no_token blanks blank;
  }
    where
      whole : strip_carriage_return blanks ≡ blanks
      whole = cond-false (get_or blanks (length blanks - 1) 0 == 13) _ _
          (no_return blanks (length blanks - 1) blank)

  -- blanks, a carriage return and a line feed
  pub blank_to_return : end + 1 < length text → get_or text end 0 ≡ 13
      → get_or text (end + 1) 0 ≡ 10 → IsFirstRead (drop at text) no_tokens (drop (end + 2) text)
  blank_to_return h return feed =
      let line = blanks ++ 13 ∷ [] in
      let count : length line - 1 ≡ length blanks =
      omega (arith, length-append blanks (13 ∷ [])) in
      let last : (get_or line (length line - 1) 0 == 13) ≡ true =
      ap (λ i. get_or line i 0 == 13) count ∙ ap (λ b. b == 13)
      (get_or-append_seam blanks 13 [] 0) in
      let stripped : strip_carriage_return line ≡ blanks =
      cond-true (get_or line (length line - 1) 0 == 13) _ _ last
      ∙ ap (λ i. take i line) count ∙ take-append_seam blanks (13 ∷ []) in
      let behind : drop ((end + 1) + 1) text ≡ drop (end + 2) text =
      ap (λ k. drop k text) (omega arith) in
      record {
        line = line;
        split = split_at text at end order
            ∙ ap (λ r. blanks ++ r) (byte_at end 13 (omega arith) return)
            ∙ ap (λ r. blanks ++ 13 ∷ r) (byte_at (end + 1) 10 h feed)
            ∙ ap (λ r. blanks ++ 13 ∷ 10 ∷ r) behind
            ∙ sym (append_assoc blanks (13 ∷ []) (10 ∷ drop (end + 2) text));
        no_feed =
            All-append (λ b. (b == 10) ≡ false) blanks (13 ∷ []) (no_feed blanks blank)
            (All-cons (λ b. (b == 10) ≡ false) 13 [] refl (All-nil (λ b. (b == 10) ≡ false)));
        read = ap tokens_of stripped ∙ no_token blanks blank;
      }
