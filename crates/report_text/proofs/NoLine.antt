-- A line of words, a number and a line feed, as it is put together.
use Rattle.std.proofs.Common.{ℕ, List, [], ◌++◌, Option, Result, refl, sym, ◌∙◌, ap, subst}
use Rattle.std.proofs.Common.{append_assoc, append-nil}
use Rattle.text.specs.Writing.{PassesOn, AppendsPart, Writes}
use Rattle.text.proofs.Laws.{first_fault, passed-more, passed_fault, writes_after}

module _ (a b : Option (List ℕ)) (x d e : List ℕ) where
  pub words_fault : AppendsPart a b ([] ++ x) → AppendsPart a b (x ++ (d ++ e))
  words_fault h = first_fault a b [] x (d ++ e) (x ++ (d ++ e)) h refl

  module _ (c : Option (List ℕ)) (i : List ℕ) (p : PassesOn a [] x b i) where
    pub number_fault : AppendsPart b c (i ++ d) → AppendsPart a c (x ++ (d ++ e))
    number_fault h = passed_fault a b c [] i x d e (x ++ (d ++ e)) p h refl

    module _ (f : Option (List ℕ)) (j : List ℕ) (q : PassesOn b i d c j) where
      numbered : PassesOn a [] (x ++ d) c j
      numbered = passed-more a b c [] i j x d p q

      pub end_fault : AppendsPart c f (j ++ e) → AppendsPart a f (x ++ (d ++ e))
      end_fault h =
          passed_fault a c f [] j (x ++ d) e [] (x ++ (d ++ e)) numbered h (sym (append_assoc x d e)
          ∙ ap (λ z. (x ++ d) ++ z) (sym (append-nil e)))

      module _ (g : Option (List ℕ)) (k : List ℕ) (r : PassesOn c j e f k) where
        ended : PassesOn a [] (x ++ (d ++ e)) f k
        ended =
            subst (λ z. PassesOn a [] z f k) (append_assoc x d e)
            (passed-more a c f [] j k (x ++ d) e numbered r)

        pub line_written : {T E : Type 0} (result : Result T E) → Writes result f k g
            → Writes result a (x ++ (d ++ e)) g
        line_written result h = writes_after result a f g [] k (x ++ (d ++ e)) ended h
