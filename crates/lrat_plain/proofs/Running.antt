-- Lines that come in pieces, one after the other.
use Rattle.std.proofs.Common.{◌≡◌, ℕ, List, [], ◌∷◌, ◌++◌, Option, refl, sym}
use Rattle.std.proofs.Common.{◌∙◌, ap, subst, append_assoc, append-nil, arith, length-append}
use Rattle.std.specs.Prelude.{◌==◌, false}
use Rattle.std.specs.Str.Lines.{strip_carriage_return}
use Rattle.std.specs.Io.KnownBytes.{Consumes, IsAtEnd}
use Rattle.std.proofs.KnownBytes.{Consumes-nil, Consumes-trans}
use Rattle.std.proofs.lemmas.List.Elements.{All-append, All-nil}
use Rattle.text.specs.LratText.{line_tokens}
use Rattle.text.specs.Writing.{PassesOn, spaced}
use Rattle.text.specs.Text.{IsNoFeed, token_lines, tokens_of}
use Rattle.text.proofs.Laws.{flat_map-append, line_tokens-first, passed-more, passed-nil}
use Rattle.bound.specs.Bound.{dimacs_clause}
use Rattle.lrat_cuts.specs.Machine.{judged_after}
use Rattle.lrat_plain.specs.Steps.{FaultOf, WritesSteps, made_after, lines_after}
use Rattle.lrat_plain.specs.Runs.{FaultAfter, FaultWithin, RunsOn, RunsWhole}
use Rattle.lrat_plain.specs.declared.faults.PlainFault.{PlainFault}
use Rattle.lrat_plain.specs.declared.plain.Steps.{Steps}
use Rattle.lrat_plain.specs.declared.streams.Run.{Run}

-- no line
pub goes_nowhere : (s : Steps) (a b : Option (List ℕ)) → WritesSteps s s [] a a b b
goes_nowhere s a b = record {
  made = [];
  plain = [];
  takes = record {
    judged = λ more. refl;
    makes = λ more. refl;
    says = λ more. refl;
    given = refl;
    all = refl;
    count = omega arith;
  };
  formula = passed-nil a s.formula;
  certificate = passed-nil b s.certificate;
}

-- lines after lines
pub goes_further : (x y z : Steps) (l m : List (List (List ℕ))) (a b c d e f : Option (List ℕ))
    → WritesSteps x y l a b d e → WritesSteps y z m b c e f → WritesSteps x z (l ++ m) a c d f
goes_further x y z l m a b c d e f p q = record {
  made = p.made ++ q.made;
  plain = p.plain ++ q.plain;
  takes = record {
    judged = λ more. ap (judged_after x.machine) (append_assoc l m more)
        ∙ (p.takes).judged (m ++ more) ∙ (q.takes).judged more;
    makes = λ more. ap (made_after x.machine) (append_assoc l m more)
        ∙ (p.takes).makes (m ++ more) ∙ ap (λ w. p.made ++ w) ((q.takes).makes more)
        ∙ sym (append_assoc p.made q.made (made_after z.machine more));
    says = λ more. ap (lines_after x.names x.machine) (append_assoc l m more)
        ∙ (p.takes).says (m ++ more) ∙ ap (λ w. p.plain ++ w) ((q.takes).says more)
        ∙ sym (append_assoc p.plain q.plain (lines_after z.names z.machine more));
    given = (q.takes).given ∙ (p.takes).given;
    all = (q.takes).all ∙ (p.takes).all;
    count = omega (arith, (p.takes).count, (q.takes).count, length-append p.made q.made);
  };
  formula =
      subst (λ w. PassesOn a x.formula w c z.formula)
      (sym (flat_map-append dimacs_clause p.made q.made))
      (passed-more a b c x.formula y.formula z.formula _ _ p.formula q.formula);
  certificate =
      subst (λ w. PassesOn d x.certificate w f z.certificate)
      (sym (flat_map-append (λ l. spaced (line_tokens l)) p.plain q.plain))
      (passed-more d e f x.certificate y.certificate z.certificate _ _ p.certificate
      q.certificate);
}

-- nothing was read
pub runs_nowhere : (r : Run) (a b : Option (List ℕ)) → IsNoFeed r.rest → RunsOn r r [] a a b b
runs_nowhere r a b n = record {
  lines = [];
  reads = record { whole = λ more. refl; no_feed = n };
  goes = goes_nowhere r.steps a b;
}

pub runs_further : (x y z : Run) (s t : List ℕ) (a b c d e f : Option (List ℕ))
    → RunsOn x y s a b d e → RunsOn y z t b c e f → RunsOn x z (s ++ t) a c d f
runs_further x y z s t a b c d e f p q = record {
  lines = p.lines ++ q.lines;
  reads = record {
    whole = λ more. ap (λ w. token_lines (x.rest ++ w)) (append_assoc s t more)
        ∙ (p.reads).whole (t ++ more) ∙ ap (λ w. p.lines ++ w) ((q.reads).whole more)
        ∙ sym (append_assoc p.lines q.lines (token_lines (z.rest ++ more)));
    no_feed = (q.reads).no_feed;
  };
  goes = goes_further x.steps y.steps z.steps p.lines q.lines a b c d e f p.goes q.goes;
}

-- the first fault of what follows is that of all
pub fault_further : (x y : Run) (s t : List ℕ) (a b d e : Option (List ℕ)) (fault : PlainFault)
    → RunsOn x y s a b d e → FaultAfter y t fault → FaultAfter x (s ++ t) fault
fault_further x y s t a b d e fault p h = λ cause n is more.
    ap (λ w. judged_after (x.steps).machine (token_lines (x.rest ++ w))) (append_assoc s t more)
    ∙ ap (judged_after (x.steps).machine) ((p.reads).whole (t ++ more))
    ∙ ((p.goes).takes).judged (token_lines (y.rest ++ (t ++ more)))
    ∙ h cause n is more

-- whatever else was given
pub fault_longer : (x : Run) (s t : List ℕ) (fault : PlainFault) → FaultAfter x s fault
    → FaultAfter x (s ++ t) fault
fault_longer x s t fault h = λ cause n is more.
    ap (λ w. judged_after (x.steps).machine (token_lines (x.rest ++ w))) (append_assoc s t more)
    ∙ h cause n is (t ++ more)

pub no_feed_nil : IsNoFeed []
no_feed_nil = All-nil (λ b. (b == 10) ≡ false)

-- a line that these bytes and a line feed end
module _ (kept end : List ℕ) (k : IsNoFeed kept) (n : IsNoFeed end) where
  abbrev line : List ℕ
  line = strip_carriage_return (kept ++ end)

  pub line_read : (more : List ℕ)
      → token_lines (kept ++ ((end ++ 10 ∷ []) ++ more)) ≡ tokens_of line ∷ token_lines more
  line_read more =
      let e : kept ++ ((end ++ 10 ∷ []) ++ more) ≡ (kept ++ end) ++ 10 ∷ more =
      simp append_assoc in
      ap token_lines e
      ∙ line_tokens-first (kept ++ end) more (All-append (λ b. (b == 10) ≡ false) kept end k n)

module _ (x y : Run) (end : List ℕ) (n : IsNoFeed end) (k : IsNoFeed x.rest) where
  pub line_runs : (a b d e : Option (List ℕ)) → y.rest ≡ []
      → WritesSteps x.steps y.steps (tokens_of (line x.rest end k n) ∷ []) a b d e
      → RunsOn x y (end ++ 10 ∷ []) a b d e
  line_runs a b d e empty g = record {
    lines = tokens_of (line x.rest end k n) ∷ [];
    reads = record {
      whole = λ more. line_read x.rest end k n more
          ∙ ap (λ w. tokens_of (line x.rest end k n) ∷ token_lines (w ++ more)) (sym empty);
      no_feed = subst IsNoFeed (sym empty) no_feed_nil;
    };
    goes = g;
  }

  pub line_fault : (fault : PlainFault)
      → FaultOf (x.steps).machine (tokens_of (line x.rest end k n) ∷ []) fault
      → FaultAfter x (end ++ 10 ∷ []) fault
  line_fault fault h = λ cause m is more.
      ap (judged_after (x.steps).machine) (line_read x.rest end k n more)
      ∙ h cause m is (token_lines more)

-- bytes in which no line ends are kept
pub kept_runs : (x y : Run) (bytes : List ℕ) (a b : Option (List ℕ)) → IsNoFeed bytes
    → IsNoFeed x.rest → y.steps ≡ x.steps → y.rest ≡ x.rest ++ bytes
    → RunsOn x y bytes a a b b
kept_runs x y bytes a b n k same kept = record {
  lines = [];
  reads = record {
    whole = λ more. ap token_lines (sym (append_assoc x.rest bytes more))
        ∙ ap (λ w. token_lines (w ++ more)) (sym kept);
    no_feed = subst IsNoFeed (sym kept) (All-append (λ c. (c == 10) ≡ false) x.rest bytes k n);
  };
  goes = subst (λ s. WritesSteps x.steps s [] a a b b) (sym same) (goes_nowhere x.steps a b);
}

-- a part of the piece was taken
pub record IsTaken (old new : Run) (piece left : List ℕ) (a b d e : Option (List ℕ)) : Type 0 where
  pub taken : List ℕ
  pub split : piece ≡ taken ++ left
  pub runs : RunsOn old new taken a b d e

pub none_taken : (r : Run) (piece : List ℕ) (a d : Option (List ℕ)) → IsNoFeed r.rest
    → IsTaken r r piece piece a a d d
none_taken r piece a d n = record { taken = []; split = refl; runs = runs_nowhere r a d n }

module _ (x y : Run) (piece left : List ℕ) (a b d e : Option (List ℕ))
    (p : IsTaken x y piece left a b d e) where
  pub more_taken : (z : Run) (text rest : List ℕ) (c f : Option (List ℕ)) → left ≡ text ++ rest
      → RunsOn y z text b c e f → IsTaken x z piece rest a c d f
  more_taken z text rest c f split q = record {
    taken = p.taken ++ text;
    split = p.split ∙ ap (λ w. p.taken ++ w) split ∙ sym (append_assoc p.taken text rest);
    runs = runs_further x y z p.taken text a b c d e f p.runs q;
  }

  pub all_taken_of : (z : Run) (c f : Option (List ℕ)) → RunsOn y z left b c e f
      → RunsOn x z piece a c d f
  all_taken_of z c f q =
      subst (λ w. RunsOn x z w a c d f) (sym p.split)
      (runs_further x y z p.taken left a b c d e f p.runs q)

  pub fault_taken : (text rest : List ℕ) (fault : PlainFault) → left ≡ text ++ rest
      → FaultAfter y text fault → FaultAfter x piece fault
  fault_taken text rest fault split h =
      subst (λ w. FaultAfter x w fault) (sym (p.split ∙ ap (λ w. p.taken ++ w) split
      ∙ sym (append_assoc p.taken text rest)))
      (fault_longer x (p.taken ++ text) rest fault
      (fault_further x y p.taken text a b d e fault p.runs h))

-- some bytes were read, and a run went on by them
pub record HasRead (old new : Run) (had left a b d e : Option (List ℕ)) : Type 0 where
  pub bytes : List ℕ
  pub read : Consumes had left bytes
  pub runs : RunsOn old new bytes a b d e

pub nothing_read : (r : Run) (had a d : Option (List ℕ)) → IsNoFeed r.rest
    → HasRead r r had had a a d d
nothing_read r had a d n = record {
  bytes = [];
  read = Consumes-nil had;
  runs = runs_nowhere r a d n;
}

module _ (x y : Run) (had left a b d e : Option (List ℕ)) (p : HasRead x y had left a b d e) where
  pub more_read : (z : Run) (now c f : Option (List ℕ)) (bytes : List ℕ)
      → Consumes left now bytes → RunsOn y z bytes b c e f → HasRead x z had now a c d f
  more_read z now c f bytes r q = record {
    bytes = p.bytes ++ bytes;
    read = Consumes-trans had left now p.bytes bytes p.read r;
    runs = runs_further x y z p.bytes bytes a b c d e f p.runs q;
  }

  pub fault_read : (now : Option (List ℕ)) (bytes : List ℕ) (fault : PlainFault)
      → Consumes left now bytes → FaultAfter y bytes fault
      → FaultWithin (x.steps).machine x.rest had now fault
  fault_read now bytes fault r h = λ cause n is. (
    p.bytes ++ bytes,
    Consumes-trans had left now p.bytes bytes p.read r,
    λ more end. fault_further x y p.bytes bytes a b d e fault p.runs h cause n is more,
  )

  -- the reader is at its end: what is kept is one line more
  module _ (now : Option (List ℕ)) (nothing : Consumes left now []) (end : IsAtEnd now) where
    read_all : Consumes had now p.bytes
    read_all = subst (Consumes had now) (append-nil p.bytes)
        (Consumes-trans had left now p.bytes [] p.read nothing)

    lines_all : p.runs.lines ++ token_lines y.rest ≡ token_lines (x.rest ++ p.bytes)
    lines_all =
        ap (λ w. p.runs.lines ++ token_lines w) (sym (append-nil y.rest))
        ∙ sym ((p.runs.reads).whole [])
        ∙ ap (λ w. token_lines (x.rest ++ w)) (append-nil p.bytes)

    pub runs_all : (z : Run) (c f : Option (List ℕ))
        → WritesSteps y.steps z.steps (token_lines y.rest) b c e f
        → RunsWhole x z had now a c d f
    runs_all z c f q = record {
      bytes = p.bytes;
      read = read_all;
      whole = end;
      goes = subst (λ l. WritesSteps x.steps z.steps l a c d f) lines_all
          (goes_further x.steps y.steps z.steps p.runs.lines (token_lines y.rest) a b c d e f
          p.runs.goes q);
    }

    pub fault_all : (fault : PlainFault)
        → FaultOf (y.steps).machine (token_lines y.rest) fault
        → FaultWithin (x.steps).machine x.rest had now fault
    fault_all fault h = λ cause n is. (
      p.bytes,
      read_all,
      λ more last. ap (λ w. judged_after (x.steps).machine (token_lines (x.rest ++ (p.bytes ++ w))))
          (last end)
          ∙ ap (judged_after (x.steps).machine) ((p.runs.reads).whole [])
          ∙ ((p.runs.goes).takes).judged (token_lines (y.rest ++ []))
          ∙ ap (λ w. judged_after (y.steps).machine (token_lines w)) (append-nil y.rest)
          ∙ ap (judged_after (y.steps).machine) (sym (append-nil (token_lines y.rest)))
          ∙ h cause n is [],
    )
