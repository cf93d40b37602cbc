-- What was written of what was found.
use Rattle.std.proofs.Common.{◌≡◌, ℕ, Bool, List, [], ◌++◌, Option, Result, Ok, Err, sym, ◌∙◌, ap}
use Rattle.std.proofs.Common.{true, false, subst}
use Rattle.std.proofs.lemmas.Bool.{false≢true}
use Rattle.std.specs.Prelude.{IfErr, IsOk, OnOk, is_ok}
use Rattle.std.specs.Io.KnownBytes.{Appends, Keeps}
use Rattle.text.specs.Writing.{AppendsPart, Writes}
use Rattle.text.proofs.Laws.{part-kept, writes_kept}
use Rattle.improve_found.specs.declared.found.Found.{Found}
use Rattle.report_text.specs.declared.fault.RunFault.{RunFault}
use Rattle.report_text.specs.declared.fault.RunFault.TheVariants.{Output, ProofOutput}
use Rattle.report_text.specs.Answering.{end_text, proof_text, bits_word, words_text, HasProof}
use Rattle.report_text.specs.Answering.{IsSpelledProof, LeavesAnswer, Answers}

-- the words and bits, by what they were told from
pub end_is : (status words : List ℕ) (bits first last : List Bool)
    → words ≡ status ++ bits_word first → first ≡ bits → last ≡ bits
    → words_text words last ≡ words_text (status ++ bits_word bits) bits
end_is status words bits first last e d f =
    ap (λ z. words_text z last) (e ∙ ap (λ z. status ++ bits_word z) d)
    ∙ ap (words_text (status ++ bits_word bits)) f

-- what was written, by a result that is Ok together with that of the writing
pub all_written : {T E : Type 0} (r : Result T E) (a b : Option (List ℕ)) (x : List ℕ)
    → true ≡ is_ok r → Writes r a x b → Appends a b x
all_written (Ok v) a b x e k = k
all_written (Err d) a b x e k = absurd (false≢true (sym e))

pub part_written : {T E : Type 0} (r : Result T E) (a b : Option (List ℕ)) (x : List ℕ)
    → false ≡ is_ok r → Writes r a x b → AppendsPart a b x
part_written (Ok v) a b x e k = absurd (false≢true e)
part_written (Err d) a b x e k = k

-- the whole text, where it went well
pub ok_with : {T E : Type 0} (r : Result T E) (Q : Type 0) (a b : Option (List ℕ)) (x : List ℕ)
    → (Appends a b x → Q) → Writes r a x b → OnOk r Q
ok_with (Ok v) Q a b x f k = f k
ok_with (Err e) Q a b x f k = tt

-- a fault of this kind, with a beginning of the text
pub err_with : {T E : Type 0} (r : Result T E) (P R : E → Type 0) (a b : Option (List ℕ))
    (x : List ℕ) → ((e : E) → P e → AppendsPart a b x → R e) → IfErr r P → Writes r a x b
    → IfErr r R
err_with (Ok v) P R a b x f h k = tt
err_with (Err e) P R a b x f h k = f e h k

-- a text that was written, and then flushed where that went well
pub delivered : {T E F : Type 0} (written : Result T E) (r : Result T F) (a b c : Option (List ℕ))
    (x : List ℕ) → Writes written a x b → OnOk r (IsOk written) → Keeps b c → Writes r a x c
delivered (Ok v) r a b c x p h k = writes_kept r a b c x p k
delivered (Err e) (Ok v) a b c x p h k = absurd (false≢true h)
delivered (Err e) (Err f) a b c x p h k = part-kept a b c x p k

module _ (found same : Found) (is : found ≡ same) (a b c d : Option (List ℕ)) where
  pub output_left : (fault : RunFault) → fault ≡ Output → AppendsPart a b (end_text same)
      → Appends c d (proof_text same) → IsSpelledProof same → LeavesAnswer fault found a b c d
  output_left fault e p q s =
      subst (λ f. LeavesAnswer f found a b c d) (sym e)
      (subst (λ f. LeavesAnswer Output f a b c d) (sym is)
      (record { out_part = p; proof_grows = q; spelled = s }))

  pub certificate_left : (fault : RunFault) → fault ≡ ProofOutput → Appends a b []
      → AppendsPart c d (proof_text same) → HasProof same → IsSpelledProof same
      → LeavesAnswer fault found a b c d
  certificate_left fault e k q h s =
      subst (λ f. LeavesAnswer f found a b c d) (sym e)
      (subst (λ f. LeavesAnswer ProofOutput f a b c d) (sym is)
      (record { out_kept = k; proof_part = q; has_proof = h; spelled = s }))

  pub answers : Appends a b (end_text same)
      → Appends c d (proof_text same) → IsSpelledProof same → Answers found a b c d
  answers p q s =
      subst (λ f. Answers f a b c d) (sym is)
      (record { out_grows = p; proof_grows = q; spelled = s })
