-- The verdict on a certificate, against what a certificate is.
use Rattle.std.proofs.Common.{◌≡◌, ℕ, ◌+◌, Bool, true, false, List, [], ◌∷◌, ◌++◌, map, Option}
use Rattle.std.proofs.Common.{Some, None, ◌⊎◌, inl, inr, refl, sym, ◌∙◌, ap, subst}
use Rattle.std.specs.Prelude.{◌↔◌, All, filter}
use Rattle.std.specs.List.{AllByRecursion}
use Rattle.std.proofs.lemmas.Bool.{false≢true, true≢false}
use Rattle.std.proofs.lemmas.List.Elements.{All-from_recursion, recursion_from_All, All-weaker}
use Rattle.cnf.specs.Literal.{Literal}
use Rattle.cnf.specs.Clause.{has_repeat}
use Rattle.cnf.specs.Formula.{Cnf, IsFormula, IsFormulaClause}
use Rattle.text.specs.Text.{token_lines}
use Rattle.cnf.specs.Lrat.{ProofLine, Addition as AddsLine, Deletion as DeletesLine}
use Rattle.text.specs.LratText.{line_tokens}
use Rattle.text.specs.LratText.{HasNumbers, has_tokens}
use Rattle.cnf.specs.Lrat.{Live, start_of, with_clause, Step, Chain}
use Rattle.cnf.specs.Lrat.{adds_empty, Accepts, AcceptsFrom}
use Rattle.lrat_machine.specs.Proofs.{IsProofOver}
use Rattle.lrat_machine.specs.declared.verdicts.Cause.{Cause}
use Rattle.lrat_machine.specs.declared.verdicts.Cause.TheVariants.{LineForm, DeadId}
use Rattle.lrat_machine.specs.declared.verdicts.Verdict.{Verdict}
use Rattle.lrat_machine.specs.declared.verdicts.Verdict.TheVariants.{Yes, No}
use Rattle.lrat_machine.specs.Verdict.{addition_fault, deleted, verdict_on, proof_verdict}
use Rattle.lrat_read.specs.Form.{Parsed, Addition, Deletion, Malformed, line_of, leading, groups_of}
use Rattle.lrat_read.proofs.Laws.{signed_hints, leading-signed_hints, groups_of-signed_hints}
use Rattle.lrat_read.proofs.Laws.{parsed_of, addition_line, deletion_line, line_read}
use Rattle.lrat_machine.proofs.Steps.{IsSane, addition_fault-None, deleted-Some, with_clause_sane}
use Rattle.lrat_machine.proofs.Steps.{without_ids_sane, start_sane}

-- acceptance, line by line
abbrev Accepted : Live → List ProofLine → Type 0
Accepted live [] = ⊥
Accepted live (l ∷ ls) =
    (mid : Live) × Step live l mid
    × (((adds_empty l ≡ true) × (ls ≡ [])) ⊎ ((adds_empty l ≡ false) × Accepted mid ls))

accepted_at : (front : List ProofLine) (final : ProofLine) (live left : Live)
    → adds_empty final ≡ true → AllByRecursion (λ l. adds_empty l ≡ false) front
    → Chain live (front ++ final ∷ []) left → Accepted live (front ++ final ∷ [])
accepted_at [] final live left e nb ch = (ch.0, ch.1, inl (e, refl))
accepted_at (l ∷ front) final live left e nb ch =
    (ch.0, ch.1, inr (nb.0, accepted_at front final ch.0 left e nb.1 ch.2))

accepted_from : (live : Live) (ls : List ProofLine) → AcceptsFrom live ls → Accepted live ls
accepted_from live ls r =
    subst (Accepted live) (sym r.split) (accepted_at r.front r.final live r.left r.ends r.not_before
    (subst (λ x. Chain live x r.left) r.split r.chain))

accepts_from : (ls : List ProofLine) (live : Live) → Accepted live ls → AcceptsFrom live ls
accepts_from [] live a = absurd a
accepts_from (l ∷ ls) live (mid, s, inl (e, z)) =
    record {
      front = [];
      final = l;
      split = ap (λ x. l ∷ x) z;
      ends = e;
      not_before = tt;
      left = mid;
      chain = (mid, s, subst (λ x. Chain mid x mid) (sym z) refl);
    }
accepts_from (l ∷ ls) live (mid, s, inr (e, a)) =
    let r = accepts_from ls mid a in
    record {
      front = l ∷ r.front;
      final = r.final;
      split = ap (λ x. l ∷ x) r.split;
      ends = r.ends;
      not_before = (e, r.not_before);
      left = r.left;
      chain = (mid, s, r.chain);
    }

-- one line's verdict
module _ (live : Live) (n : ℕ) (t : List ℕ) (ts : List (List ℕ)) (more : List (List (List ℕ))) where
  abbrev pub here : Verdict
  here = verdict_on live false n ((t ∷ ts) ∷ more)

  pub here_malformed : line_of (t ∷ ts) ≡ Malformed → here ≡ No LineForm n
  here_malformed e = rw e refl

  pub here_dead : (ids : List ℕ) → line_of (t ∷ ts) ≡ Deletion ids → deleted live ids ≡ None
      → here ≡ No DeadId n
  here_dead ids e u = rw (e, u) refl

  pub here_deletes : (ids : List ℕ) (l : Live) → line_of (t ∷ ts) ≡ Deletion ids
      → deleted live ids ≡ Some l → here ≡ verdict_on l false (n + 1) more
  here_deletes ids l e u = rw (e, u) refl

  pub here_fault : (id : ℕ) (c : List Literal) (hs : List (Bool × ℕ)) (f : Cause)
      → line_of (t ∷ ts) ≡ Addition id c hs → addition_fault live id c hs ≡ Some f → here ≡ No f n
  here_fault id c hs f e u = rw (e, u) refl

  pub here_ends : (id : ℕ) (hs : List (Bool × ℕ)) → line_of (t ∷ ts) ≡ Addition id [] hs
      → addition_fault live id [] hs ≡ None
      → here ≡ verdict_on (with_clause live id []) true (n + 1) more
  here_ends id hs e u = rw (e, u) refl

  pub here_adds : (id : ℕ) (l : Literal) (c : List Literal) (hs : List (Bool × ℕ))
      → line_of (t ∷ ts) ≡ Addition id (l ∷ c) hs → addition_fault live id (l ∷ c) hs ≡ None
      → here ≡ verdict_on (with_clause live id (l ∷ c)) false (n + 1) more
  here_adds id l c hs e u = rw (e, u) refl

-- after the empty clause
ended_means : (lines : List (List (List ℕ))) (live : Live) (n : ℕ)
    → verdict_on live true n lines ≡ Yes → filter has_tokens lines ≡ []
ended_means [] live n e = refl
ended_means ([] ∷ more) live n e = ended_means more live (n + 1) e
ended_means ((t ∷ ts) ∷ more) live n e = absurd (cc)

ended_from : (lines : List (List (List ℕ))) (live : Live) (n : ℕ) → filter has_tokens lines ≡ []
    → verdict_on live true n lines ≡ Yes
ended_from [] live n e = refl
ended_from ([] ∷ more) live n e = ended_from more live (n + 1) e
ended_from ((t ∷ ts) ∷ more) live n e = absurd (cc)

abbrev Certified : Live → List (List (List ℕ)) → Type 0
Certified live lines = (ls : List ProofLine) × (filter has_tokens lines ≡ map line_tokens ls)
    × AllByRecursion HasNumbers ls × Accepted live ls

-- one line before a certificate
certified_more : (live mid : Live) (t : List ℕ) (ts : List (List ℕ)) (more : List (List (List ℕ)))
    (l : ProofLine) → (t ∷ ts) ≡ line_tokens l → HasNumbers l → Step live l mid
    → adds_empty l ≡ false → Certified mid more → Certified live ((t ∷ ts) ∷ more)
certified_more live mid t ts more l e h s f (ls, spelled, numbers, a) = (
  l ∷ ls,
  ap (λ x. x ∷ filter has_tokens more) e ∙ ap (λ x. line_tokens l ∷ x) spelled,
  (h, numbers),
  (mid, s, inr (f, a)),
)

certified_end : (live mid : Live) (t : List ℕ) (ts : List (List ℕ)) (more : List (List (List ℕ)))
    (l : ProofLine) → (t ∷ ts) ≡ line_tokens l → HasNumbers l → Step live l mid
    → adds_empty l ≡ true → filter has_tokens more ≡ [] → Certified live ((t ∷ ts) ∷ more)
certified_end live mid t ts more l e h s f z = (
  l ∷ [],
  ap (λ x. x ∷ filter has_tokens more) e ∙ ap (λ x. line_tokens l ∷ x) z,
  (h, tt),
  (mid, s, inl (f, refl)),
)

abbrev Goes : List (List (List ℕ)) → Type 0
Goes more = (live : Live) (n : ℕ) → IsSane live → verdict_on live false n more ≡ Yes
    → Certified live more

added_means : (live : Live) (n : ℕ) (t : List ℕ) (ts : List (List ℕ)) (more : List (List (List ℕ)))
    → IsSane live → Goes more → (id : ℕ) (c : List Literal) (hs : List (Bool × ℕ))
    → line_of (t ∷ ts) ≡ Addition id c hs → addition_fault live id c hs ≡ None
    → verdict_on live false n ((t ∷ ts) ∷ more) ≡ Yes → Certified live ((t ∷ ts) ∷ more)
added_means live n t ts more s ih id [] hs v u e =
    let k = addition_line (t ∷ ts) id [] hs v in
    let st = (addition_fault-None live s id [] hs).0 u in
    certified_end live (with_clause live id []) t ts more
    (AddsLine id [] (leading hs) (groups_of hs)) k.0 k.1 (st.0, st.1, refl) refl
    (ended_means more (with_clause live id []) (n + 1) (sym (here_ends live n t ts more id hs v u)
    ∙ e))
added_means live n t ts more s ih id (l ∷ c) hs v u e =
    let k = addition_line (t ∷ ts) id (l ∷ c) hs v in
    let st = (addition_fault-None live s id (l ∷ c) hs).0 u in
    certified_more live (with_clause live id (l ∷ c)) t ts more
    (AddsLine id (l ∷ c) (leading hs) (groups_of hs)) k.0 k.1 (st.0, st.1, refl) refl
    (ih (with_clause live id (l ∷ c)) (n + 1)
    (with_clause_sane live s id (l ∷ c) st.0.rising st.0.no_repeat)
    (sym (here_adds live n t ts more id l c hs v u) ∙ e))

addition_means : (live : Live) (n : ℕ) (t : List ℕ) (ts : List (List ℕ))
    (more : List (List (List ℕ))) → IsSane live → Goes more
    → (id : ℕ) (c : List Literal) (hs : List (Bool × ℕ)) → line_of (t ∷ ts) ≡ Addition id c hs
    → (o : Option Cause) → addition_fault live id c hs ≡ o
    → verdict_on live false n ((t ∷ ts) ∷ more) ≡ Yes → Certified live ((t ∷ ts) ∷ more)
addition_means live n t ts more s ih id c hs v None u e =
    added_means live n t ts more s ih id c hs v u e
addition_means live n t ts more s ih id c hs v (Some f) u e = let z =
    here_fault live n t ts more id c hs f v u in absurd (cc)

deletion_means : (live : Live) (n : ℕ) (t : List ℕ) (ts : List (List ℕ))
    (more : List (List (List ℕ))) → IsSane live → Goes more → (ids : List ℕ)
    → line_of (t ∷ ts) ≡ Deletion ids → (o : Option Live) → deleted live ids ≡ o
    → verdict_on live false n ((t ∷ ts) ∷ more) ≡ Yes → Certified live ((t ∷ ts) ∷ more)
deletion_means live n t ts more s ih ids v None u e = let z = here_dead live n t ts more ids v u in
    absurd (cc)
deletion_means live n t ts more s ih ids v (Some l) u e =
    let k = deletion_line (t ∷ ts) ids v in
    let st = (deleted-Some live ids k.0 l).0 u in
    certified_more live l t ts more (DeletesLine k.0 ids) k.1.0 k.1.1 st refl
    (ih l (n + 1) (subst IsSane (sym st.2) (without_ids_sane live s ids))
    (sym (here_deletes live n t ts more ids l v u) ∙ e))

line_means : (live : Live) (n : ℕ) (t : List ℕ) (ts : List (List ℕ)) (more : List (List (List ℕ)))
    → IsSane live → Goes more → (p : Parsed) → line_of (t ∷ ts) ≡ p
    → verdict_on live false n ((t ∷ ts) ∷ more) ≡ Yes → Certified live ((t ∷ ts) ∷ more)
line_means live n t ts more s ih Malformed v e = let z = here_malformed live n t ts more v in
    absurd (cc)
line_means live n t ts more s ih (Deletion ids) v e =
    deletion_means live n t ts more s ih ids v (deleted live ids) refl e
line_means live n t ts more s ih (Addition id c hs) v e =
    addition_means live n t ts more s ih id c hs v (addition_fault live id c hs) refl e

verdict_means : (lines : List (List (List ℕ))) → Goes lines
verdict_means [] live n s e = absurd (cc)
verdict_means ([] ∷ more) live n s e = verdict_means more live (n + 1) s e
verdict_means ((t ∷ ts) ∷ more) live n s e =
    line_means live n t ts more s (verdict_means more) (line_of (t ∷ ts)) refl e

-- and back
abbrev Comes : List (List (List ℕ)) → Type 0
Comes more = (live : Live) (n : ℕ) → IsSane live → (ls : List ProofLine)
    → filter has_tokens more ≡ map line_tokens ls → AllByRecursion HasNumbers ls → Accepted live ls
    → verdict_on live false n more ≡ Yes

line_from : (live : Live) (n : ℕ) (t : List ℕ) (ts : List (List ℕ)) (more : List (List (List ℕ)))
    → IsSane live → Comes more → (l : ProofLine) (ls : List ProofLine)
    → line_of (t ∷ ts) ≡ parsed_of l → filter has_tokens more ≡ map line_tokens ls
    → AllByRecursion HasNumbers ls → Accepted live (l ∷ ls)
    → verdict_on live false n ((t ∷ ts) ∷ more) ≡ Yes
line_from live n t ts more s ih (DeletesLine lead ids) ls v spelled numbers (mid, st, inl (f, z)) =
    absurd (false≢true f)
line_from live n t ts more s ih (DeletesLine lead ids) ls v spelled numbers (mid, st, inr (f, a)) =
    here_deletes live n t ts more ids mid v ((deleted-Some live ids lead mid).1 st)
    ∙ ih mid (n + 1) (subst IsSane (sym st.2) (without_ids_sane live s ids)) ls spelled numbers a
line_from live n t ts more s ih (AddsLine id [] hints groups) ls v spelled numbers (
  mid,
  st,
  inr (f, a),
) = absurd (true≢false f)
line_from live n t ts more s ih (AddsLine id [] hints groups) ls v spelled numbers (
  mid,
  st,
  inl (f, z),
) =
    here_ends live n t ts more id (signed_hints hints groups) v
    ((addition_fault-None live s id [] (signed_hints hints groups)).1 (
      st.0,
      rw (leading-signed_hints hints groups, groups_of-signed_hints hints groups) st.1,
    ))
    ∙ ended_from more (with_clause live id []) (n + 1) (spelled ∙ ap (map line_tokens) z)
line_from live n t ts more s ih (AddsLine id (l ∷ c) hints groups) ls v spelled numbers (
  mid,
  st,
  inl (f, z),
) = absurd (false≢true f)
line_from live n t ts more s ih (AddsLine id (l ∷ c) hints groups) ls v spelled numbers (
  mid,
  st,
  inr (f, a),
) =
    here_adds live n t ts more id l c (signed_hints hints groups) v
    ((addition_fault-None live s id (l ∷ c) (signed_hints hints groups)).1 (
      st.0,
      rw (leading-signed_hints hints groups, groups_of-signed_hints hints groups) st.1,
    ))
    ∙ ih (with_clause live id (l ∷ c)) (n + 1)
    (with_clause_sane live s id (l ∷ c) st.0.rising st.0.no_repeat) ls spelled numbers
    (subst (λ x. Accepted x ls) st.2 a)

verdict_from : (lines : List (List (List ℕ))) → Comes lines
verdict_from [] live n s [] spelled numbers a = absurd a
verdict_from [] live n s (l ∷ ls) spelled numbers a = absurd (cc)
verdict_from ([] ∷ more) live n s ls spelled numbers a =
    verdict_from more live (n + 1) s ls spelled numbers a
verdict_from ((t ∷ ts) ∷ more) live n s [] spelled numbers a = absurd a
verdict_from ((t ∷ ts) ∷ more) live n s (l ∷ ls) spelled numbers a =
    let first : (t ∷ ts) ≡ line_tokens l = cc in
    let rest : filter has_tokens more ≡ map line_tokens ls = cc in
    line_from live n t ts more s (verdict_from more) l ls (ap line_of first ∙ line_read l numbers.0)
    rest numbers.1 a

abbrev pub NoneRepeatsIn : List (List Literal) → Type 0
NoneRepeatsIn formula = All (λ c. has_repeat c ≡ false) formula

-- the lines spell a proof that is accepted
pub record AreAccepted (formula : List (List Literal)) (lines : List (List (List ℕ)))
    (ls : List ProofLine) : Type 0 where
  pub spelled : filter has_tokens lines ≡ map line_tokens ls
  pub numbers : All HasNumbers ls
  pub accepts : Accepts formula ls

pub lines_mean : (formula : List (List Literal)) → NoneRepeatsIn formula → (n : ℕ)
    (lines : List (List (List ℕ))) → verdict_on (start_of formula) false n lines ≡ Yes
    → (ls : List ProofLine) × AreAccepted formula lines ls
lines_mean formula h n lines e =
    let r = verdict_means lines (start_of formula) n (start_sane formula h) e in (
      r.0,
      record {
        spelled = r.1;
        numbers = All-from_recursion HasNumbers r.0 r.2;
        accepts = accepts_from r.0 (start_of formula) r.3;
      },
    )

pub lines_from : (formula : List (List Literal)) → NoneRepeatsIn formula → (n : ℕ)
    (lines : List (List (List ℕ))) (ls : List ProofLine) → AreAccepted formula lines ls
    → verdict_on (start_of formula) false n lines ≡ Yes
lines_from formula h n lines ls r =
    verdict_from lines (start_of formula) n (start_sane formula h) ls r.spelled
    (recursion_from_All HasNumbers ls r.numbers) (accepted_from (start_of formula) ls r.accepts)

-- 4. exactly when
pub proof_verdict-Yes : (formula : List (List Literal)) → NoneRepeatsIn formula → (bytes : List ℕ)
    → (proof_verdict formula bytes ≡ Yes) ↔ IsProofOver formula bytes
proof_verdict-Yes formula h bytes = (
  λ e. let r = lines_mean formula h 1 (token_lines bytes) e in
      (r.0, record { spelled = r.1.spelled; numbers = r.1.numbers }, r.1.accepts),
  λ r. lines_from formula h 1 (token_lines bytes) r.0
      (record { spelled = r.1.spelled; numbers = r.1.numbers; accepts = r.2 }),
)

NoneRepeatsIn-IsFormula : (f : Cnf) → IsFormula f → NoneRepeatsIn f.clauses
NoneRepeatsIn-IsFormula f h =
    All-weaker (IsFormulaClause f.variables) (λ c. has_repeat c ≡ false) (λ c k. k.no_repeat)
    f.clauses h.clauses

pub proof_verdict-IsFormula : (f : Cnf) → IsFormula f → (bytes : List ℕ)
    → (proof_verdict f.clauses bytes ≡ Yes) ↔ IsProofOver f.clauses bytes
proof_verdict-IsFormula f h = proof_verdict-Yes f.clauses (NoneRepeatsIn-IsFormula f h)
