-- What the plain certificate is worth.
use Rattle.std.proofs.Common.{◌≡◌, ℕ, ◌+◌, Bool, true, false, List, [], ◌∷◌, ◌++◌, length, Option}
use Rattle.std.proofs.Common.{refl, sym, ◌∙◌, subst}
use Rattle.std.specs.List.{AllByRecursion}
use Rattle.std.proofs.lemmas.Bool.{false≢true}
use Rattle.cnf.specs.Lrat.{AcceptsFrom, Chain, Live, ProofLine, adds_empty, start_of}
use Rattle.cnf.specs.Problem.{Problem}
use Rattle.cnf.proofs.Laws.{certificate_sound}
use Rattle.bound.specs.Weighted.{weighted_cnf}
use Rattle.text.specs.Text.{token_lines}
use Rattle.lrat_cuts.specs.Cuts.{cuts_start}
use Rattle.lrat_plain.specs.Law.{ChainByHints, PlainFormulasAreRefuted, PlainLinesAreAccepted}
use Rattle.lrat_plain.specs.Law.{PlainLinesAreCorrect, plain_clauses}
use Rattle.lrat_plain.specs.Names.{Names, names_start}
use Rattle.lrat_plain.specs.Plain.{made_text, plain_lines}
use Rattle.lrat_plain.proofs.LawBegins.{begins}
use Rattle.lrat_plain.proofs.LawLines.{EndSo, lines_correct, lines_end}

abbrev names : Option ℕ → Problem → List ℕ → Names
names cost p bytes =
    let given = length (weighted_cnf p).clauses in
    names_start given (given + length (made_text cost p bytes))

pub plain_correct : PlainLinesAreCorrect
plain_correct cost p bytes =
    lines_correct cost (token_lines bytes) (names cost p bytes) (cuts_start p)
    (start_of (plain_clauses cost p bytes)) (λ _. begins p (made_text cost p bytes))

-- the last line of those that are accepted adds the empty clause
last_ends : (front : List ProofLine) (final : ProofLine)
    → AllByRecursion (λ l. adds_empty l ≡ false) (front ++ final ∷ []) → adds_empty final ≡ false
last_ends [] final h = h.0
last_ends (l ∷ front) final h = last_ends front final h.1

ended_is : (b : Bool) (start : Live) (ls : List ProofLine) → EndSo b ls → AcceptsFrom start ls
    → b ≡ true
ended_is true start ls h a = refl
ended_is false start ls h a =
    let none = last_ends a.front a.final
    (subst (AllByRecursion (λ l. adds_empty l ≡ false)) a.split h) in
    absurd (false≢true (sym none ∙ a.ends))

chain_of : (start left : Live) (ls : List ProofLine) → ChainByHints start ls left
    → Chain start ls left
chain_of start left [] e = e
chain_of start left (l ∷ ls) w = (w.0, w.1, chain_of w.0 left ls w.3)

accepted_by : (start : Live) (ls : List ProofLine) (left : Live)
    → EndSo true ls → ChainByHints start ls left → AcceptsFrom start ls
accepted_by start ls left h chain = record {
  front = h.0;
  final = h.1;
  split = h.2;
  ends = h.3;
  not_before = h.4;
  left = left;
  chain = chain_of start left ls chain;
}

pub plain_accepted : PlainLinesAreAccepted
plain_accepted cost p bytes s right =
    let start = start_of (plain_clauses cost p bytes) in
    let ls = plain_lines cost p bytes in
    let correct = plain_correct cost p bytes in
    let end : EndSo s.ended ls =
    lines_end cost (token_lines bytes) (names cost p bytes) (cuts_start p) s 1 right refl in (
      λ ended. accepted_by start ls correct.0 (subst (λ b. EndSo b ls) ended end) correct.1,
      λ a. ended_is s.ended start ls end a,
    )

pub plain_refuted : PlainFormulasAreRefuted
plain_refuted cost p bytes s right ended =
    certificate_sound (plain_clauses cost p bytes) (plain_lines cost p bytes)
    ((plain_accepted cost p bytes s right).0 ended)
