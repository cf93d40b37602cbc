-- What a line leads to, and lines one after the other.
use Rattle.std.proofs.Common.{◌≡◌, ℕ, ◌+◌, List, [], ◌∷◌, ◌++◌, length, map, drop, Some, None}
use Rattle.std.proofs.Common.{Result, Ok, Err, refl, sym, ◌∙◌, ap}
use Rattle.cnf.specs.Literal.{Literal}
use Rattle.cnf.specs.Lrat.{ProofLine}
use Rattle.lrat_live.specs.Listed.{listed_from}
use Rattle.lrat_machine.specs.declared.verdicts.Cause.{Cause}
use Rattle.lrat_cuts.specs.Cuts.{CutsState, judged_line, judged_lines}
use Rattle.lrat_cuts.specs.Machine.{MachineState, Puts, StepsTo, judged_after}
use Rattle.lrat_plain.specs.Names.{Names}
use Rattle.lrat_plain.specs.Plain.{made_by, made_in, lines_by, lines_in, names_after}
use Rattle.lrat_plain.specs.Steps.{FaultOf, Judges, made_after, lines_after}
use Rattle.lrat_plain.specs.declared.faults.PlainFault.TheVariants.{Line}

-- a machine's answer
pub judges : (old new : MachineState) (ts : List (List ℕ)) → StepsTo old ts None new
    → Judges old ts new
judges old new ts s = record {
  judged = s.judged;
  made = s.made refl;
  cost = s.cost;
  lines = s.lines;
}

-- where the line is right, what comes of it
abbrev pub line_by : ℕ → Result CutsState Cause → (CutsState → Result CutsState (Cause × ℕ))
    → Result CutsState (Cause × ℕ)
line_by n (Err f) next = Err (f, n)
line_by n (Ok t) next = next t

judged_more : (m : MachineState) (ts : List (List ℕ)) (more : List (List (List ℕ)))
    (r : Result CutsState Cause) → judged_line m.cost m.state ts ≡ r
    → judged_after m (ts ∷ more)
    ≡ line_by (m.lines + 1) r (λ next. judged_lines m.cost next (m.lines + 1 + 1) more)
judged_more m ts more r e =
    ap (λ x. line_by (m.lines + 1) x (λ next. judged_lines m.cost next (m.lines + 1 + 1) more)) e

pub fault_of : (old new : MachineState) (ts : List (List ℕ)) (cause : Cause) (n : ℕ)
    → StepsTo old ts (Some cause) new → n ≡ new.lines → FaultOf old (ts ∷ []) (Line cause n)
fault_of old new ts cause n s e = λ f k is more.
    let same : cause ≡ f = cc in
    let at : n ≡ k = cc in
    let line : old.lines + 1 ≡ k = sym s.lines ∙ sym e ∙ at in
    judged_more old ts more (Err cause) s.judged
    ∙ ap (λ (c : Cause). Err (c, old.lines + 1)) same ∙ ap (λ m. Err (f, m)) line

abbrev pub made_if : Result CutsState Cause → (CutsState → List (List Literal))
    → List (List Literal)
made_if (Err f) next = []
made_if (Ok t) next = next t

abbrev pub lines_if : Result CutsState Cause → (CutsState → List ProofLine) → List ProofLine
lines_if (Err f) next = []
lines_if (Ok t) next = next t

module _ (old new : MachineState) (ts : List (List ℕ)) (j : Judges old ts new)
    (more : List (List (List ℕ))) where
  pub judged_next : judged_after old (ts ∷ more) ≡ judged_after new more
  judged_next =
      judged_more old ts more (Ok new.state) j.judged
      ∙ ap (λ c. judged_lines c new.state (old.lines + 1 + 1) more) (sym j.cost)
      ∙ ap (λ n. judged_lines new.cost new.state (n + 1) more) (sym j.lines)

  pub made_next : made_after old (ts ∷ more)
      ≡ made_by ts old.state new.state ++ made_after new more
  made_next =
      ap (λ r. made_if r (λ t. made_by ts old.state t ++ made_in old.cost t more)) j.judged
      ∙ ap (λ c. made_by ts old.state new.state ++ made_in c new.state more) (sym j.cost)

  pub lines_next : (n : Names) → lines_after n old (ts ∷ more)
      ≡ lines_by n ts old.state new.state
      ++ lines_after (names_after n ts old.state new.state) new more
  lines_next n =
      ap (λ r. lines_if r (λ t. lines_by n ts old.state t
      ++ lines_in old.cost (names_after n ts old.state t) t more)) j.judged
      ∙ ap (λ c. lines_by n ts old.state new.state
      ++ lines_in c (names_after n ts old.state new.state) new.state more) (sym j.cost)

-- the clauses that a line makes are those that are live behind the others
drop-append : {X : Type 0} (xs ys : List X) → drop (length xs) (xs ++ ys) ≡ ys
drop-append [] ys = refl
drop-append (x ∷ xs) ys = drop-append xs ys

second-listed : (n : ℕ) (cs : List (List Literal)) → map (λ e. e.1) (listed_from n cs) ≡ cs
second-listed n [] = refl
second-listed n (c ∷ cs) = ap (λ z. c ∷ z) (second-listed (n + 1) cs)

pub made_put : (old new : CutsState) (cs : List (List Literal)) → Puts old cs new
    → map (λ e. e.1) (drop (length old.live) new.live) ≡ cs
made_put old new cs p =
    ap (λ (z : List (ℕ × List Literal)). map (λ e. e.1) (drop (length old.live) z)) p.live
    ∙ ap (λ (z : List (ℕ × List Literal)). map (λ e. e.1) z)
    (drop-append old.live (listed_from (old.last + 1) cs))
    ∙ second-listed (old.last + 1) cs
