-- Plain additions are correct where the plain run stands.
use Rattle.std.proofs.Common.{◌≡◌, ℕ, ◌+◌, ◌<◌, Bool, true, false, List, [], ◌∷◌, ◌++◌, length, map}
use Rattle.std.proofs.Common.{Option, Some, Ok, inl, refl, sym, ◌∙◌, subst, arith}
use Rattle.std.proofs.lemmas.Bool.{false≢true}
use Rattle.cnf.specs.Literal.{Literal, negation}
use Rattle.cnf.specs.Lrat.{Addition, Live, ProofLine, Step, with_clause, without_ids}
use Rattle.cnf.specs.Refute.{Refutes}
use Rattle.lrat_live.specs.Listed.{Listed, listed_at}
use Rattle.lrat_machine.specs.Steps.{live_of}
use Rattle.lrat_cuts.specs.Cuts.{CutsState, judged_line}
use Rattle.lrat_plain.specs.Law.{ChainByHints}
use Rattle.lrat_plain.specs.Names.{Names, added, forgotten, named_all, renumbered}
use Rattle.lrat_plain.specs.Plain.{ending, lines_by, made_by, names_after}
use Rattle.lrat_plain.proofs.LawCases.{line_is}
use Rattle.lrat_plain.proofs.LawDeletes.{deletes, deletion_chain}
use Rattle.lrat_plain.proofs.LawHints.{Follows, follows, refutes_numbered}
use Rattle.lrat_plain.proofs.LawLists.{leaves}
use Rattle.lrat_plain.proofs.LawStands.{Stands, adds}
use Rattle.lrat_plain.proofs.LawWords.{empty_last, made_stand}
use Rattle.lrat_plain.proofs.Naming.{map_ids}

module _ (later : List (List Literal)) (n : Names) (es : Listed) (last : ℕ) (live : Live)
    (h : Stands later n es last live) where
  addition_chain : (id : ℕ) (c : List Literal) (hints : List (Bool × ℕ))
      → Follows (live_of last es) id c hints
      → ChainByHints live (Addition (added n id) c (map (λ h. renumbered n h.1) hints) [] ∷ [])
      (with_clause live (added n id) c)
  addition_chain id c hints f =
      let numbers : List ℕ = map (λ h. renumbered n h.1) hints in
      let refutes : Refutes live.clause_at (map negation c) numbers =
      subst (Refutes live.clause_at (map negation c)) (sym (map_ids (renumbered n) hints))
      (refutes_numbered (renumbered n) (listed_at es) live.clause_at h.numbered (map negation c)
      (map (λ h. h.1) hints) f.refutes) in
      let above : last < id = (f.addable).rising in
      let b = h.behind in
      let w = h.within in
      let step : Step live (Addition (added n id) c numbers [])
      (with_clause live (added n id) c) = (
        record {
          rising = omega (arith, above, b, w);
          no_repeat = (f.addable).no_repeat;
          no_tautology = (f.addable).no_tautology;
          small = (f.addable).small;
        },
        inl (refl, refutes),
        refl,
      ) in
      (with_clause live (added n id) c, step, (refl, refutes), refl)

  -- the empty clause that a line made ends the plain lines
  ending_chain : listed_at es last ≡ Some []
      → ChainByHints live (ending n last true) (with_clause live (added n (last + 1)) [])
  ending_chain e =
      let id = added n (last + 1) in
      let refutes : Refutes live.clause_at [] (renumbered n last ∷ []) = record {
        front = [];
        final = renumbered n last;
        split = refl;
        reached = [];
        leads = refl;
        clause = [];
        live = h.numbered last [] e;
        conflict = tt;
      } in
      let b = h.behind in
      let w = h.within in
      let step : Step live (Addition id [] (renumbered n last ∷ []) [])
      (with_clause live id []) = (
        record {
          rising = omega (arith, b, w);
          no_repeat = refl;
          no_tautology = refl;
          small = omega arith;
        },
        inl (refl, refutes),
        refl,
      ) in
      (with_clause live id [], step, (refl, refutes), refl)

-- plain lines are correct, and then the plain run stands as the certificate does, unless the empty
-- clause has come
pub record Goes (t : CutsState) (live : Live) (later : List (List Literal)) (ls : List ProofLine)
    (m : Names) : Type 0 where
  pub next : Live
  pub chain : ChainByHints live ls next
  pub stands : t.ended ≡ false → Stands later m t.live t.last next

module _ (cost : Option ℕ) (s t : CutsState) (ts : List (List ℕ))
    (right : judged_line cost s ts ≡ Ok t) (open_end : s.ended ≡ false) (n : Names) (live : Live)
    (later : List (List Literal)) where
  abbrev GoesOn : List ProofLine → Names → List (List Literal) → Type 0
  GoesOn ls m made = Stands (made ++ later) n s.live s.last live → Goes t live later ls m

  pub line_goes : Stands (made_by ts s t ++ later) n s.live s.last live
      → Goes t live later (lines_by n ts s t) (names_after n ts s t)
  line_goes =
      line_is cost s t ts right n GoesOn
      (λ same h. record {
        next = live;
        chain = refl;
        stands = λ _. subst (λ (x : CutsState). Stands later n x.live x.last live) same h;
      })
      (λ id c hints fault state h.
      let f = follows (live_of s.last s.live) id c hints fault in
      let next = with_clause live (added n id) c in
      record {
        next = next;
        chain = addition_chain later n s.live s.last live h id c hints f;
        stands = λ _. subst (λ (x : CutsState). Stands later n x.live x.last next) (sym state)
            (adds later n s.live s.last live h id c (f.addable).rising);
      })
      (λ first ids es left state h.
      let l = leaves ids s.live es left in
      let next = without_ids live (map (renumbered n) ids) in
      record {
        next = next;
        chain = deletion_chain later n s.live s.last live h ids es l first;
        stands = λ _. subst (λ (x : CutsState). Stands later (forgotten ids n) x.live x.last next)
            state (deletes later n s.live s.last live h ids es l);
      })
      (λ made p h.
      let m = named_all s.last (length made) n in
      let stand = made_stand s t made later n live p h in
      elim t.ended as (λ b. t.ended ≡ b → Goes t live later (ending m t.last b) m) [
        | true ↦ λ q. record {
          next = with_clause live (added m (t.last + 1)) [];
          chain = ending_chain later m t.live t.last live stand
              (empty_last s t made later n live p open_end q h);
          stands = λ f. absurd (false≢true (sym f ∙ q));
        }
        | false ↦ λ q. record { next = live; chain = refl; stands = λ _. stand }
      ] refl)
