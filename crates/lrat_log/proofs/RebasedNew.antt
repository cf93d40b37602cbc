-- What a log learns is new also where it is told over other clauses: by their names the same
-- clauses are live at each line.
use Rattle.std.proofs.Common.{◌≡◌, ℕ, ◌+◌, ◌-◌, ◌<◌, ◌≤◌, Bool, true, false, List, [], ◌∷◌, ◌++◌}
use Rattle.std.proofs.Common.{length, map, inl, inr, refl, sym, ◌∙◌, ap, subst, arith, append_assoc}
use Rattle.std.proofs.Common.{append-nil}
use Rattle.std.specs.Prelude.{◌&&◌, nat_le, if◌then◌else◌, All}
use Rattle.std.specs.List.{AllByRecursion}
use Rattle.std.proofs.lemmas.Bool.{cases_lt, le-leb, lt-leb, false≢true}
use Rattle.std.proofs.lemmas.List.{map-append}
use Rattle.cnf.specs.Literal.{Literal}
use Rattle.cnf.specs.Refute.{Clauses}
use Rattle.cnf.specs.Lrat.{Live, Chain, IsRup, start_of}
use Rattle.cnf.proofs.Laws.{all_parts}
use Rattle.lrat_log.specs.declared.lines.Name.{Name}
use Rattle.lrat_log.specs.declared.lines.Name.TheVariants.{Formula, Added}
use Rattle.lrat_log.specs.declared.lines.Hint.{Hint}
use Rattle.lrat_log.specs.Log.{LogLine, is_delete, id_of, leading_ids, group_ids, numbered_on}
use Rattle.lrat_log.specs.Log.{numbered_lines, Given, start_over}
use Rattle.lrat_log.specs.Steps.{IsKnown, live_after, given_of, log_live, is_later, IsNewTo}
use Rattle.lrat_log.specs.Steps.{IsByRup, IsLogOver, LearnsNew}
use Rattle.lrat_log.specs.Rebase.{WeakerList, weaker_line, moved_name, moved_hint, moved_line}
use Rattle.lrat_log.specs.Rebase.{rebased, IsWeakerOf, KeepsLog}
use Rattle.lrat_log.proofs.Names.{leading_names, group_names, group_by, leading_ids-names}
use Rattle.lrat_log.proofs.Names.{group_ids-names, SameLive, LineKnown, rup_after}
use Rattle.lrat_log.proofs.Names.{leading_known, chain_end}
use Rattle.lrat_log.proofs.NewLines.{later_true, none_new, append_new}
use Rattle.lrat_log.proofs.RebasedLines.{learned_weaker}
use Rattle.lrat_log.proofs.Rebasing.{clauses_of, lengths, is_added, renames_moved}
use Rattle.lrat_log.proofs.Rebasing.{leading_ids_moved, group_ids_moved, rebased_live, given_base}
use Rattle.lrat_log.proofs.Rebasing.{given_known, start_over-given_of, keeps_steps, keeps_log}
use Rattle.lrat_log.proofs.Rebasing.{keeps_accepted}

-- a chain over the first lines
chain_front : (base before : ℕ) (old : Live) (ls ms : List LogLine) (left : Live)
    → Chain old (numbered_on base before (ls ++ ms)) left
    → (mid : Live) × Chain old (numbered_on base before ls) mid
chain_front base before old [] ms left w = (old, refl)
chain_front base before old (l ∷ ls) ms left w =
    let r = chain_front base (if is_delete l.kind then before else before + 1) w.0 ls ms left w.2 in
    (r.0, (w.0, w.1, r.1))

-- ids that are not after the first ones, or past the last
later_false : (first last i : ℕ) → i ≤ first → is_later first last i ≡ false
later_false first last i h = ap (λ b. b && nat_le i last) (lt-leb (first + 1) i (omega arith))

past_false : (b : Bool) (i last : ℕ) → last < i → (b && nat_le i last) ≡ false
past_false true i last h = lt-leb i last h
past_false false i last h = refl

module _ (first others : List (List Literal)) (ws : WeakerList)
    (weaker : All (IsWeakerOf (first ++ others)) ws) (a : ℕ)
    (count : a ≡ length (first ++ others) + length ws) where
  abbrev kept : List (List Literal)
  kept = first ++ others

  abbrev b : ℕ
  b = length (first ++ others)

  abbrev before_move : Given
  before_move = given_of (first ++ clauses_of ws ++ others)

  abbrev to : Name → ℕ
  to n = id_of b (moved_name (length first) (length ws) n)

  abbrev exempt : ℕ → Bool
  exempt = is_later (length first) a

  -- what is not exempt after the move was not before it
  exempt_before : (n : Name) → IsKnown (b + length ws) n → exempt (to n) ≡ false
      → exempt (id_of a n) ≡ false
  exempt_before (Added j) p e =
      past_false (nat_le (length first + 1) (a + j)) (a + j) a (omega arith)
  exempt_before (Formula i) p e =
      let len = lengths first others ws in
      elim (cases_lt (length first) i) [
        | inr h ↦ later_false (length first) a i h
        | inl h ↦ elim (cases_lt (length first + length ws) i) [
          | inr k ↦ absurd (false≢true (sym e
              ∙ ap exempt (rw (lt-leb i (length first) h, le-leb i (length first + length ws) k)
              refl) ∙ later_true (length first) a (b + (i - length first)) (omega arith)
              (omega arith)))
          | inl k ↦ absurd (false≢true (sym e
              ∙ ap exempt (rw (lt-leb i (length first) h, lt-leb i (length first + length ws) k)
              refl) ∙ later_true (length first) a (i - length ws) (omega arith) (omega arith)))
        ]
      ]

  live_rebased : (before rest : List LogLine) (left : Live)
      → AllByRecursion (LineKnown a is_added) (before ++ rest)
      → Chain (start_over before_move a) (numbered_lines a (before ++ rest)) left
      → SameLive (b + length ws) a to (log_live before_move a before)
      (log_live (given_of kept) b (rebased (length first) ws before))
  live_rebased before rest left known chain =
      let front = chain_front a 0 (start_over before_move a) before rest left chain in
      let x =
      rebased_live ws first others weaker a (omega arith) before
      (all_parts (LineKnown a is_added) before rest known).0 front.0 front.1 in
      let new =
      chain_end (start_of kept) (numbered_lines b (rebased (length first) ws before)) x.0 x.1 in
      let start = ap (λ s. live_after s (numbered_lines b (rebased (length first) ws before)))
      (sym (start_over-given_of kept)) in
      subst (λ (y : Live). SameLive (b + length ws) a to (log_live before_move a before)
      y.clause_at) (new ∙ start)
      (subst (λ (y : Live). SameLive (b + length ws) a to y.clause_at (x.0).clause_at)
      (chain_end (start_over before_move a) (numbered_lines a before) front.0 front.1) x.2)

  module _ (at bt : Clauses) (same : SameLive (b + length ws) a to at bt) where
    new_moved : (c : List Literal) → IsNewTo exempt at c → IsNewTo exempt bt c
    new_moved c h i d e l =
        let x = same.named_after i d l in
        h (id_of a x.0) d (exempt_before x.0 x.1 (ap exempt x.2 ∙ e)) (same.same x.0 x.1
        ∙ ap bt x.2 ∙ l)

    rup_moved : (l : LogLine) → LineKnown a is_added l → IsByRup a at l
        → IsByRup b bt (moved_line (length first) (length ws) l)
    rup_moved l known r =
        let hs : List Hint = l.hints in
        let ns : List Name = leading_names l.hints in
        let renames =
        renames_moved (length first) (length ws) b a (lengths first others ws).1 (omega arith) in
        let named =
        subst (λ x. IsRup at l.clause (map (id_of a) ns) x) (group_ids-names a hs)
        (subst (λ x. IsRup at l.clause x (group_ids a hs)) (leading_ids-names a hs) r) in
        let after =
        rup_after (b + length ws) a is_added to (b + length ws) renames at bt same l.clause ns
        (group_names hs)
        (leading_known (b + length ws) a is_added to (b + length ws) renames hs known) named in
        let moved : List Hint = map (moved_hint (length first) (length ws)) hs in
        subst (λ x. IsRup bt l.clause (leading_ids b moved) x)
        (sym (group_ids-names b moved ∙ group_ids_moved (length first) (length ws) b hs))
        (subst (λ x. IsRup bt l.clause x (map (group_by to) (group_names hs)))
        (sym (leading_ids-names b moved ∙ leading_ids_moved (length first) (length ws) b hs))
        after)

  -- line by line, after the lines `before` of the old log
  lines_new : (before ls : List LogLine) (left : Live)
      → AllByRecursion (LineKnown a is_added) (before ++ ls)
      → Chain (start_over before_move a) (numbered_lines a (before ++ ls)) left
      → LearnsNew exempt before_move a before ls
      → LearnsNew exempt (given_of kept) b (rebased (length first) ws before)
      (map (moved_line (length first) (length ws)) ls)
  lines_new before [] left known chain h = tt
  lines_new before (l ∷ ls) left known chain h =
      let same = live_rebased before (l ∷ ls) left known chain in
      let at = log_live before_move a before in
      let bt = log_live (given_of kept) b (rebased (length first) ws before) in
      let move : LogLine → LogLine = moved_line (length first) (length ws) in
      let known_line = (all_parts (LineKnown a is_added) before (l ∷ ls) known).1.0 in
      let parts = sym (append_assoc before (l ∷ []) ls) in
      let more = ap (λ x. map weaker_line ws ++ x) (map-append move before (l ∷ []))
      ∙ sym (append_assoc (map weaker_line ws) (map move before) (move l ∷ [])) in (
        λ e. (new_moved at bt same l.clause (h.0 e).0, rup_moved at bt same l known_line (h.0 e).1),
        subst (λ x. LearnsNew exempt (given_of kept) b x (map move ls)) more
            (lines_new (before ++ l ∷ []) ls left
            (subst (AllByRecursion (LineKnown a is_added)) parts known)
            (subst (λ x. Chain (start_over before_move a) (numbered_lines a x) left) parts
            chain) h.1),
      )

  pub all_new : (old : List LogLine) → IsLogOver before_move old
      → LearnsNew exempt before_move a [] old
      → LearnsNew exempt (given_of kept) b [] (rebased (length first) ws old)
  all_new old log h =
      let above : b + length ws ≤ a = omega arith in
      let lines = lines_new [] old (live_after (start_over before_move a) (numbered_lines a old))
      (given_known ws first others a above old log)
      (log.steps a (given_base ws first others a above)) h in
      append_new exempt (given_of kept) b [] (map weaker_line ws)
      (map (moved_line (length first) (length ws)) old)
      (none_new exempt (given_of kept) b [] (map weaker_line ws) (learned_weaker ws))
      (subst (λ x. LearnsNew exempt (given_of kept) b x
      (map (moved_line (length first) (length ws)) old))
      (append-nil (map weaker_line ws)) lines)

-- all that `rebase` keeps
pub keeps_log_law : (fixed : ℕ) (ws : WeakerList) (old : List LogLine) → KeepsLog fixed ws old
keeps_log_law fixed ws old = record {
  steps = keeps_steps fixed ws old;
  log =
      λ first others e weaker nonempty log. keeps_log fixed ws old first others e weaker
      log nonempty;
  accepted =
      λ first others e weaker nonempty log accepted. keeps_accepted fixed ws old first
      others e weaker
      nonempty log accepted;
  new = λ first others e weaker log count same h.
      subst (λ n. LearnsNew (is_later n count) (given_of (first ++ others))
      (length (first ++ others)) [] (rebased n ws old)) e
      (all_new first others ws weaker count (same ∙ (lengths first others ws).0) old log
      (subst (λ n. LearnsNew (is_later n count) (given_of (first ++ clauses_of ws ++ others)) count
      [] old) (sym e) h));
}
