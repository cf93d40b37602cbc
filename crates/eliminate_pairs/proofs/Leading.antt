-- Moves lead from one stage to another, and each is one of those that the contract names.
use Rattle.std.proofs.Common.{◌≡◌, ℕ, zero, suc, ◌+◌, false, List, [], ◌∷◌, ◌++◌}
use Rattle.std.proofs.Common.{inl, inr, refl, sym, ◌∙◌, subst, append_assoc, append-nil}
use Rattle.std.proofs.lemmas.List.Elements.{All-nil, All-cons}
use Rattle.cnf.specs.Literal.{Literal}
use Rattle.lrat_log.specs.declared.lines.Name.TheVariants.{Formula}
use Rattle.lrat_log.specs.Log.{LogLine}
use Rattle.eliminate_names.specs.Work.{name_at, delete_line}
use Rattle.eliminate_pairs.specs.declared.pairs.PairDefinition.{PairDefinition}
use Rattle.eliminate_pairs.specs.Pairs.{Stage, StandOften, DefinesOften, DefinesNone}
use Rattle.eliminate_pairs.specs.Pairs.{IsMove, AreMoves, LeadsTo, is_definition, whole_line}
use Rattle.eliminate_pairs.specs.Pairs.{side_line, DefineNothing, BreaksOff, LeadsOff, KeepsLog}
use Rattle.eliminate_pairs.proofs.Staging.{deleted_stage, with_whole, with_side, with_replaced}
use Rattle.eliminate_pairs.proofs.Staging.{replaced_line_of}

none_define : DefineNothing []
none_define = All-nil (λ (l : LogLine). is_definition l.kind ≡ false)

-- no move leads to the stage itself
pub leads_here : (s : Stage) → LeadsTo s s
leads_here s = (0, refl)

pub leads_by : (s t : Stage) → IsMove s t → LeadsTo s t
leads_by s t move = (1, (s, refl, move))

more_moves : (k : ℕ) (s t u : Stage) → LeadsTo s t → AreMoves k t u → LeadsTo s u
more_moves zero s t u p e = subst (LeadsTo s) (sym e) p
more_moves (suc k) s t u p q =
    let r : LeadsTo s q.0 = more_moves k s t q.0 p q.1 in (suc r.0, (q.0, r.1, q.2))

-- moves after others
pub leads_on : (s t u : Stage) → LeadsTo s t → LeadsTo t u → LeadsTo s u
leads_on s t u p q = more_moves q.0 s t u p q.1

-- the three lines of a definition
pub defines_often : (s : Stage) (a b : Literal) (f g : ℕ) → StandOften s.slots a b
    → DefinesOften s (with_side (with_side (with_whole s a b) f a) g b)
defines_often s a b f g often =
    let one : Stage = with_whole s a b in
    let two : Stage = with_side one f a in
    let z : ℕ = s.variables + 1 in
    let whole : LogLine = whole_line z a b in
    let for_a : LogLine = side_line z a (name_at one.names f) in
    let for_b : LogLine = side_line z b (name_at two.names g) in
    record {
      left = a;
      right = b;
      often = often;
      next = refl;
      for_left = name_at one.names f;
      for_right = name_at two.names g;
      lines =
          append_assoc (s.lines ++ whole ∷ []) (for_a ∷ []) (for_b ∷ [])
          ∙ append_assoc s.lines (whole ∷ []) (for_a ∷ for_b ∷ []);
    }

-- a clause that is replaced, and that goes
pub defines_none : (s : Stage) (d : PairDefinition) (r : ℕ) (c : List Literal)
    → DefinesNone s (deleted_stage (with_replaced s d r c) r)
defines_none s d r c =
    let one : Stage = with_replaced s d r c in
    let new : LogLine = replaced_line_of s d r c in
    let gone : LogLine = delete_line (name_at one.names r) in
    record {
      same = refl;
      more = new ∷ gone ∷ [];
      none =
          All-cons (λ (l : LogLine). is_definition l.kind ≡ false) new (gone ∷ []) refl
          (All-cons (λ (l : LogLine). is_definition l.kind ≡ false) gone [] refl none_define);
      lines = append_assoc s.lines (new ∷ []) (gone ∷ []);
    }

-- where no line comes, no pair gets a variable
pub defines_nothing : (s t : Stage) → t.variables ≡ s.variables → t.lines ≡ s.lines
    → DefinesNone s t
defines_nothing s t same e = record {
  same = same;
  more = [];
  none = none_define;
  lines = e ∙ sym (append-nil s.lines);
}

-- a move that is refused before its first line, or after one that defines nothing
pub breaks_at : (s : Stage) (lines : List LogLine) → lines ≡ s.lines → KeepsLog s lines
    → BreaksOff s lines
breaks_at s lines e log = record {
  log = log;
  more = [];
  all = e ∙ sym (append-nil s.lines);
  pair = inr none_define;
}

pub breaks_after : (s : Stage) (lines : List LogLine) (l : LogLine) → lines ≡ s.lines ++ l ∷ []
    → is_definition l.kind ≡ false → KeepsLog s lines → BreaksOff s lines
breaks_after s lines l e other log = record {
  log = log;
  more = l ∷ [];
  all = e;
  pair = inr (All-cons (λ (x : LogLine). is_definition x.kind ≡ false) l [] other none_define);
}

-- a definition that is refused after its first line
pub breaks_first : (s : Stage) (lines : List LogLine) (a b : Literal) → StandOften s.slots a b
    → lines ≡ (with_whole s a b).lines → KeepsLog s lines → BreaksOff s lines
breaks_first s lines a b often e log = record {
  log = log;
  more = whole_line (s.variables + 1) a b ∷ [];
  all = e;
  pair = inl (record {
    left = a;
    right = b;
    often = often;
    name = Formula 1;
    count = 1;
    some = refl;
  });
}

-- and after its second
pub breaks_second : (s : Stage) (lines : List LogLine) (a b : Literal) (f : ℕ)
    → StandOften s.slots a b → lines ≡ (with_side (with_whole s a b) f a).lines
    → KeepsLog s lines → BreaksOff s lines
breaks_second s lines a b f often e log =
    let one : Stage = with_whole s a b in
    let whole : LogLine = whole_line (s.variables + 1) a b in
    let for_a : LogLine = side_line (s.variables + 1) a (name_at one.names f) in
    record {
      log = log;
      more = whole ∷ for_a ∷ [];
      all = e ∙ append_assoc s.lines (whole ∷ []) (for_a ∷ []);
      pair = inl (record {
        left = a;
        right = b;
        often = often;
        name = name_at one.names f;
        count = 2;
        some = refl;
      });
    }

-- a refusal comes after moves
pub leads_off : (s t : Stage) (lines : List LogLine) → LeadsTo s t → LeadsOff t lines
    → LeadsOff s lines
leads_off s t lines p q = (q.0, leads_on s t q.0 p q.1, q.2)

-- the same move, to a stage that is made otherwise
pub move_as : (s t u : Stage) → u ≡ t → IsMove s t → IsMove s u
move_as s t u e h = subst (IsMove s) (sym e) h
