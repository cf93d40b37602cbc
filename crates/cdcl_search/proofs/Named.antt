-- The names of a store's clauses, as lines are written and clauses come and go.
use Rattle.std.proofs.Common.{◌≡◌, ◌≢◌, ℕ, ◌+◌, ◌≤◌, true, false, List, [], ◌∷◌, ◌++◌, length, map}
use Rattle.std.proofs.Common.{set, Some, None, inl, inr, refl, sym, ◌∙◌, ap, subst, arith}
use Rattle.std.specs.Prelude.{◌==◌, nat_eq, All}
use Rattle.std.specs.List.{list_any}
use Rattle.std.specs.List.Sorted.{IsStrictlyIncreasing}
use Rattle.std.proofs.lemmas.Bool.{cases_Bool, eqb-true, eq-eqb, ne_eqb, cond-false, cond-true}
use Rattle.std.proofs.lemmas.Bool.{or_from, or_left}
use Rattle.std.proofs.lemmas.List.{get_or_append_left, get_or_at, length-set, length_push}
use Rattle.std.proofs.lemmas.Option.{none-some, same_Some}
use Rattle.cnf.specs.Literal.{Literal}
use Rattle.cnf.specs.Refute.{Clauses, Leads, Refutes}
use Rattle.cnf.specs.Lrat.{Live, with_clause, without_ids}
use Rattle.clauses.specs.Slots.{Slots, clause_at, IsLive, Renaming, renamed, IsRenaming}
use Rattle.lrat_log.specs.declared.lines.Name.{Name}
use Rattle.lrat_log.specs.declared.lines.Name.TheVariants.{Formula, Added}
use Rattle.lrat_log.specs.Log.{LogLine, Given, start_over, is_delete, id_of, name_of, numbered_on}
use Rattle.lrat_log.specs.Steps.{live_after, log_live, added_count, IsBaseOf}
use Rattle.lrat_log.proofs.Laws.{given_below}
use Rattle.cdcl_search.specs.Invariant.{name_at, NamesWhatIsLive, NamesStore}
use Rattle.cdcl_search.proofs.Chains.{live_of, count_deletion, count_addition}
use Rattle.cdcl_search.specs.Hinting.{plain_hints}
use Rattle.cdcl_search.proofs.LogLines.{live-add, live-delete}
use Rattle.cdcl_search.proofs.Places.{live_within, clause_kept, clause_cases, clause_left}
use Rattle.cdcl_search.proofs.Places.{clause_other, went, came, same_clause, moved_all}
use Rattle.clauses.proofs.Laws.{clause_new}

-- hints over the store are hints over what is live

abbrev pub ids_of : List Name → ℕ → List ℕ → List ℕ
ids_of names base rs = map (id_of base) (map (name_at names) rs)

leads_named : (slots : Slots) (names : List Name) (base : ℕ) (at : Clauses)
    → NamesWhatIsLive slots names base at → (A : List Literal) (rs : List ℕ) (B : List Literal)
    → Leads (clause_at slots) A rs B → Leads at A (ids_of names base rs) B
leads_named slots names base at n A [] B w = w
leads_named slots names base at n A (r ∷ rs) B w =
    (w.0, w.1, n.named r w.0 w.2, w.3, leads_named slots names base at n (w.1 ∷ A) rs B w.4)

ids-append : (names : List Name) (base : ℕ) (rs : List ℕ) (r : ℕ)
    → ids_of names base (rs ++ r ∷ []) ≡ ids_of names base rs ++ id_of base (name_at names r) ∷ []
ids-append names base [] r = refl
ids-append names base (q ∷ rs) r =
    ap (λ x. id_of base (name_at names q) ∷ x) (ids-append names base rs r)

pub refutes_named : (slots : Slots) (names : List Name) (base : ℕ) (at : Clauses)
    → NamesWhatIsLive slots names base at → (A : List Literal) (rs : List ℕ)
    → Refutes (clause_at slots) A rs → Refutes at A (ids_of names base rs)
refutes_named slots names base at n A rs w = record {
  front = ids_of names base w.front;
  final = id_of base (name_at names w.final);
  split = ap (ids_of names base) w.split ∙ ids-append names base w.front w.final;
  reached = w.reached;
  leads = leads_named slots names base at n A w.front w.reached w.leads;
  clause = w.clause;
  live = n.named w.final w.clause w.live;
  conflict = w.conflict;
}

-- ids are of clauses given, or of additions so far
below_on : (base before : ℕ) (ls : List LogLine) (live : Live)
    → ((i : ℕ) (c : List Literal) → live.clause_at i ≡ Some c → i ≤ base + before)
    → (i : ℕ) (c : List Literal) → (live_after live (numbered_on base before ls)).clause_at i
    ≡ Some c → i ≤ base + (before + added_count ls)
below_on base before [] live h i c e = let k = h i c e in omega arith
below_on base before (l ∷ ls) live h i c e = elim (cases_Bool (is_delete l.kind)) [
  | inl d ↦
      let ids : List ℕ = map (λ h. id_of base (name_of h)) l.hints in
      let step = count_deletion l ls d in
      let rest : i ≤ base + (before + added_count ls) =
      below_on base before ls (without_ids live ids)
      (λ j x f. elim (cases_Bool (list_any (nat_eq j) ids)) [
        | inl t ↦
            absurd (none-some x (rw t at f))
        | inr t ↦ h j x (rw t at f)
      ])
      i c (rw d at e) in
      omega arith
  | inr d ↦
      let step = count_addition l ls d in
      let rest : i ≤ base + (before + 1 + added_count ls) =
      below_on base (before + 1) ls (with_clause live (base + before + 1) l.clause)
      (λ j x f. elim (cases_Bool (j == (base + before + 1))) [
        | inl t ↦ let s = eqb-true j (base + before + 1) t in omega arith
        | inr t ↦ let k = h j x (rw t at f) in omega arith
      ])
      i c (rw d at e) in
      omega arith
]

pub live_below : (given : Given) (base : ℕ) → IsBaseOf given base
    → (ls : List LogLine) (i : ℕ) (c : List Literal) → log_live given base ls i ≡ Some c
    → i ≤ base + added_count ls
live_below given base above ls i c e =
    let k =
    below_on base 0 ls (start_over given base)
    (λ j x f. let low = given_below given base above j x f in omega arith) i c e in omega arith

-- a clause that was added and comes to the store
module _ (slots : Slots) (names : List Name) (given : Given) (ls : List LogLine) (l : LogLine)
    (ns : List Name)
    (adds : is_delete l.kind ≡ false) (plain : l.hints ≡ plain_hints ns)
    (old : NamesStore slots names given ls) where
  abbrev new_name : Name
  new_name = Added (added_count ls + 1)

  abbrev new_names : List Name
  new_names = names ++ new_name ∷ []

  old_name : (r : ℕ) (c : List Literal) → clause_at slots r ≡ Some c
      → name_at new_names r ≡ name_at names r
  old_name r c e = let k = live_within slots r c e in
      get_or_append_left names (new_name ∷ []) (Formula 0) r (omega (arith, old.as_many))

  last_name : (r : ℕ) → r ≡ length slots → name_at new_names r ≡ new_name
  last_name r e = get_or_at names new_name [] (Formula 0) r (omega (arith, old.as_many))

  module _ (base : ℕ) (above : IsBaseOf given base) where
    abbrev id : ℕ
    id = base + added_count ls + 1

    same_id : id_of base new_name ≡ id
    same_id = omega arith

    old_live : (i : ℕ) (c : List Literal) → log_live given base ls i ≡ Some c → (i == id) ≡ false
    old_live i c e = let k = live_below given base above ls i c e in
        ne_eqb i id (λ s. absurd (omega arith))

    id_old : (r : ℕ) (c : List Literal) → clause_at slots r ≡ Some c
        → id_of base (name_at new_names r) ≡ id → ⊥
    id_old r c e s =
        let k =
        live_below given base above ls (id_of base (name_at names r)) c
        ((old.live base above).named r c e) in
        let n : id_of base (name_at new_names r) ≡ id_of base (name_at names r) =
        ap (id_of base) (old_name r c e) in
        omega arith

    new_at : Clauses
    new_at = (with_clause (live_of given base ls) id l.clause).clause_at

    named_new : (r : ℕ) (c : List Literal) → clause_at (slots ++ Some l.clause ∷ []) r ≡ Some c
        → new_at (id_of base (name_at new_names r)) ≡ Some c
    unfolding new_at
    named_new r c e = elim (clause_cases slots l.clause r c e) [
      | inl h ↦
          let at = (old.live base above).named r c h in
          let n : id_of base (name_at new_names r) ≡ id_of base (name_at names r) =
          ap (id_of base) (old_name r c h) in
          ap new_at n ∙ cond-false ((id_of base (name_at names r)) == id) (Some l.clause)
          (log_live given base ls (id_of base (name_at names r)))
          (old_live (id_of base (name_at names r)) c at) ∙ at
      | inr h ↦
          let n : id_of base (name_at new_names r) ≡ id = ap (id_of base) (last_name r h.0)
          ∙ same_id in
          ap new_at n ∙ cond-true (id == id) (Some l.clause) (log_live given base ls id)
          (eq-eqb id id refl) ∙ ap Some (sym h.1)
    ]

    only_new : (i : ℕ) (c : List Literal) → new_at i ≡ Some c
        → (r : ℕ) × (clause_at (slots ++ Some l.clause ∷ []) r ≡ Some c)
        × (id_of base (name_at new_names r) ≡ i)
    unfolding new_at
    only_new i c e = elim (cases_Bool (i == id)) [
      | inl t ↦
          let same : l.clause ≡ c = same_Some l.clause c (rw t at e) in (
            length slots,
            clause_new slots l.clause ∙ ap Some same,
            ap (id_of base) (last_name (length slots) refl) ∙ same_id ∙ sym (eqb-true i id t),
          )
      | inr t ↦
          let w = (old.live base above).only i c (rw t at e) in
          (w.0, clause_kept slots l.clause c w.0 w.1, ap (id_of base) (old_name w.0 c w.1) ∙ w.2)
    ]

    apart_new : (q r : ℕ) → IsLive (slots ++ Some l.clause ∷ []) q
        → IsLive (slots ++ Some l.clause ∷ []) r
        → id_of base (name_at new_names q) ≡ id_of base (name_at new_names r) → q ≡ r
    apart_new q r h k e = elim (clause_cases slots l.clause q h.0 h.1) [
      | inl a ↦ elim (clause_cases slots l.clause r k.0 k.1) [
        | inl b ↦ (old.live base above).apart q r (h.0, a) (
          k.0,
          b,
        ) (sym (ap (id_of base) (old_name q h.0 a)) ∙ e ∙ ap (id_of base) (old_name r k.0 b))
        | inr b ↦ absurd (id_old q h.0 a (e ∙ ap (id_of base) (last_name r b.0) ∙ same_id))
      ]
      | inr a ↦ elim (clause_cases slots l.clause r k.0 k.1) [
        | inl b ↦ absurd (id_old r k.0 b (sym e ∙ ap (id_of base) (last_name q a.0) ∙ same_id))
        | inr b ↦ a.0 ∙ sym b.0
      ]
    ]

    live_new : NamesWhatIsLive (slots ++ Some l.clause ∷ []) new_names base
        (log_live given base (ls ++ l ∷ []))
    unfolding new_at
    live_new =
        let moved : log_live given base (ls ++ l ∷ []) ≡ new_at =
        live-add given base ls l ns adds plain in
        subst (NamesWhatIsLive (slots ++ Some l.clause ∷ []) new_names base) (sym moved)
        (record { named = named_new; only = only_new; apart = apart_new })

  pub names_add : NamesStore (slots ++ Some l.clause ∷ [])
      (names ++ Added (added_count ls + 1) ∷ []) given (ls ++ l ∷ [])
  names_add = record {
    as_many = length_push names new_name ∙ ap (λ n. n + 1) old.as_many
        ∙ sym (length_push slots (Some l.clause));
    live = live_new;
  }

-- a clause that was deleted and leaves the store
module _ (slots : Slots) (names : List Name) (given : Given) (ls : List LogLine)
    (l : LogLine) (q : ℕ)
    (deletes : is_delete l.kind ≡ true) (plain : l.hints ≡ plain_hints (name_at names q ∷ []))
    (here : IsLive slots q) (old : NamesStore slots names given ls) where
  module _ (base : ℕ) (above : IsBaseOf given base) where
    abbrev gone : ℕ
    gone = id_of base (name_at names q)

    left_at : Clauses
    left_at = (without_ids (live_of given base ls) (gone ∷ [])).clause_at

    or_false : (i : ℕ) → i ≢ gone → list_any (nat_eq i) (gone ∷ []) ≡ false
    or_false i h = or_from (nat_eq i gone) false (ne_eqb i gone h) refl

    named_left : (r : ℕ) (c : List Literal) → clause_at (set slots q None) r ≡ Some c
        → left_at (id_of base (name_at names r)) ≡ Some c
    unfolding left_at
    named_left r c e =
        let h = clause_left slots q r c e in
        let i = id_of base (name_at names r) in
        let other : i ≢ gone = λ s. h.0 ((old.live base above).apart r q (c, h.1) here s) in
        cond-false (list_any (nat_eq i) (gone ∷ [])) None (log_live given base ls i)
        (or_false i other) ∙ (old.live base above).named r c h.1

    only_left : (i : ℕ) (c : List Literal) → left_at i ≡ Some c
        → (r : ℕ) × (clause_at (set slots q None) r ≡ Some c) × (id_of base (name_at names r) ≡ i)
    unfolding left_at
    only_left i c e = elim (cases_Bool (list_any (nat_eq i) (gone ∷ []))) [
      | inl t ↦ absurd (none-some c (rw t at e))
      | inr t ↦
          let w = (old.live base above).only i c (rw t at e) in
          let other : w.0 ≢ q = λ s.
          (let hit : (list_any (nat_eq i) (gone ∷ [])) ≡ true = or_left (nat_eq i gone) false
          (eq-eqb i gone (sym w.2 ∙ ap (λ k. id_of base (name_at names k)) s)) in
          absurd (cc)) in
          (w.0, clause_other slots q w.0 other ∙ w.1, w.2)
    ]

    live_left : NamesWhatIsLive (set slots q None) names base (log_live given base (ls ++ l ∷ []))
    unfolding left_at
    live_left =
        let moved : log_live given base (ls ++ l ∷ []) ≡ left_at =
        live-delete given base ls l (name_at names q ∷ []) deletes plain in
        subst (NamesWhatIsLive (set slots q None) names base) (sym moved) (record {
          named = named_left;
          only = only_left;
          apart =
              λ r s h k e. (old.live base above).apart r s (h.0, (clause_left slots q r h.0 h.1).1)
              (k.0, (clause_left slots q s k.0 k.1).1) e;
        })

  pub names_delete : NamesStore (set slots q None) names given (ls ++ l ∷ [])
  names_delete = record { as_many = old.as_many ∙ sym (length-set slots q None); live = live_left }

-- the store was compacted, and the names went along
pub names_move : (before after : Slots) (names moved : List Name) (given : Given)
    (ls : List LogLine) (ms : Renaming) → IsRenaming before after ms
    → IsStrictlyIncreasing (map (λ m. m.0) ms)
    → length moved ≡ length after → All (λ m. name_at moved m.1 ≡ name_at names m.0) ms
    → NamesStore before names given ls → NamesStore after moved given ls
names_move before after names moved given ls ms renames rises long along old = record {
  as_many = long;
  live = λ base above.
      let n = old.live base above in
      let name : (r q : ℕ) → renamed ms r ≡ Some q → name_at moved q ≡ name_at names r =
      λ r q e. moved_all (λ m. name_at moved m.1 ≡ name_at names m.0) ms r q along e in
      let from : (q : ℕ) (c : List Literal) → clause_at after q ≡ Some c
      → (r : ℕ) × (renamed ms r ≡ Some q) × (clause_at before r ≡ Some c) = λ q c e.
      (let w = came before after ms renames rises q c e in
      (w.0, w.1, sym (same_clause before after ms renames w.0 q w.1) ∙ e)) in
      record {
        named = λ q c e. let w = from q c e in
            ap (λ k. log_live given base ls (id_of base k)) (name w.0 q w.1) ∙ n.named w.0 c w.2;
        only = λ i c e.
            let w = n.only i c e in
            let z = went before after ms renames w.0 c w.1 in (
              z.0,
              same_clause before after ms renames w.0 z.0 z.1 ∙ w.1,
              ap (id_of base) (name w.0 z.0 z.1) ∙ w.2,
            );
        apart = λ p q h k e.
            let v = from p h.0 h.1 in
            let w = from q k.0 k.1 in
            let same : v.0 ≡ w.0 =
            n.apart v.0 w.0 (h.0, v.2) (k.0, w.2) (sym (ap (id_of base) (name v.0 p v.1)) ∙ e
            ∙ ap (id_of base) (name w.0 q w.1)) in
            same_Some p q (sym v.1 ∙ ap (renamed ms) same ∙ w.1);
      };
}
