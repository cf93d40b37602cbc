-- The clauses given, in parts: the fixed ones, those of the bounds before the last, and those of
-- the last.
use Rattle.std.proofs.Common.{◌≡◌, ℕ, ◌+◌, ◌-◌, ◌<◌, ◌≤◌, ◌^◌, List, [], ◌∷◌, ◌++◌, length, take}
use Rattle.std.proofs.Common.{drop, sym, ◌∙◌, ap, subst, arith, All, length-append, append-nil}
use Rattle.std.proofs.Common.{append_assoc}
use Rattle.std.specs.Prelude.{Result, Ok, Err, IfOk, OnOk}
use Rattle.std.specs.List.{AllByRecursion, flat_map}
use Rattle.std.specs.declared.vec.Vec.{Vec}
use Rattle.std.specs.declared.alloc.Global.{Global}
use Rattle.std.proofs.lemmas.Grind.{flat_map-append}
use Rattle.std.proofs.lemmas.List.{length-map}
use Rattle.std.proofs.Math.Seq.{drop-append_seam, take-append_seam}
use Rattle.std.proofs.lemmas.List.Elements.{recursion_from_All, All-from_recursion, All-weaker}
use Rattle.cnf.specs.Literal.{Literal}
use Rattle.cnf.specs.Clause.{greatest_variable}
use Rattle.cnf.specs.Lrat.{IsId}
use Rattle.cnf.specs.Problem.{Problem}
use Rattle.cnf.specs.Formula.{IsFormulaClause}
use Rattle.lrat_log.specs.declared.lines.Hint.{Hint}
use Rattle.lrat_log.specs.declared.lines.Name.{Name}
use Rattle.lrat_log.specs.declared.lines.Name.TheVariants.{Formula, Added}
use Rattle.lrat_log.specs.Log.{LogLine, Given, HasSmallIds, id_of, name_of, clauses_in}
use Rattle.lrat_log.specs.Steps.{IsLogOver, given_of}
use Rattle.lrat_log.specs.Rebase.{weaker_list}
use Rattle.lrat_log.proofs.Laws.{small_ids}
use Rattle.lrat_log.proofs.Laws.{base_of}
use Rattle.bound.specs.Bound.{fixed_clauses, comparator_for}
use Rattle.cdcl.specs.Solving.{given_to}
use Rattle.improve.specs.Weaker.{first_subset, weaker_among}
use Rattle.improve.specs.Bounds.{LogSolver, IsUsable, IsOver}
use Rattle.improve.specs.declared.bounds.Bounds.{Bounds}
use Rattle.improve.proofs.FirstSubsets.{first_bounds}

last_part : (a b c : List (List Literal)) (n : ℕ) → n ≡ length a + length b
    → drop n (a ++ (b ++ c)) ≡ c
last_part a b c n e =
    let len : n ≡ length (a ++ b) = omega (arith, e, length-append a b) in
    ap (drop n) (sym (append_assoc a b c))
    ∙ ap (λ m. drop m ((a ++ b) ++ c)) len
    ∙ drop-append_seam (a ++ b) c

middle_part : (a b c : List (List Literal)) (n : ℕ) → n ≡ length b
    → take n (drop (length a) (a ++ (b ++ c))) ≡ b
middle_part a b c n e =
    ap (take n) (drop-append_seam a (b ++ c)) ∙ ap (λ m. take m (b ++ c)) e ∙ take-append_seam b c

pub parts_weaker : (given : Given) (fixed last : ℕ) (a b c : List (List Literal))
    → clauses_in given ≡ a ++ (b ++ c) → length a ≡ fixed → length c ≡ last
    → weaker_among (fixed + 1) (drop (length given - last) (clauses_in given))
    (take (length given - last - fixed) (drop fixed (clauses_in given)))
    ≡ weaker_among (fixed + 1) c b
parts_weaker given fixed last a b c e f g =
    let len : length given ≡ length a + length b + length c =
    omega (
      arith,
      length-map given (λ x. x.1),
      ap length e,
      length-append a (b ++ c),
      length-append b c,
    ) in
    let end = length given - last in
    ap (λ x. weaker_among (fixed + 1) (drop end x) (take (end - fixed) (drop fixed x))) e
    ∙ ap (λ x. weaker_among (fixed + 1) x (take (end - fixed) (drop fixed (a ++ (b ++ c)))))
    (last_part a b c end (omega arith))
    ∙ ap (λ n. weaker_among (fixed + 1) c (take (end - fixed) (drop n (a ++ (b ++ c))))) (sym f)
    ∙ ap (weaker_among (fixed + 1) c) (middle_part a b c (end - fixed) (omega arith))

-- ids at a lower base
small_at : (a b : ℕ) (n : Name) → a ≤ b → id_of b n < 2 ^ 62 → id_of a n < 2 ^ 62
small_at a b (Formula i) h lt = lt
small_at a b (Added j) h lt = omega arith

small_lower : (a b : ℕ) (ls : List LogLine) → a ≤ b → HasSmallIds b ls → HasSmallIds a ls
small_lower a b ls h s =
    All-weaker (λ (l : LogLine). All (λ x. id_of b (name_of x) < 2 ^ 62) l.hints)
    (λ l. All (λ x. id_of a (name_of x) < 2 ^ 62) l.hints)
    (λ l g. All-weaker (λ (x : Hint). id_of b (name_of x) < 2 ^ 62)
    (λ x. id_of a (name_of x) < 2 ^ 62) (λ x lt. small_at a b (name_of x) h lt) l.hints g) ls s

pub solver_ids : (s : LogSolver) (count : ℕ) → IsUsable s → length (given_to s) < 2 ^ 58
    → length s.sink < 2 ^ 61 → count ≤ length (given_to s) → HasSmallIds count s.sink
solver_ids s count u few short le =
    let cs : List (List Literal) = clauses_in (given_to s) in
    let n : ℕ = length (clauses_in (given_to s)) in
    let len : length (clauses_in (given_to s)) ≡ length (given_to s) =
    length-map (given_to s) (λ x. x.1) in
    let log : IsLogOver (given_of (clauses_in (given_to s))) s.sink =
    subst (λ g. IsLogOver g s.sink) u.numbered u.log in
    let base = base_of cs n (omega arith) in
    small_lower count n s.sink (omega arith)
    (small_ids (given_of cs) n base s.sink (log.steps n base) (omega arith))

-- what holds of the entries of a list of clauses with numbers
each_entry : (P : List Literal × ℕ → Type 0) (ws : List (Vec Literal Global × ℕ))
    → AllByRecursion P (weaker_list ws) → AllByRecursion (λ e. P ((e.0).items, e.1)) ws
each_entry P [] h = tt
each_entry P (w ∷ ws) h = (h.0, each_entry P ws h.1)

each_among : (P : List Literal × ℕ → Type 0) (n : ℕ) (c b : List (List Literal))
    → AllByRecursion (λ x. P (x, first_subset n c x)) b → AllByRecursion P (weaker_among n c b)
each_among P n c [] h = tt
each_among P n c (x ∷ b) h = (h.0, each_among P n c b h.1)

any_each : (P : List Literal → Type 0) → ((x : List Literal) → P x) → (b : List (List Literal))
    → AllByRecursion P b
any_each P f [] = tt
any_each P f (x ∷ b) = (f x, any_each P f b)

pub entry_numbers : (ws : List (Vec Literal Global × ℕ)) (n : ℕ) (c b : List (List Literal))
    → weaker_list ws ≡ weaker_among n c b → 0 < n → n + length c < 2 ^ 62 → All (λ e. IsId e.1) ws
entry_numbers ws n c b e low high =
    let P : List Literal × ℕ → Type 0 = λ x. IsId x.1 in
    All-from_recursion (λ e. IsId e.1) ws (each_entry P ws (subst (AllByRecursion P) (sym e)
    (each_among P n c b
    (any_each (λ x. IsId (first_subset n c x)) (λ x. let r = first_bounds c x n in
    (omega (arith, r.0), omega (arith, r.1))) b))))

pub entry_literals : (ws : List (Vec Literal Global × ℕ)) (n : ℕ) (c b : List (List Literal))
    → weaker_list ws ≡ weaker_among n c b → AllByRecursion (λ x. All (λ l. IsId l.variable) x) b
    → All (λ e. All (λ l. IsId l.variable) (e.0).items) ws
entry_literals ws n c b e h =
    let P : List Literal × ℕ → Type 0 = λ x. All (λ l. IsId l.variable) x.0 in
    All-from_recursion (λ e. All (λ l. IsId l.variable) (e.0).items) ws
    (each_entry P ws (subst (AllByRecursion P) (sym e) (each_among P n c b h)))

pub clause_ids : (v : ℕ) (x : List Literal) → v < 2 ^ 62 → IsFormulaClause v x
    → All (λ l. IsId l.variable) x
clause_ids v x small f =
    All-from_recursion (λ l. IsId l.variable) x
    (ids x (recursion_from_All (λ l. 0 < l.variable) x f.from_one) f.small)
  where
    ids : (x : List Literal) → AllByRecursion (λ l. 0 < l.variable) x → greatest_variable x ≤ v
        → AllByRecursion (λ l. IsId l.variable) x
    ids [] h g = tt
    ids (l ∷ x) h g = ((h.0, omega arith), ids x h.1 (omega arith))

-- the parts of what a solver was given
pub given_split : (p : Problem) (b : Bounds) (before : List ℕ) (c : ℕ) → IsOver p b
    → (b.costs).items ≡ before ++ c ∷ []
    → clauses_in (given_to b.solver)
    ≡ fixed_clauses b.profile p ++ (flat_map (comparator_for b.profile p) before ++ comparator_for
    b.profile p c)
given_split p b before c h e =
    h.clauses ∙ ap (λ x. fixed_clauses b.profile p ++ flat_map (comparator_for b.profile p) x) e
    ∙ ap (λ x. fixed_clauses b.profile p ++ x) (flat_map-append (comparator_for b.profile p) before
    (c ∷ []) ∙ ap (λ x. flat_map (comparator_for b.profile p) before ++ x)
    (append-nil (comparator_for b.profile p c)))

pub given_length : (p : Problem) (b : Bounds) (before : List ℕ) (c : ℕ) → IsOver p b
    → (b.costs).items ≡ before ++ c ∷ []
    → length (given_to b.solver)
    ≡ b.fixed + length (flat_map (comparator_for b.profile p) before) + b.last
given_length p b before c h e =
    let A = fixed_clauses b.profile p in
    let B = flat_map (comparator_for b.profile p) before in
    let C = comparator_for b.profile p c in
    omega (
      arith,
      length-map (given_to b.solver) (λ x. x.1),
      ap length (given_split p b before c h e),
      length-append A (B ++ C),
      length-append B C,
      h.fixed,
      h.last before c e,
    )

pub weaker_len : (ws : List (Vec Literal Global × ℕ)) (n : ℕ) (c b : List (List Literal))
    → weaker_list ws ≡ weaker_among n c b → length ws ≡ length b
weaker_len ws n c b e =
    sym (length-map ws (λ x. ((x.0).items, x.1))) ∙ ap length e
    ∙ length-map b (λ x. (x, first_subset n c x))

-- what was found for the clauses between the fixed ones and those of the last bound
module _ (p : Problem) (b : Bounds) (before : List ℕ) (c : ℕ) (h : IsOver p b)
    (e : (b.costs).items ≡ before ++ c ∷ []) (given : Given) (same : given ≡ given_to b.solver)
    (ws : List (Vec Literal Global × ℕ))
    (parts : (x y z : List (List Literal)) → clauses_in given ≡ x ++ (y ++ z) → length x ≡ b.fixed
    → length z ≡ b.last → weaker_list ws ≡ weaker_among (b.fixed + 1) z y) where
  abbrev last : List (List Literal)
  last = comparator_for b.profile p c

  abbrev earlier : List (List Literal)
  earlier = flat_map (comparator_for b.profile p) before

  pub entries_are : weaker_list ws
      ≡ weaker_among (b.fixed + 1) (comparator_for b.profile p c)
      (flat_map (comparator_for b.profile p) before)
  entries_are =
      parts (fixed_clauses b.profile p) earlier last
      (ap clauses_in same ∙ given_split p b before c h e) (sym h.fixed) (sym (h.last before c e))

  pub entries_count : length given ≡ b.fixed + length ws + b.last
  entries_count =
      omega (
        arith,
        ap length same,
        given_length p b before c h e,
        weaker_len ws (b.fixed + 1) last earlier entries_are,
      )

  pub entries_fit : length given < 2 ^ 58 → All (λ x. IsId x.1) ws
  entries_fit few =
      entry_numbers ws (b.fixed + 1) last earlier entries_are (omega arith)
      (omega (arith, few, entries_count, h.last before c e))

pub if_ok_both : {X E : Type 0} (r : Result X E) (P Q : X → Type 0) (K : Type 0) → IfOk r P
    → OnOk r K → ((x : X) → P x → K → Q x) → IfOk r Q
if_ok_both (Ok x) P Q K h k f = f x h k
if_ok_both (Err e) P Q K h k f = h
