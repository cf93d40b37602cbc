use Rattle.std.proofs.Common.{◌≡◌, ◌+◌, ◌≤◌, ◌∷◌, [], ◌++◌, false, true, get_or, length, take}
use Rattle.std.proofs.Common.{subst, sym, rules}
use Rattle.std.proofs.lemmas.Bool.{not-true, not-false}
use Rattle.std.proofs.lemmas.List.{take_all, append-nil, append_assoc}
use Rattle.std.specs.Prelude.{slice_range}
use Rattle.lrat_live.specs.Counts.{AreCounts}
use Rattle.lrat_live.specs.Table.{entry_spans, clauses_in}
use Rattle.lrat_live.specs.declared.entries.AddedEntry.{AddedEntry}
use Rattle.lrat_live.specs.Pages.{count_in}
use Rattle.lrat_live.proofs.CountLaws.{counts_push, more_dead, more_live}
use Rattle.lrat_live.proofs.Tables.{literals_end}
use Rattle.lrat_live.proofs.counts.count_entries.Goals as goal

abbrev none : AddedEntry
none = record { id = 0; start = 0; length = 0; next = 0; live = false }

pub loop-entry-init : goal.loop-entry-init
loop-entry-init c = λ es a. subst (AreCounts (count_in c.args.counts.now)) (sym (append-nil es)) a

pub slice_bounds-raise-end : goal.slice_bounds-raise-end
slice_bounds-raise-end c =
    let x = get_or c.args.entries.now c.loop-entry.entry-index none in
    let ends : x.start + x.length ≤ length c.args.lits.now =
    literals_end c.args.lits.now c.args.entries.now c.loop-entry.entry-index none c.requires
    c.loop-entry-test.true in
    search rules

pub loop-entry-preserved-then-not-entry : goal.loop-entry-preserved-then-not-entry
loop-entry-preserved-then-not-entry c =
    let xs = c.args.entries.now in
    let i = c.loop-entry.entry-index in
    let dead : (get_or xs i none).live ≡ false = first_of (cc, search (rules, not-true)) in
    λ es a. subst (λ cs. AreCounts (count_in c.loop-entry.counts) (es ++ cs))
    (sym (more_dead c.args.lits.now xs i none c.loop-entry-test.true dead))
    (c.loop-entry.invariant es a)

pub loop-entry-preserved : goal.loop-entry-preserved
loop-entry-preserved c =
    let xs = c.args.entries.now in
    let i = c.loop-entry.entry-index in
    let x = get_or xs i none in
    let now = count_in c.raise.new.counts in
    let live : (get_or xs i none).live ≡ true = first_of (cc, search (rules, not-false)) in
    let before = clauses_in c.args.lits.now (entry_spans (take i xs)) in
    let part = slice_range c.args.lits.now x.start (x.start + x.length) in
    λ es a. subst (λ cs. AreCounts now (es ++ cs))
    (sym (more_live c.args.lits.now xs i none c.loop-entry-test.true live))
    (subst (AreCounts now) (append_assoc es before ((x.id, part) ∷ []))
    (counts_push (count_in c.loop-entry.counts) now (es ++ before) x.id part
    (c.loop-entry.invariant es a) c.in_ok-raise.ensures))

pub returns : goal.returns
returns c =
    λ es a. subst (λ xs. AreCounts (count_in c.loop-entry.counts)
    (es ++ clauses_in c.args.lits.now (entry_spans xs)))
    (take_all c.loop-entry.entry-index c.args.entries.now c.loop-entry-test.false)
    (c.loop-entry.invariant es a)
