-- What is left to check of texts: with a certificate it gives the verdict, and what it shows.
use Rattle.std.proofs.Common.{◌≡◌, ℕ, List, Option, Some, None, subst}
use Rattle.std.specs.Prelude.{IfSome}
use Rattle.cnf.specs.Formula.{Cnf, IsUnsatisfiable}
use Rattle.lrat_check.specs.declared.checking.Left.{Left}
use Rattle.lrat_check.specs.declared.checking.Left.TheVariants.{Nothing, Proof}
use Rattle.lrat_machine.specs.declared.verdicts.Verdict.{Verdict}
use Rattle.lrat_check.specs.Left.{verdict_left, Shows}
use Rattle.lrat_check.specs.Verdict.{proof_verdict}

pub shows_more : (left : Left) (P Q : Type 0) → (P → Q) → Shows left P → Shows left Q
shows_more (Nothing v) P Q f h = λ y. f (h y)
shows_more (Proof g) P Q f h = λ u. f (h u)

abbrev pub Gives : Left → (List ℕ → Verdict) → Type 0
Gives left f = (proof : List ℕ) → verdict_left left proof ≡ f proof

pub nothing_gives : (left : Left) (v : Verdict) (f : List ℕ → Verdict) → left ≡ Nothing v
    → Gives left f → (proof : List ℕ) → v ≡ f proof
nothing_gives left v f e h proof = subst (λ l. verdict_left l proof ≡ f proof) e (h proof)

pub proof_gives : (left : Left) (g : Cnf) (f : List ℕ → Verdict) → left ≡ Proof g → Gives left f
    → (proof : List ℕ) → proof_verdict g.clauses proof ≡ f proof
proof_gives left g f e h proof = subst (λ l. verdict_left l proof ≡ f proof) e (h proof)

pub proof_shows : (left : Left) (g : Cnf) (P : Type 0) → left ≡ Proof g → Shows left P
    → IsUnsatisfiable g.clauses → P
proof_shows left g P e h = subst (λ l. Shows l P) e h

-- the bytes of a reader, where they are known
pub if_some_all : (o : Option (List ℕ)) (P : List ℕ → Type 0) → ((bytes : List ℕ) → P bytes)
    → IfSome o P
if_some_all None P f = tt
if_some_all (Some bytes) P f = f bytes

pub if_some_more : (o : Option (List ℕ)) (P Q : List ℕ → Type 0)
    → ((bytes : List ℕ) → P bytes → Q bytes) → IfSome o P → IfSome o Q
if_some_more None P Q f h = tt
if_some_more (Some bytes) P Q f h = f bytes h
