-- What the functions of this crate promise, by their contracts as the code states them, is `fresh`, `with_counts`, `count`, `limit`, `is_good`,
-- `child_of` and `set_limit`: the definitions of which the laws are proved. None of them asks anything of its caller.
use Rattle.std.specs.Prelude.{Result}
use Rattle.std.proofs.Common.{refl, ap, ap₂}
use Rattle.refusal.specs.declared.Refusal.{Refusal}
use Rattle.refusal.specs.Outcome.{outcome_number}
use Rattle.refusal.proofs.Outcomes.{one-answer}
use mathlib.Core.Path.{◌≡◌}
use mathlib.Core.Bool.{Bool}
use Prim.Native.Nat.{ℕ}
use Rattle.address.specs.declared.Address.{Address}
use Rattle.address.specs.declared.Kind.{Kind}
use Rattle.node.specs.Node.{Node, fresh, with_counts, count, limit, is_good, Given, child_handed, given_answer, child_of, Limited, limited_answer, set_limit}
use Rattle.node.specs.declared.Handed.{Handed}
use Rattle.node.proofs.Node.fresh.Reads as fresh-reads
use Rattle.node.proofs.Node.with_counts.Reads as with-counts-reads
use Rattle.node.proofs.Node.count.Reads as count-reads
use Rattle.node.proofs.Node.limit.Reads as limit-reads
use Rattle.node.proofs.Node.is_good.Reads as is-good-reads
use Rattle.node.proofs.Node.child.Reads as child-reads
use Rattle.node.proofs.Node.set_limit.Reads as set-limit-reads

pub fresh_promise : (address : Address) (r : Node) → fresh-reads.Learnt tt (address, tt) r (address, tt) → r ≡ fresh address.number
fresh_promise address r h = h

pub fresh-asks-nothing : (address : Address) → fresh-reads.Asked tt (address, tt)
fresh-asks-nothing address = tt

pub with_counts_promise : (n : Node) (routers hosts : ℕ) (r : Node) → with-counts-reads.Learnt tt (n, (routers, (hosts, tt))) r (n, (routers, (hosts, tt)))
    → r ≡ with_counts routers hosts n
with_counts_promise n routers hosts r h = h

pub with_counts-asks-nothing : (n : Node) (routers hosts : ℕ) → with-counts-reads.Asked tt (n, (routers, (hosts, tt)))
with_counts-asks-nothing n routers hosts = tt

pub count_promise : (n : Node) (kind : Kind) (r : ℕ) → count-reads.Learnt tt (n, (kind, tt)) r (n, (kind, tt)) → r ≡ count kind n
count_promise n kind r h = h

pub count-asks-nothing : (n : Node) (kind : Kind) → count-reads.Asked tt (n, (kind, tt))
count-asks-nothing n kind = tt

pub limit_promise : (n : Node) (kind : Kind) (r : ℕ) → limit-reads.Learnt tt (n, (kind, tt)) r (n, (kind, tt)) → r ≡ limit kind n
limit_promise n kind r h = h

pub limit-asks-nothing : (n : Node) (kind : Kind) → limit-reads.Asked tt (n, (kind, tt))
limit-asks-nothing n kind = tt

pub is_good_promise : (n : Node) (r : Bool) → is-good-reads.Learnt tt (n, tt) r (n, tt) → r ≡ is_good n
is_good_promise n r h = h

pub is_good-asks-nothing : (n : Node) → is-good-reads.Asked tt (n, tt)
is_good-asks-nothing n = tt

pub child_promise : (n : Node) (kind : Kind) (r : Handed Address) → child-reads.Learnt tt (n, (kind, tt)) r (n, (kind, tt)) → given_answer r ≡ child_of n kind
child_promise n kind r h = h

pub child-asks-nothing : (n : Node) (kind : Kind) → child-reads.Asked tt (n, (kind, tt))
child-asks-nothing n kind = tt

pub set-limit_promise : (n : Node) (kind : Kind) (k : ℕ) (r : Handed (Unit {0})) → set-limit-reads.Learnt tt (n, (kind, (k, tt))) r (n, (kind, (k, tt)))
    → limited_answer r ≡ set_limit n kind k
set-limit_promise n kind k r h = h

pub set-limit-asks-nothing : (n : Node) (kind : Kind) (k : ℕ) → set-limit-reads.Asked tt (n, (kind, (k, tt)))
set-limit-asks-nothing n kind k = tt

-- the numbers leave one answer

handed : {T : Type 0} → Node → Result T Refusal → Handed T
handed n o = record { node = n; outcome = o }

pub one-given : (r s : Handed Address) → given_answer r ≡ given_answer s → r ≡ s
unfolding handed
one-given r s e =
    ap₂ handed (ap (λ (g : Given). g.node) e)
    (one-answer {W = Address × ℕ} (λ (o : Result Address Refusal). (child_handed o, outcome_number o)) (λ p. p.1) (λ p. p.0) (λ a. refl) (λ a. refl) (λ x. refl) r.outcome s.outcome
    (ap₂ {C = Address × ℕ} (λ (a : Address) (k : ℕ). (a, k)) (ap (λ (g : Given). g.child) e) (ap (λ (g : Given). g.refusal) e)))

pub one-limited : (r s : Handed (Unit {0})) → limited_answer r ≡ limited_answer s → r ≡ s
unfolding handed
one-limited r s e =
    ap₂ handed (ap (λ (g : Limited). g.node) e)
    (one-answer (λ (o : Result (Unit {0}) Refusal). outcome_number o) (λ k. k) (λ k. tt) (λ a. refl) (λ a. refl) (λ x. refl) r.outcome s.outcome
    (ap (λ (g : Limited). g.refusal) e))
