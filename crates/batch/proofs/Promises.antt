-- What the functions of this crate promise, by their contracts as the code states them, is `pasa_hop` of an answer and `next_hops` of many. Neither
-- asks anything of its caller.
use mathlib.Core.Path.{◌≡◌}
use mathlib.Core.List.{List}
use Prim.Native.Nat.{ℕ}
use contract.Lifetimes.{Lfts}
use Rattle.std.specs.Borrow.{Bor, MutBor}
use Rattle.node.specs.declared.Node.{Node}
use Rattle.std.specs.Prelude.{Result}
use Rattle.refusal.specs.declared.Refusal.{Refusal}
use Rattle.forward.specs.declared.Hop.{Hop}
use Rattle.forward.specs.Forward.{hop_answer}
use Rattle.batch.specs.Exported.{PasaHop, pasa_hop, numbered_answer}
use Rattle.batch.specs.Batch.{BatchEffect, next_hops}
use Rattle.batch.proofs.PasaHopFromResultHopRefusal.from.Reads as pasa-hop-reads
use Rattle.batch.proofs.pasa_hop.Reads as numbered-reads
use Rattle.batch.proofs.next_hops.Reads as next-hops-reads

-- a lent slice, to read and to write
abbrev Slice : Type 0
Slice = Bor (List ℕ)

abbrev SliceMut : Type 0
SliceMut = MutBor (List ℕ)

pub pasa_hop_promise : (h : Result Hop Refusal) (r : PasaHop) → pasa-hop-reads.Learnt tt (h, tt) r (h, tt) → r ≡ pasa_hop (hop_answer h)
pasa_hop_promise h r e = e

pub pasa_hop-asks-nothing : (h : Result Hop Refusal) → pasa-hop-reads.Asked tt (h, tt)
pasa_hop-asks-nothing h = tt

-- the same of an answer whose refusal is any number
pub numbered_promise : (h : Result Hop ℕ) (r : PasaHop) → numbered-reads.Learnt tt (h, tt) r (h, tt) → r ≡ pasa_hop (numbered_answer h)
numbered_promise h r e = e

pub numbered-asks-nothing : (h : Result Hop ℕ) → numbered-reads.Asked tt (h, tt)
numbered-asks-nothing h = tt

module _ (κs : Lfts 4) (n : Node) (ds : Slice) (nodes actions refusals : SliceMut) where
  pub next-hops_promise : (nodes' actions' refusals' : SliceMut) (r : ℕ)
      → next-hops-reads.Learnt κs (n, (ds, (nodes, (actions, (refusals, tt))))) r (n, (ds, (nodes', (actions', (refusals', tt)))))
      → ◌≡◌ {A = BatchEffect} record { count = r; nodes = nodes'.now; actions = actions'.now; refusals = refusals'.now }
      (next_hops n ds.now nodes.now actions.now refusals.now)
  next-hops_promise nodes' actions' refusals' r h = h

  pub next-hops-asks-nothing : next-hops-reads.Asked κs (n, (ds, (nodes, (actions, (refusals, tt)))))
  next-hops-asks-nothing = tt
