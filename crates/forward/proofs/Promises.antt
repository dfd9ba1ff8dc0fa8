-- What the next hop promises, by its contract as the code states it, is `next_hop`.
use mathlib.Core.Path.{◌≡◌, refl, sym, ap, ◌∙◌}
use Prim.Native.Nat.{ℕ}
use Rattle.std.specs.Prelude.{Result, Ok, Err}
use Rattle.refusal.specs.declared.Refusal.{Refusal}
use Rattle.refusal.specs.Refusal.{number_of}
use Rattle.refusal.proofs.Numbers.{some, one}
use Rattle.address.specs.declared.Address.{Address}
use Rattle.node.specs.declared.Node.{Node}
use Rattle.forward.specs.declared.Hop.{Hop}
use Rattle.forward.specs.declared.Hop.TheVariants.{Deliver, Parent, Child}
use Rattle.forward.specs.Forward.{Action, deliver, to_parent, to_child, stop, HopAnswer, hop_answer, next_hop}
use Rattle.forward.proofs.next_hop.Reads as next-hop-reads

pub next-hop_promise : (n : Node) (destination : Address) (r : Result Hop Refusal)
    → next-hop-reads.Learnt tt (n, (destination, tt)) r (n, (destination, tt))
    → hop_answer r ≡ next_hop n destination.number
next-hop_promise n destination r h = h

-- the numbers promised leave one answer: a hop can be read off them, and a refusal's number, which is never 0, says which it is
hop_of : Action → ℕ → Hop
hop_of deliver node = Deliver (record { number = node })
hop_of to_parent node = Parent (record { number = node })
hop_of to_child node = Child (record { number = node })
hop_of stop node = Deliver (record { number = node })

hop_of-answer : (h : Hop) → hop_of (hop_answer (Ok h)).action (hop_answer (Ok h)).named ≡ h
unfolding hop_answer hop_of
hop_of-answer (Deliver a) = refl
hop_of-answer (Parent a) = refl
hop_of-answer (Child a) = refl

unrefused : (h : Hop) → (hop_answer (Ok h)).refusal ≡ 0
unfolding hop_answer
unrefused (Deliver a) = refl
unrefused (Parent a) = refl
unrefused (Child a) = refl

refused : (r : Refusal) → (hop_answer (Err r)).refusal ≡ number_of r
unfolding hop_answer
refused r = refl

pub one-hop : (r s : Result Hop Refusal) → hop_answer r ≡ hop_answer s → r ≡ s
one-hop (Ok h) (Ok k) e = ap Ok (sym (hop_of-answer h) ∙ ap (λ (x : HopAnswer). hop_of x.action x.named) e ∙ hop_of-answer k)
one-hop (Ok h) (Err r) e = absurd (some r (sym (refused r) ∙ ap (λ (x : HopAnswer). x.refusal) (sym e) ∙ unrefused h))
one-hop (Err r) (Ok h) e = absurd (some r (sym (refused r) ∙ ap (λ (x : HopAnswer). x.refusal) e ∙ unrefused h))
one-hop (Err r) (Err s) e = ap Err (one r s (sym (refused r) ∙ ap (λ (x : HopAnswer). x.refusal) e ∙ refused s))

pub next-hop-asks-nothing : (n : Node) (destination : Address) → next-hop-reads.Asked tt (n, (destination, tt))
next-hop-asks-nothing n destination = tt
