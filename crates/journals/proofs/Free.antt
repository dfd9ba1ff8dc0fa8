-- Where no limit was set every record has 64 and 64: the root begins so, a request keeps the limits of the record handed back, and a child begins
-- so. Then a record is what its address and counts give. Assumes nothing.
use Prim.Native.Nat.{ℕ}
use mathlib.Core.Path.{◌≡◌, ap, ◌∙◌}
use mathlib.Core.List.{List, [], ◌∷◌, ◌++◌}
use Rattle.address.specs.Bits.{number, root}
use Rattle.address.specs.declared.Kind.{Kind}
use Rattle.node.specs.Node.{no_cap, fresh, raised, limit, child_bits, child_of, set_limit}
use Rattle.node.specs.declared.Node.{Node}
use Rattle.node.proofs.Children.{limit-fresh, limit-raised, MayGive}
use Rattle.tree.specs.Tree.{Request, Tree, bare_root, standing, record_of, replaced, ask, happen, grow, grown}
use Rattle.tree.proofs.Sound.{Sound}
use Rattle.tree.proofs.Growth.{Stands, is_asked, is_new, is_other, records, record_of-bare_root, sound-bare_root, sound-ask}
use Rattle.journals.specs.Replays.{recovered, alone}
use Rattle.journals.proofs.Recovered.{recovered-free}
use Rattle.journals.proofs.Counts.{ask-keeps}

abbrev Free : Tree → Type 0
Free t = (a : ℕ) (n : Node) (kind : Kind) → record_of a t ≡ standing n → limit kind n ≡ no_cap

free-bare_root : Free bare_root
free-bare_root a n kind e = ap (limit kind) (record_of-bare_root a n e) ∙ limit-fresh kind root

module _ (t : Tree) (s : Sound t) (free : Free t) (a : ℕ) (n : Node) (stands : record_of a t ≡ standing n) (kind : Kind) (may : MayGive n kind) where
  free-stands : (b : ℕ) (m : Node) (other : Kind) → Stands t s a n stands kind may b m → limit other m ≡ no_cap
  free-stands b m other (is_asked q e) = ap (limit other) e ∙ limit-raised kind other n ∙ free a n other stands
  free-stands b m other (is_new q e) = ap (limit other) e ∙ limit-fresh other (number (child_bits n kind))
  free-stands b m other (is_other ne e) = free b m other e

  free-given : Free (replaced a (raised kind n) t ++ (fresh (number (child_bits n kind)) ∷ []))
  free-given b m other e = free-stands b m other (records t s a n stands kind may b m e)

free-grow : (t : Tree) (rs : List Request) → Sound t → Free t → Free (grow child_of set_limit t (alone rs)).tree
unfolding grow happen
free-grow t [] s free = free
free-grow t (r ∷ rs) s free = free-grow (ask child_of t r).tree rs (sound-ask t r s) (ask-keeps Free t r free (free-given t s free))

pub recovered_alone : (rs : List Request) (a : ℕ) (n : Node) → record_of a (grown child_of set_limit (alone rs)) ≡ standing n → recovered n ≡ n
unfolding grown
recovered_alone rs a n e = recovered-free n (λ kind. free-grow bare_root rs sound-bare_root free-bare_root a n kind e)
