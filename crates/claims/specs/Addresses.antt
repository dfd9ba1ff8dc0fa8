-- "What an address is" and "A node and its children".
use Rattle.std.specs.Prelude.{ℕ, ◌+◌, ◌*◌, ◌-◌, ◌^◌, ◌<◌, ◌≤◌, ◌≡◌, true, false, ◌⊎◌, ◌↔◌, List, [], ◌∷◌, ◌++◌, length, take, drop, replicate}
use Rattle.std.specs.Int.Count.{count_leading_zeros}
use Rattle.address.specs.Bits.{Bit, O, I, bits, number}
use Rattle.address.specs.Steps.{Step, child, steps, step_bits, spelled, address_of}
use Rattle.address.specs.Address.{bit_length, is_host, depth, parent}
use Rattle.address.specs.Numbers.{IsAddressString, IsAddress}
use Rattle.address.specs.Cuts.{AreSteps}
use Rattle.address.specs.Ancestors.{AncestorOrSelf}
use Rattle.address.specs.Kinds.{EndsIn, IsRoot, IsRouter, IsHost}
use Rattle.address.specs.declared.Kind.{Kind}
use Rattle.address.specs.declared.Kind.TheVariants.{Router, Host}
use Rattle.search.specs.Search.{looked_at, child_end, first_bits, same_bit, is_prefix}
use Rattle.search.specs.Exactly.{Stops}
use Rattle.node.specs.Node.{address_in, count, raised, limit, is_good, fresh, child_of}
use Rattle.node.specs.Refusals.{IsGood, IsBad}
use Rattle.node.specs.declared.Node.{Node}

pub record Addresses : Type 0 where
  -- "An address is a string of 1 to 64 bits whose first bit is 1. It is held right-justified in a 64-bit number, so the address is any number
  -- but zero.": strings and numbers correspond one to one
  pub any_number_but_zero : (a : ℕ) → IsAddress a ↔ ((0 < a) × (a < 2 ^ 64))
  pub strings_held : (bs : List Bit) → IsAddressString bs → IsAddress (number bs) × (bits (number bs) ≡ bs)
  pub numbers_shown : (a : ℕ) → IsAddress a → IsAddressString (bits a) × (number (bits a) ≡ a)
  -- "right-justified": the last bit is worth 1, and a bit more doubles what stands before it
  pub right_justified : (bs : List Bit) → (number (bs ++ (O ∷ [])) ≡ number bs * 2) × (number (bs ++ (I ∷ [])) ≡ number bs * 2 + 1)
  -- "Its length is 64 less the count of leading zeros". "The example there, 'Len(0x00010010) = 5', means the binary digits 00010010."
  pub lengths : (a : ℕ) → a < 2 ^ 64 → count_leading_zeros 64 a + bit_length a ≡ 64
  pub length_of_example : bit_length 0b00010010 ≡ 5
  -- "a run of k ones and then a 0 is 'router child k'. If ones remain at the end, m of them (m at least 1) are 'host child m-1'.": the bits of a
  -- step, and of steps one behind the other
  pub step_of_router : (k : ℕ) → step_bits (child Router k) ≡ replicate k I ++ (O ∷ [])
  pub step_of_host : (k : ℕ) → step_bits (child Host k) ≡ replicate k I ++ (I ∷ [])
  pub spelled_one_by_one : (s : Step) (up : List Step) → (spelled [] ≡ I ∷ []) × (spelled (s ∷ up) ≡ spelled up ++ step_bits s)
  -- "After the first 1, the string is cut into steps .. Every address has exactly one such reading."
  pub cut : (a : ℕ) → IsAddress a → AreSteps (steps a) × (spelled (steps a) ≡ bits a)
  pub cut_one_way : (a : ℕ) (ss : List Step) → IsAddress a → AreSteps ss → spelled ss ≡ bits a → ss ≡ steps a
  pub spelt : (ss : List Step) → AreSteps ss → length (spelled ss) ≤ 64 → IsAddress (address_of ss) × (steps (address_of ss) ≡ ss)
  -- "The root is 1. A router ends in 0. A host ends in 1 and is longer than one bit. The root ends in 1 and is no host."
  pub hosts : (a : ℕ) → (is_host a ≡ true) ↔ IsHost a
  pub hosts_by_steps : (a : ℕ) → IsAddress a → (is_host a ≡ true) ↔ ((i : ℕ) × (up : List Step) × (steps a ≡ child Host i ∷ up))
  pub is_root : (a : ℕ) → IsRoot a ↔ (a ≡ 1)
  pub is_router : (a : ℕ) → IsRouter a ↔ ((front : List Bit) × (bits a ≡ front ++ (O ∷ [])))
  pub is_host : (a : ℕ) → IsHost a ↔ (((front : List Bit) × (bits a ≡ front ++ (I ∷ []))) × (1 < bit_length a))
  pub kinds : (a : ℕ) → 0 < a → IsRoot a ⊎ IsRouter a ⊎ IsHost a
  pub root_is_no_host : EndsIn I 1 × (IsHost 1 → ⊥)
  pub routers_are_neither : (a : ℕ) → IsRouter a → (IsRoot a → ⊥) × (IsHost a → ⊥)
  -- "The parent of an address drops its last step."
  pub parents : (a : ℕ) (last : Step) (others : List Step) → IsAddress a → steps a ≡ last ∷ others
      → (parent a ≡ address_of others) × (steps (parent a) ≡ others)
  -- "Depth is the number of steps, 0 to 63.": no address has more, the root has none, and 1 with 63 zeros behind it has 63
  pub depth_is_steps : (a : ℕ) → depth a ≡ length (steps a)
  pub depth_at_most : (a : ℕ) → IsAddress a → depth a ≤ 63
  pub depth_met : (depth 1 ≡ 0) × (depth (2 ^ 63) ≡ 63)
  -- the parent of the root and of zero, and zero's depth and length: the document is silent, and all are 0
  pub silent : (parent 1 ≡ 0) × (parent 0 ≡ 0) × (depth 0 ≡ 0) × (bit_length 0 ≡ 0)
  -- "C .. is a prefix of D", of the root or a router C: in bits there is a rest, and in steps C's begin D's
  pub same_bits : (b c : Bit) → (same_bit b c ≡ true) ↔ (b ≡ c)
  pub prefixes : (cs ds : List Bit) → (is_prefix cs ds ≡ true) ↔ ((rest : List Bit) × (ds ≡ cs ++ rest))
  pub prefix_by_steps : (c d : ℕ) → IsAddress c → IsAddress d → IsRoot c ⊎ IsRouter c
      → (is_prefix (bits c) (bits d) ≡ true) ↔ AncestorOrSelf (steps c) (steps d)
  -- "stop at the first 0 or at D's last bit"
  pub looked : (bs : List Bit) → Stops bs
  pub searched : (n : ℕ) (ds : List Bit) → child_end n ds ≡ n + length (looked_at (drop n ds))
  pub first_ones : (n a : ℕ) → first_bits n a ≡ number (take n (bits a))

pub record Children : Type 0 where
  -- "For the root or a router of n bits each count is 0 to 64-n. For a host both are 0. Any other record is bad."; and, of document 02 (Five), "two
  -- limits, routers and hosts, 0 to 64 each .. a limit above 64, or a count above its limit, makes the record bad"
  pub good_records : (n : Node) → (is_good n ≡ true) ↔ IsGood n
  pub good_written : (n : Node) → IsGood n ↔ (
      (((IsRoot n.address.number ⊎ IsRouter n.address.number)
      × (n.routers ≤ 64 - bit_length n.address.number) × (n.hosts ≤ 64 - bit_length n.address.number))
      ⊎ (IsHost n.address.number × (n.routers ≡ 0) × (n.hosts ≡ 0)))
      × (n.limits.routers ≤ 64) × (n.limits.hosts ≤ 64) × (n.routers ≤ n.limits.routers) × (n.hosts ≤ n.limits.hosts)
      )
  pub bad_records : (n : Node) → IsBad n ↔ (IsGood n → ⊥)
  -- "A node record is its address with two counts: router children and host children given so far.": each kind has its own
  pub own_address : (n : Node) → address_in n ≡ n.address.number
  pub own_count : (n : Node) → (count Router n ≡ n.routers) × (count Host n ≡ n.hosts)
  pub own_limit : (n : Node) → (limit Router n ≡ n.limits.routers) × (limit Host n ≡ n.limits.hosts)
  pub raised_routers : (n : Node) → raised Router n ≡ record { address = n.address; routers = n.routers + 1; hosts = n.hosts; limits = n.limits }
  pub raised_hosts : (n : Node) → raised Host n ≡ record { address = n.address; routers = n.routers; hosts = n.hosts + 1; limits = n.limits }
  -- "Asked for a child, the node hands itself back with one count raised"
  pub raises_one : (n : Node) (kind : Kind) → (child_of n kind).refusal ≡ 0 → (child_of n kind).node ≡ raised kind n
  -- "and the child's address: own address, then as many ones as the old count of that kind, then 0 for a router or 1 for a host"
  pub spells_child : (n : Node) (kind : Kind) → address_in n < 2 ^ 64 → (child_of n kind).refusal ≡ 0
      → bits (child_of n kind).child.number ≡ bits (address_in n) ++ step_bits (child kind (count kind n))
  -- so a child is an address of one step more, and its parent is the node
  pub one_step_more : (n : Node) (kind : Kind) → address_in n < 2 ^ 64 → (child_of n kind).refusal ≡ 0
      → IsAddress (child_of n kind).child.number
      × (steps (child_of n kind).child.number ≡ child kind (count kind n) ∷ steps (address_in n))
      × (parent (child_of n kind).child.number ≡ address_in n)
      × (depth (child_of n kind).child.number ≡ depth (address_in n) + 1)
  -- "The child's own record starts with both counts 0.", "A fresh record gets 64 and 64", and is good; of zero, of which the document is silent, it is
  -- bad
  pub starts_fresh : (a : ℕ) → fresh a ≡ record { address = record { number = a }; routers = 0; hosts = 0; limits = record { routers = 64; hosts = 64 } }
  pub fresh_is_good : (a : ℕ) → IsAddress a → is_good (fresh a) ≡ true
  pub fresh_of_zero : is_good (fresh 0) ≡ false
  -- a request keeps the record good, refused or not, its address and its limits
  pub keeps_good : (n : Node) (kind : Kind) → is_good n ≡ true → is_good (child_of n kind).node ≡ true
  pub keeps_address : (n : Node) (kind : Kind) → address_in (child_of n kind).node ≡ address_in n
  pub keeps_limits : (n : Node) (kind other : Kind) → limit other (child_of n kind).node ≡ limit other n
