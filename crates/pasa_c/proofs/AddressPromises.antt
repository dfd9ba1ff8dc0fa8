-- What the exports about an address alone promise, by their contracts as the code states them, is what the functions below them are defined
-- to answer. None of them asks anything of its caller.
use mathlib.Core.Path.{◌≡◌}
use Prim.Native.Nat.{ℕ}
use Rattle.address.specs.Address.{parent, depth, bit_length}
use Rattle.pasa.specs.Addresses.{host_answer, interface}
use Rattle.pasa_c.proofs.addresses.pasa_parent.Reads as parent-reads
use Rattle.pasa_c.proofs.addresses.pasa_depth.Reads as depth-reads
use Rattle.pasa_c.proofs.addresses.pasa_bit_length.Reads as bit-length-reads
use Rattle.pasa_c.proofs.addresses.pasa_is_host.Reads as is-host-reads
use Rattle.pasa_c.proofs.addresses.pasa_interface_2.Reads as interface-reads

pub parent_promise : (a r : ℕ) → parent-reads.Learnt tt (a, tt) r (a, tt) → r ≡ parent a
parent_promise a r h = h

pub depth_promise : (a r : ℕ) → depth-reads.Learnt tt (a, tt) r (a, tt) → r ≡ depth a
depth_promise a r h = h

pub bit-length_promise : (a r : ℕ) → bit-length-reads.Learnt tt (a, tt) r (a, tt) → r ≡ bit_length a
bit-length_promise a r h = h

pub is_host_promise : (a r : ℕ) → is-host-reads.Learnt tt (a, tt) r (a, tt) → r ≡ host_answer a
is_host_promise a r h = h

pub interface_promise : (r : ℕ) → interface-reads.Learnt tt tt r tt → r ≡ interface
interface_promise r h = h

pub parent-asks-nothing : (a : ℕ) → parent-reads.Asked tt (a, tt)
parent-asks-nothing a = tt

pub depth-asks-nothing : (a : ℕ) → depth-reads.Asked tt (a, tt)
depth-asks-nothing a = tt

pub bit-length-asks-nothing : (a : ℕ) → bit-length-reads.Asked tt (a, tt)
bit-length-asks-nothing a = tt

pub is_host-asks-nothing : (a : ℕ) → is-host-reads.Asked tt (a, tt)
is_host-asks-nothing a = tt

pub interface-asks-nothing : interface-reads.Asked tt tt
interface-asks-nothing = tt
