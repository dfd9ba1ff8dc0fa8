-- What `form_writing` and `form_reading` come to, one law for each answer: the checks that passed on the way, and the one that decides. Assumes
-- nothing.
use Rattle.std.specs.Prelude.{if◌then◌else◌}
use mathlib.Core.Path.{◌≡◌, refl, ap, ◌∙◌}
use mathlib.Core.Bool.{Bool, true, false, not, ◌&&◌, and-eq-true_iff}
use mathlib.Core.List.{List}
use Prim.Native.Nat.{ℕ, suc, ◌≤◌, ◌<◌}
use native.Mathlib.Omega.{arith}
use lib.ListN.{length, take, drop, length-append}
use lib.Dec.{eqb}
use borrow.Author.Tests.{eq-eqb, ne_eqb, lt-ltb, le-ltb, not-false, eqb-true, eqb-false}
use Rattle.address.specs.Address.{AddressAnswer, valid_address, refused_address, made}
use Rattle.octets.specs.Octets.{value, same, refuse_writing, write}
use Rattle.octets.proofs.OctetLaws.{length-octets}
use Rattle.octets.proofs.SameLaws.{same_refl, same_true, same_ne}
use Rattle.ipv6.specs.Form.{half, whole, form, form_writing, form_reading}

pub length-form : (prefix : List ℕ) (a : ℕ) → length prefix ≡ half → length (form prefix a) ≡ whole
unfolding form
length-form prefix a h = simp (length-append, length-octets, h)

module _ (prefix : List ℕ) (a : ℕ) (buffer : List ℕ) where
  pub form_writing-length : (length prefix ≡ half → ⊥) → form_writing prefix a buffer ≡ refuse_writing 12 buffer
  unfolding form_writing
  form_writing-length l = rw (ne_eqb (length prefix) half l)

  pub form_writing-zero : length prefix ≡ half → a ≡ 0 → form_writing prefix a buffer ≡ refuse_writing 9 buffer
  unfolding form_writing
  form_writing-zero l z = rw (eq-eqb (length prefix) half l, eq-eqb a 0 z)

  pub form_writing-room : length prefix ≡ half → (a ≡ 0 → ⊥) → length buffer < whole → form_writing prefix a buffer ≡ refuse_writing 10 buffer
  unfolding form_writing
  form_writing-room l some h = rw (eq-eqb (length prefix) half l, ne_eqb a 0 some, lt-ltb (length buffer) whole h)

  pub form_writing-done : length prefix ≡ half → (a ≡ 0 → ⊥) → whole ≤ length buffer → form_writing prefix a buffer ≡ write (form prefix a) buffer
  unfolding form_writing
  form_writing-done l some h = rw (eq-eqb (length prefix) half l, ne_eqb a 0 some, le-ltb (length buffer) whole h)

module _ (prefix ipv6 : List ℕ) where
  pub form_reading_prefix : (length prefix ≡ half → ⊥) → form_reading prefix ipv6 ≡ refused_address 12
  unfolding form_reading
  form_reading_prefix l = rw (ne_eqb (length prefix) half l)

  pub form_reading-length : length prefix ≡ half → (length ipv6 ≡ whole → ⊥) → form_reading prefix ipv6 ≡ refused_address 12
  unfolding form_reading
  form_reading-length l m = rw (eq-eqb (length prefix) half l, ne_eqb (length ipv6) whole m)

  pub form_reading_other : length prefix ≡ half → length ipv6 ≡ whole → (take half ipv6 ≡ prefix → ⊥) → form_reading prefix ipv6 ≡ refused_address 8
  unfolding form_reading
  form_reading_other l m ne = rw (eq-eqb (length prefix) half l, eq-eqb (length ipv6) whole m, same_ne (take half ipv6) prefix ne)

  pub form_reading_same : length prefix ≡ half → length ipv6 ≡ whole → take half ipv6 ≡ prefix → form_reading prefix ipv6 ≡ made (value (drop half ipv6))
  unfolding form_reading made
  form_reading_same l m e = rw (eq-eqb (length prefix) half l, eq-eqb (length ipv6) whole m, e, same_refl prefix)

  pub form_reading-zero : length prefix ≡ half → length ipv6 ≡ whole → take half ipv6 ≡ prefix → value (drop half ipv6) ≡ 0
      → form_reading prefix ipv6 ≡ refused_address 9
  unfolding made
  form_reading-zero l m e z = form_reading_same l m e ∙ rw (eq-eqb (value (drop half ipv6)) 0 z)

  pub form_reading-some : length prefix ≡ half → length ipv6 ≡ whole → take half ipv6 ≡ prefix → (value (drop half ipv6) ≡ 0 → ⊥)
      → form_reading prefix ipv6 ≡ valid_address (value (drop half ipv6))
  unfolding made
  form_reading-some l m e some = form_reading_same l m e ∙ rw (ne_eqb (value (drop half ipv6)) 0 some)

pub ruleset reading_cases = (form_reading_prefix, form_reading-length, form_reading_other)

-- ---- which case an answer came from

-- a choice between a refusal and what the next check says is an address only by the next check
else_valid : {a : ℕ} (t : Bool) (n : ℕ) (rest : AddressAnswer) → (if t then refused_address (suc n) else rest) ≡ valid_address a
    → (t ≡ false) × (rest ≡ valid_address a)
else_valid true n rest e = absurd (omega (arith, ap (λ (x : AddressAnswer). x.refusal) e))
else_valid false n rest e = (refl, e)

-- what reads as an address
pub record Read (prefix ipv6 : List ℕ) (a : ℕ) : Type 0 where
  pub prefixed : length prefix ≡ half
  pub sized : length ipv6 ≡ whole
  pub front : take half ipv6 ≡ prefix
  pub back : value (drop half ipv6) ≡ a
  pub some : 0 < a

pub form_reading-valid : (prefix ipv6 : List ℕ) (a : ℕ) → form_reading prefix ipv6 ≡ valid_address a → Read prefix ipv6 a
unfolding form_reading
form_reading-valid prefix ipv6 a e =
    let lengths = else_valid (not (eqb (length prefix) half && eqb (length ipv6) whole)) 11 _ e in
    let front = else_valid (not (same (take half ipv6) prefix)) 7 _ lengths.1 in
    let back = else_valid (eqb (value (drop half ipv6)) 0) 8 _ front.1 in
    let both = (and-eq-true_iff (eqb (length prefix) half) (eqb (length ipv6) whole)).0 (not-false _ lengths.0) in
    let is : value (drop half ipv6) ≡ a = ap (λ (x : AddressAnswer). x.address) back.1 in
    record {
      prefixed = eqb-true (length prefix) half both.0;
      sized = eqb-true (length ipv6) whole both.1;
      front = same_true (take half ipv6) prefix (not-false _ front.0);
      back = is;
      some = omega (arith, eqb-false (value (drop half ipv6)) 0 back.0);
    }
