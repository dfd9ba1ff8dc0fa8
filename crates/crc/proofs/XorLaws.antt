-- The laws of exclusive or that the logic's lib.Bits lacks: it is associative, so that of four numbers any two may be taken first, and it goes
-- through a shift. Assumes nothing.
use mathlib.Core.Path.{◌≡◌, refl, sym, ap, ap₂, ◌∙◌}
use Prim.Native.Nat.{ℕ, zero, suc, ◌+◌, ◌*◌, ◌/◌, ◌%◌, ◌^◌, ◌<◌}
use native.Mathlib.Nat.{add-zero, mod-lt}
use native.Mathlib.Omega.{arith}
use lib.Arith.{bin_ind, digits_mod}
use lib.Dec.{lit<}
use lib.Pow.{pow_pos}
use lib.Bits.{bit_xor, differ, xor_step, xor_comm, xor_shr, xor_block}

-- what holds at 0 and at 1 holds at every bit
pub at_bits : (P : ℕ → Type 0) → P 0 → P 1 → (b : ℕ) → b < 2 → P b
at_bits P p q zero h = p
at_bits P p q (suc zero) h = q
at_bits P p q (suc (suc b)) h = absurd (omega arith)

differ-lt : (x y : ℕ) → x < 2 → y < 2 → differ x y < 2
differ-lt x y h k =
    at_bits (λ (b : ℕ). differ b y < 2) k (at_bits (λ (b : ℕ). differ 1 b < 2) (lit< tt) (lit< tt) y k) x h

differ_assoc : (x y z : ℕ) → x < 2 → y < 2 → z < 2 → differ (differ x y) z ≡ differ x (differ y z)
differ_assoc x y z h k l =
    at_bits (λ (b : ℕ). differ (differ b y) z ≡ differ b (differ y z)) refl
    (at_bits (λ (b : ℕ). differ (differ 1 b) z ≡ differ 1 (differ b z)) refl
    (at_bits (λ (b : ℕ). differ (differ 1 1) b ≡ differ 1 (differ 1 b)) refl refl z l) y k) x h

last_bit : (n : ℕ) → n % 2 < 2
last_bit n = mod-lt n (lit< tt)

xor-last : (a b : ℕ) → bit_xor a b % 2 ≡ differ (a % 2) (b % 2)
xor-last a b =
    ap (λ (n : ℕ). n % 2) (xor_step a b)
    ∙ digits_mod (bit_xor (a / 2) (b / 2)) (differ-lt (a % 2) (b % 2) (last_bit a) (last_bit b))

pub xor_assoc : (a b c : ℕ) → bit_xor (bit_xor a b) c ≡ bit_xor a (bit_xor b c)
xor_assoc =
    bin_ind (λ (n : ℕ). (b c : ℕ) → bit_xor (bit_xor n b) c ≡ bit_xor n (bit_xor b c)) (λ b c. refl)
    (λ n ih b c.
    xor_step (bit_xor n b) c
    ∙ ap₂ (λ (x y : ℕ). x * 2 + y)
    (ap (λ (m : ℕ). bit_xor m (c / 2)) (xor_shr n b 1) ∙ ih (b / 2) (c / 2) ∙ ap (bit_xor (n / 2)) (sym (xor_shr b c 1)))
    (ap (λ (m : ℕ). differ m (c % 2)) (xor-last n b)
    ∙ differ_assoc (n % 2) (b % 2) (c % 2) (last_bit n) (last_bit b) (last_bit c)
    ∙ ap (differ (n % 2)) (sym (xor-last b c)))
    ∙ sym (xor_step n (bit_xor b c)))

pub xor_exchange : (a b c d : ℕ) → bit_xor (bit_xor a b) (bit_xor c d) ≡ bit_xor (bit_xor a c) (bit_xor b d)
xor_exchange a b c d =
    xor_assoc a b (bit_xor c d)
    ∙ ap (bit_xor a) (sym (xor_assoc b c d) ∙ ap (λ (n : ℕ). bit_xor n d) (xor_comm b c) ∙ xor_assoc c b d)
    ∙ sym (xor_assoc a c (bit_xor b d))

pub xor_times : (k a b : ℕ) → bit_xor (a * 2 ^ k) (b * 2 ^ k) ≡ bit_xor a b * 2 ^ k
xor_times k a b =
    ap₂ bit_xor (sym (add-zero (a * 2 ^ k))) (sym (add-zero (b * 2 ^ k)))
    ∙ xor_block k a b 0 0 (pow_pos k) (pow_pos k)
    ∙ add-zero (bit_xor a b * 2 ^ k)
