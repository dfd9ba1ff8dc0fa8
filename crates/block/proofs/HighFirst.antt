-- The octets of a number are its bytes as the library gives them, high one first. Assumes nothing.
use mathlib.Core.Path.{◌≡◌, refl, sym, ap, ap₂, ◌∙◌}
use mathlib.Core.List.{List, [], ◌∷◌, ◌++◌}
use Prim.Native.Nat.{ℕ, zero, suc, ◌/◌, ◌%◌, ◌^◌}
use native.Mathlib.Nat.{div-one, div-div-eq-div-mul, pow-succ'}
use Rattle.std.specs.Int.{byte_at, bytes_high_first}
use Rattle.octets.specs.Octets.{octets}

-- the first of them
octets-first : (k n : ℕ) → octets (suc k) n ≡ n / 256 ^ k % 256 ∷ octets k n
unfolding octets
octets-first zero n = ap (λ (m : ℕ). m % 256 ∷ []) (sym (div-one n))
octets-first (suc k) n =
    ap (λ (l : List ℕ). l ++ (n % 256 ∷ [])) (octets-first k (n / 256))
    ∙ ap (λ (m : ℕ). m % 256 ∷ octets (suc k) n) (div-div-eq-div-mul n 256 (256 ^ k) ∙ ap (λ (p : ℕ). n / p) (sym (pow-succ' 256 k)))

byte_at_power : (k n : ℕ) → byte_at k n ≡ n / 256 ^ k % 256
byte_at_power zero n = ap (λ (m : ℕ). m % 256) (sym (div-one n))
byte_at_power (suc k) n = refl

pub octets_by_bytes : (k n : ℕ) → bytes_high_first k n ≡ octets k n
unfolding octets
octets_by_bytes zero n = refl
octets_by_bytes (suc k) n =
    ap₂ (λ (x : ℕ) (l : List ℕ). x ∷ l) (byte_at_power k n) (octets_by_bytes k n) ∙ sym (octets-first k n)

-- what is written of a number's bytes, whichever call gave them
pub octets_of_bytes : {part bytes : List ℕ} (k n : ℕ) → part ≡ bytes → bytes ≡ bytes_high_first k n → part ≡ octets k n
octets_of_bytes k n e f = e ∙ f ∙ octets_by_bytes k n
