-- `ipv6::read` meets its contract: behind the prefix stand eight octets, which give the address. Assumes nothing.
use Rattle.std.proofs.Common.{◌≡◌, sym, ap, ◌∙◌, ℕ, ◌%◌, ◌^◌, List, length, take, drop, arith, rules, length-drop}
use lib.Seq.{take_all}
use Rattle.std.proofs.lemmas.Slice.Eq.{bytes_eq-Decides}
use Rattle.address.specs.Address.{made}
use Rattle.octets.specs.Octets.{value, AreOctets}
use Rattle.octets.proofs.OctetLaws.{all_octets, drop-octets, value-mod}
use Rattle.ipv6.specs.Form.{half, whole}
use Rattle.ipv6.proofs.FormLaws.{form_reading_same}
use Rattle.ipv6.proofs.read.Goals as goal

-- the octets behind the prefix give their number, which has 64 bits
last_word : (ipv6 os : List ℕ) → AreOctets ipv6 → length ipv6 ≡ whole → os ≡ drop half ipv6 → value os % 2 ^ 64 ≡ value (drop half ipv6)
last_word ipv6 os all m e =
    ap (λ (l : List ℕ). value l % 2 ^ 64) e ∙ value-mod (drop half ipv6) (drop-octets half ipv6 all) (omega (arith, length-drop half ipv6))

-- a prefix cut where it ends
whole_prefix : (prefix : List ℕ) → length prefix ≡ half → take half prefix ≡ prefix
whole_prefix prefix l = take_all half prefix (omega arith)

ruleset wholes = (whole_prefix)

front : (begun prefix ipv6 : List ℕ) → length prefix ≡ half → take (length begun) ipv6 ≡ begun → begun ≡ prefix → take half ipv6 ≡ prefix
front begun prefix ipv6 l e same = ap (λ (k : ℕ). take k ipv6) (sym (ap length same ∙ l)) ∙ e ∙ same

back : (begun prefix ipv6 os : List ℕ) → length prefix ≡ half → os ≡ drop (length begun) ipv6 → begun ≡ prefix → os ≡ drop half ipv6
back begun prefix ipv6 os l e same = e ∙ ap (λ (k : ℕ). drop k ipv6) (ap length same ∙ l)

pub returns : goal.returns
returns c =
    let prefix = c.args.prefix.now in
    let ipv6 = c.args.ipv6.now in
    let l : length prefix ≡ half = omega arith in
    let m : length ipv6 ≡ whole = omega arith in
    let behind = c.in-Some.ensures.cases in
    let begins : take half ipv6 ≡ prefix = front _ prefix ipv6 l ((bytes_eq-Decides _ _).0 behind.0) (search (rules, wholes)) in
    let rest : c.in-Some.number.now ≡ drop half ipv6 = back _ prefix ipv6 c.in-Some.number.now l behind.1 (search (rules, wholes)) in
    c.new.ensures
    ∙ ap made (c.get.ensures ∙ last_word ipv6 c.in-Some.number.now (all_octets ipv6 (λ i. (c.type_inv.ipv6 i).fits)) m rest)
    ∙ sym (form_reading_same prefix ipv6 l m begins)
