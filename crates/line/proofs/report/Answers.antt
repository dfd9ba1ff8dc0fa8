-- The words list the path, which has at most 126 addresses, and the two parts of its text stand one behind the other.
use Rattle.std.proofs.Common.{◌≡◌, ◌+◌, ◌≤◌, ℕ, List, [], ◌∷◌, ◌++◌, refl, sym, ap, ap₂, ◌∙◌, length, take, arith, length-append, length-take, length-drop, lt-ltb, le-ltb}
use Rattle.std.specs.List.{sum_by}
use Rattle.octets.specs.Octets.{refuse_writing, wrote, write}
use Rattle.address.specs.Numbers.{IsAddress}
use Rattle.route.specs.Path.{Listed, path, hops, listing}
use Rattle.route.proofs.PathLaws.{hops-path}
use Rattle.route.proofs.Listing.{framed}
use Rattle.route.proofs.Length.{at_most_126}
use Rattle.line.specs.Line.{newline, address_text, decimal, lines, hops_text, path_text}
use Rattle.line.proofs.Fills.{sum-lines}
use Rattle.line.proofs.Texts.{length-path_text-le}
use Rattle.line.proofs.Replies.{listing-granted, listing-hops, listing-words}
use Rattle.line.proofs.report.Goals as goal
use Rattle.line.proofs.report.Goals.{In_ok-hops}

-- what the words list from the first address to the second
record IsListed (a d k : ℕ) (words : List ℕ) : Type 0 where
  words_are : take (k + 1) words ≡ path a d
  count : k + 1 ≡ length (path a d)
  few : length (path a d) ≤ 126
  text : hops_text ++ decimal k ++ (newline ∷ []) ++ lines (take (k + 1) words) ≡ path_text (path a d)

listed : {a d : ℕ} → IsAddress a → IsAddress d → (old words : List ℕ) (r : Listed) → length old ≡ 126
    → r ≡ (listing a d old).answer → words ≡ (listing a d old).words → IsListed a d r.hops words
unfolding path_text
listed {a} {d} first second old words r room answer listing_words =
    let hops_are : r.hops ≡ hops (path a d) = ap (λ (l : Listed). l.hops) answer ∙ listing-hops first second old room in
    let words_are : take (r.hops + 1) words ≡ path a d =
    ap₂ (λ (k : ℕ) (l : List ℕ). take (k + 1) l) hops_are listing_words ∙ listing-words first second old room in
    record {
      words_are = words_are;
      count = omega (arith, hops_are, hops-path a d);
      few = at_most_126 a d first second;
      text = ap₂ (λ (k : ℕ) (l : List ℕ). hops_text ++ decimal k ++ (newline ∷ []) ++ lines l) hops_are words_are;
    }

module _ {a d k : ℕ} {words : List ℕ} (l : IsListed a d k words) where
  -- the two sizes that are added
  size : (front rest : ℕ) → front ≡ length (hops_text ++ decimal k ++ (newline ∷ [])) → rest ≡ sum_by (λ b. length (address_text b) + 1) (take (k + 1) words)
      → front + rest ≡ length (path_text (path a d))
  size front rest e f = omega (arith, ap length l.text, length-append (hops_text ++ decimal k ++ (newline ∷ [])) (lines (take (k + 1) words)), sum-lines (take (k + 1) words))

  size-le : length (path_text (path a d)) ≤ 8200
  size-le = length-path_text-le (path a d) l.few

  rest-le : sum_by (λ b. length (address_text b) + 1) (take (k + 1) words) ≤ 8200
  rest-le = omega (arith, size (length (hops_text ++ decimal k ++ (newline ∷ []))) _ refl refl, size-le)

path_is : (c : In_ok-hops) → IsListed c.args.first.number c.args.second.number c.in_ok-hops.hops c.path.new.words
path_is c =
    listed (record { some = c.requires.first_some; fits = omega arith }) (record { some = c.requires.second_some; fits = omega arith }) _ _ _ refl
    (rw c.in_ok-hops.was at c.path.ensures.answer) c.path.ensures.words

pub returns-in_err-hops : goal.returns-in_err-hops
returns-in_err-hops c =
    let first : IsAddress c.args.first.number = record { some = c.requires.first_some; fits = omega arith } in
    let second : IsAddress c.args.second.number = record { some = c.requires.second_some; fits = omega arith } in
    absurd (listing-granted first second _ refl c.in_err-hops.field-0.0 c.in_err-hops.ensures.answer)

pub slice_bounds-words-end : goal.slice_bounds-words-end
slice_bounds-words-end c =
    let l = path_is (goal.at.slice_bounds-words-end c).In_ok-hops in
    omega (arith, l.count, l.few)

pub slice_bounds-addresses-end : goal.slice_bounds-addresses-end
slice_bounds-addresses-end c =
    let l = path_is (goal.at.slice_bounds-addresses-end c).In_ok-hops in
    l.count ∙ sym (ap length l.words_are)

pub lines_size-requires : goal.lines_size-requires
lines_size-requires c =
    let l = path_is (goal.at.lines_size-requires c).In_ok-hops in
    omega (arith, rest-le l)

pub overflow_add-size : goal.overflow_add-size
overflow_add-size c =
    let l = path_is (goal.at.overflow_add-size c).In_ok-hops in
    omega (arith, size l _ _ c.hops_size-line.ensures c.lines_size.ensures, size-le l)

pub returns-then-out-size : goal.returns-then-out-size
unfolding refuse_writing
returns-then-out-size c =
    let l = path_is (goal.at.returns-then-out-size c).In_ok-hops in
    rw (lt-ltb (length c.args.out.now) (length (path_text (path c.args.first.number c.args.second.number))) (omega (arith, size l _ _ c.hops_size-line.ensures c.lines_size.ensures)))

pub put_hops-requires-clause-below : goal.put_hops-requires-clause-below
put_hops-requires-clause-below c =
    let l = path_is (goal.at.put_hops-requires-clause-below c).In_ok-hops in
    omega (arith, l.count, l.few)

pub put_lines-requires : goal.put_lines-requires
put_lines-requires c =
    let l = path_is (goal.at.put_lines-requires c).In_ok-hops in
    simp (length-take, length-drop, length-append) (omega (arith, ap length c.put_hops.ensures, sum-lines (take (c.in_ok-hops.hops + 1) c.path.new.words)))

pub returns : goal.returns
unfolding write
returns c =
    let l = path_is (goal.at.returns c).In_ok-hops in
    let out = c.args.out.now in
    let way = path c.args.first.number c.args.second.number in
    let sized = size l _ _ c.hops_size-line.ensures c.lines_size.ensures in
    rw (le-ltb (length out) (length (path_text way)) (omega arith))
    (ap₂ (λ (n : ℕ) (b : List ℕ). record { answer = wrote n; buffer = b }) sized
    (framed out c.put_hops.new.out c.put_lines.new.out c.hops_size-line.result (c.hops_size-line.result + c.lines_size.result) (ap length c.put_hops.ensures ∙ sym c.hops_size-line.ensures) (omega arith)
    ∙ rw (c.put_hops.ensures, c.put_lines.ensures, sized, l.text)))
