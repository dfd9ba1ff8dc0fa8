-- What `planning` comes to, one law for each answer: the tests that passed on the way, and the one that decides. Assumes nothing.
use mathlib.Core.Path.{◌≡◌, sym, ◌∙◌}
use mathlib.Core.List.{List, ◌++◌}
use Prim.Native.Nat.{ℕ, ◌≤◌, ◌<◌}
use native.Mathlib.Nat.{zero-add}
use native.Mathlib.Omega.{arith}
use lib.ListN.{length, drop}
use lib.Seq.{sets, sets-eq}
use borrow.Author.Tests.{lt-ltb, le-ltb}
use Rattle.plan.specs.Limits.{most_bytes, most_nodes}
use Rattle.plan.specs.Reading.{whole, fault_at, reading}
use Rattle.plan.specs.Plan.{refuse_plan, missing, listed, judged, planning}
use Rattle.plan.specs.Progress.{Progress, HallRead}

module _ (text words : List ℕ) where
  pub planning-bytes : most_bytes < length text → planning text words ≡ refuse_plan 14 0 words
  unfolding planning
  planning-bytes h = rw (lt-ltb most_bytes (length text) h)

  module _ (short : length text ≤ most_bytes) where
    pub planning-stops : {place : ℕ} → reading text ≡ fault_at place → planning text words ≡ refuse_plan 13 place words
    unfolding planning judged
    planning-stops e = rw (le-ltb most_bytes (length text) short, e)

    module _ {given : List ℕ} (e : reading text ≡ whole given) where
      planning-whole : planning text words ≡ listed given words
      unfolding planning judged
      planning-whole = rw (le-ltb most_bytes (length text) short, e)

      pub planning-nodes : most_nodes < length given → planning text words ≡ refuse_plan 14 0 words
      unfolding listed
      planning-nodes h = planning-whole ∙ rw (lt-ltb most_nodes (length given) h)

      module _ (few : length given ≤ most_nodes) (all : missing given ≤ 0) where
        pub planning-room : length words < length given → planning text words ≡ refuse_plan 10 0 words
        unfolding listed
        planning-room h =
            planning-whole
            ∙ rw (le-ltb most_nodes (length given) few, le-ltb 0 (missing given) all, lt-ltb (length words) (length given) h)

        pub planning-done : length given ≤ length words
            → planning text words ≡ record {
              answer = record { refusal = 0; nodes = length given; place = 0 };
              words = given ++ drop (length given) words;
            }
        unfolding listed
        planning-done h =
            planning-whole
            ∙ rw (le-ltb most_nodes (length given) few, le-ltb 0 (missing given) all, le-ltb (length words) (length given) h)

-- a list stored from the front
pub sets_front : (l given : List ℕ) → length given ≤ length l → sets l 0 given ≡ given ++ drop (length given) l
sets_front l given h = sets-eq given l 0 (omega arith) ∙ rw zero-add

-- what is given is what the reading gives
pub given-whole : {text part after given : List ℕ} {to : Progress} (h : HallRead text part after to) → reading text ≡ whole given → h.given ≡ given
given-whole h e = let both = sym h.reads ∙ e in cc

-- the words behind a listing
pub ruleset front = (sets_front, given-whole)
