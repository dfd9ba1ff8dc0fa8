-- The statements of the refusals allow one recovery and one writer: on every journal of octets, and for every list of words, they say all that is
-- answered and all that is left. The statements alone.
use Rattle.std.specs.Prelude.{ℕ, ◌≡◌, List}
use Rattle.octets.specs.Octets.{AreOctets}
use Rattle.block.specs.Blocks.{AreWords}
use Rattle.journal.specs.Recovery.{recovering}
use Rattle.journal.specs.Writing.{writing}
use Rattle.journals.specs.Refusals.{RecoverRule, RecoverRefusals, WriteRule, WriteRefusals}

pub record OneRecovery : Type 0 where
  pub only : (rule : RecoverRule) → RecoverRefusals rule → (journal words : List ℕ) → AreOctets journal
      → rule journal words ≡ recovering journal words

pub record OneWriter : Type 0 where
  pub only : (rule : WriteRule) → WriteRefusals rule → (journal addresses : List ℕ) → AreOctets journal → AreWords addresses
      → rule journal addresses ≡ writing journal addresses
