-- `journal::record_in` meets its contract: what is found and counted so far, and what stands from the place on, come to what stands in the whole.
use Prim.Native.Nat.{suc, ◌+◌, ◌<◌}
use mathlib.Core.Path.{◌≡◌, sym, ◌∙◌}
use native.Mathlib.Omega.{arith}
use lib.ListN.{length}
use Rattle.address.specs.declared.Kind.TheVariants.{Router, Host}
use Rattle.journal.proofs.AmongLaws.{among-turn, among-end}
use Rattle.journal.proofs.CountingLaws.{counted-turn, counted-end, record_in-zero, record_in-absent, record_in-found}
use Rattle.journal.proofs.record_in.Goals as goal

pub returns-then-address-eq0 : goal.returns-then-address-eq0
returns-then-address-eq0 c =
    let at = c.args in
    sym (record_in-zero at.words.now at.address.number c.if-address-eq0.true)

pub loop-number-preserved : goal.loop-number-preserved
loop-number-preserved c =
    let at = c.args in
    let xs = at.words.now in
    let loop = c.loop-number in
    let counted = c.count_word-counts.ensures in
    let word = c.of-word.ensures in
    let within : loop.number-index < length xs = omega arith in
    let next : loop.number-index + 1 ≡ suc loop.number-index = omega arith in (
      rw (next, c.eq-found.ensures, word) (sym (among-turn _ xs loop.number-index loop.found within) ∙ loop.invariant.0),
      rw next (counted-turn Router _ xs loop.number-index loop.counts.routers _ _ within (rw word at counted.0) loop.invariant.1),
      rw next (counted-turn Host _ xs loop.number-index loop.counts.hosts _ _ within (rw word at counted.1) loop.invariant.2),
      omega (arith, counted.0),
      omega (arith, counted.1),
    )

pub returns-then-not-found : goal.returns-then-not-found
returns-then-not-found c =
    let at = c.args in
    let xs = at.words.now in
    let loop = c.loop-number in
    let none = sym loop.invariant.0 ∙ among-end _ xs loop.number-index loop.found (omega arith) ∙ c.if-not-found.true in
    sym (record_in-absent xs at.address.number none)

pub returns : goal.returns
returns c =
    let at = c.args in
    let xs = at.words.now in
    let loop = c.loop-number in
    let some = sym loop.invariant.0 ∙ among-end _ xs loop.number-index loop.found (omega arith) ∙ c.if-not-found.false in
    let routers = counted-end Router _ xs loop.number-index loop.counts.routers _ (omega arith) loop.invariant.3 loop.invariant.1 in
    let hosts = counted-end Host _ xs loop.number-index loop.counts.hosts _ (omega arith) loop.invariant.4 loop.invariant.2 in
    rw (c.with_counts.ensures, c.fresh.ensures, routers, hosts) (sym (record_in-found xs at.address.number c.if-address-eq0.false some))
