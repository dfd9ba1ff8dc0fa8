-- What an address answers by itself, where a plain number stands for the answer; and the number of the interface.
use Rattle.std.specs.Prelude.{ℕ, if◌then◌else◌}
use Rattle.address.specs.Address.{is_host}

-- a host as a number: 1 for a host, 0 for any other
unfoldable pub host_answer : ℕ → ℕ
host_answer n = if is_host n then 1 else 0

-- the number of the interface between the archive and include/pasa.h: it rises whenever a struct or a parameter changes
abbrev pub interface : ℕ
interface = 2
