-- The answers about a journal as structs of plain numbers: the same numbers, in fields of the same names; but a record that is not found is all zeros.
use Rattle.std.specs.Prelude.{ℕ, Bool, true, false, if◌then◌else◌}
use Rattle.journal.specs.Writing.{Placed}
use Rattle.journal.specs.Recovery.{Recovered}
use Rattle.journal.specs.Record.{Record}
use Rattle.pasa.specs.Children.{PasaNode, pasa_node}
use Rattle.pasa.specs.declared.journals.PasaBlock.{PasaBlock}
use Rattle.pasa.specs.declared.journals.PasaRecovered.{PasaRecovered}
use Rattle.pasa.specs.declared.journals.PasaRecord.{PasaRecord}

unfoldable pub pasa_block : Placed → PasaBlock
pasa_block p = record { slot = p.slot; refusal = p.refusal }

unfoldable pub pasa_recovered : Recovered → PasaRecovered
pasa_recovered r = record { nodes = r.nodes; refusal = r.refusal }

-- "found 1; or 0, and the node all zeros"
unfoldable pub bit : Bool → ℕ
bit true = 1
bit false = 0

-- no node: its limits are 0 too, where a fresh record has 64
unfoldable pub nobody : PasaNode
nobody = record { address = 0; routers = 0; hosts = 0; router_limit = 0; host_limit = 0 }

unfoldable pub node_in : Record → PasaNode
node_in r = if r.found then pasa_node r.node else nobody

unfoldable pub pasa_record : Record → PasaRecord
pasa_record r = record { node = node_in r; found = bit r.found }
