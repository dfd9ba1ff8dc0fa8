-- The answers about octets as structs of plain numbers: the same numbers, in fields of the same names.
use Rattle.address.specs.Address.{AddressAnswer}
use Rattle.octets.specs.Octets.{Written}
use Rattle.header.specs.Header.{HeaderAnswer}
use Rattle.pasa.specs.declared.bytes.PasaWritten.{PasaWritten}
use Rattle.pasa.specs.declared.bytes.PasaRead.{PasaRead}
use Rattle.pasa.specs.declared.bytes.PasaAddress.{PasaAddress}

unfoldable pub pasa_written : Written → PasaWritten
pasa_written w = record { count = w.count; refusal = w.refusal }

unfoldable pub pasa_read : HeaderAnswer → PasaRead
pasa_read a = record { address = a.address; place = a.place; refusal = a.refusal }

unfoldable pub pasa_address : AddressAnswer → PasaAddress
pasa_address a = record { address = a.address; refusal = a.refusal }
