-- The path call's answer as a struct of plain numbers: the same numbers, in fields of the same names.
use Rattle.route.specs.Path.{Listed}
use Rattle.pasa.specs.declared.paths.PasaListed.{PasaListed}

unfoldable pub pasa_listed : Listed → PasaListed
pasa_listed l = record { hops = l.hops; refusal = l.refusal }
