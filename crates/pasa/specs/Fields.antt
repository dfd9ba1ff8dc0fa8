-- What reading the older fields answers as a struct of plain numbers: the same numbers, in fields of the same names.
use Rattle.nsa.specs.Fields.{FieldsAnswer}
use Rattle.pasa.specs.declared.fields.PasaNsa.{PasaNsa}

unfoldable pub pasa_nsa : FieldsAnswer → PasaNsa
pasa_nsa a = record { length = a.length; source = a.source; destination = a.destination; place = a.place; refusal = a.refusal }
