-- The front page's lines, each taken from the record that carries it.
mod Lines
mod PlanLines
mod JournalLines
mod JournalCodeLines
mod LimitLines
mod LargerLines
mod NsaLines
mod EmptyLines
mod ConversionLines
