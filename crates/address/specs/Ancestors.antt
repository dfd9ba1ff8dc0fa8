-- Ancestors, by steps. "The ancestors of an address are what remains when one or more of its last steps are dropped."
use Rattle.std.specs.Prelude.{◌≡◌, List, ◌++◌}
use Rattle.address.specs.Steps.{Step}

-- an ancestor, or the address itself: none may be dropped too
abbrev pub AncestorOrSelf : List Step → List Step → Type 0
AncestorOrSelf ss ts = (dropped : List Step) × (ts ≡ dropped ++ ss)
