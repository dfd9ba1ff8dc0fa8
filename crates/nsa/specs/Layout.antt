-- How a field lies in octets, as the code holds it before it is written.
use Rattle.std.specs.Prelude.{ℕ, List, [], ◌∷◌}
use Rattle.octets.specs.Octets.{octets}
use Rattle.nsa.specs.declared.Layout.{Layout}
use Rattle.nsa.specs.declared.Layout.TheVariants.{Alone, Marked, Counted}

-- the octets: those behind a mark hold the number, and behind the third mark stands first how many they are
abbrev pub laid : Layout → List ℕ
laid (Alone o) = o ∷ []
laid (Marked mark count n) = mark ∷ octets count n
laid (Counted count n) = 255 ∷ count ∷ octets count n
