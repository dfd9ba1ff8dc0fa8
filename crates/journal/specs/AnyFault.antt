-- The type of what says which fault a journal has, where any will do that can be copied, a refusal or a number: the type, and what comes with it.
use denote.RattleType.{RattleType}
use denote.Param.Laws.{Laws, IsCopy}
use mir.Syntax.{Dict}
use Rattle.std.specs.declared.clone.Clone.{Ghosts}

pub record AnyFault : Type 2 where
  pub type_of : RattleType
  pub laws : Laws type_of
  pub copied : IsCopy type_of
  pub cloned : Ghosts type_of.Denot
  pub dict : Dict
