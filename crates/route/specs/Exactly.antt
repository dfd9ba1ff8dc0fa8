-- The tests on steps are right: each holds exactly of what it is named after. Statements alone.
use Rattle.std.specs.Prelude.{◌≡◌, true, ◌↔◌, List}
use Rattle.address.specs.Steps.{Step}
use Rattle.address.specs.declared.Kind.{Kind}
use Rattle.address.specs.Ancestors.{AncestorOrSelf}
use Rattle.route.specs.Path.{same_kind, same_steps, is_ancestor_or_self}

pub record PathWords : Type 0 where
  pub same_kinds : (k l : Kind) → (same_kind k l ≡ true) ↔ (k ≡ l)
  pub same : (ss ts : List Step) → (same_steps ss ts ≡ true) ↔ (ss ≡ ts)
  pub ancestor : (ss ts : List Step) → (is_ancestor_or_self ss ts ≡ true) ↔ AncestorOrSelf ss ts
