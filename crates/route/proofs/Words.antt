-- The tests on steps hold exactly of what they are named after, by the laws of each. Assumes nothing.
use mathlib.Core.Path.{◌≡◌, subst}
use mathlib.Core.Bool.{true}
use mathlib.Core.List.{List}
use Rattle.address.specs.Steps.{Step}
use Rattle.address.specs.declared.Kind.{Kind}
use Rattle.route.specs.Path.{same_kind, same_steps}
use Rattle.route.specs.Exactly.{PathWords}
use Rattle.route.proofs.Turning.{same_kind_refl, same_kind_true, same_steps_refl, same_steps_true, is_ancestor_or_self_true, is_ancestor_or_self_ancestor_or_self}

pub path-words : PathWords
path-words = record {
  same_kinds = λ k l. (same_kind_true k l, λ e. subst (λ (x : Kind). same_kind k x ≡ true) e (same_kind_refl k));
  same = λ ss ts. (same_steps_true ss ts, λ e. subst (λ (x : List Step). same_steps ss x ≡ true) e (same_steps_refl ss));
  ancestor = λ ss ts. (is_ancestor_or_self_true ss ts, is_ancestor_or_self_ancestor_or_self ss ts);
}
