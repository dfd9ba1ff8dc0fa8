-- The plan `R(R(H)H)`: its text, its requests and its hall.
use Rattle.std.specs.Prelude.{◌≡◌, [], ◌∷◌}
use Rattle.address.specs.declared.Kind.TheVariants.{Router, Host}
use Rattle.node.specs.Node.{child_of, set_limit}
use Rattle.tree.specs.Tree.{request, grown, addresses}
use Rattle.plan.specs.Grammar.{Items, none, host, router, letter_r, letter_h, opening, closing, plan_text}
use Rattle.plan.specs.Hall.{hall}
use Rattle.halls.specs.Requests.{requests, events}

-- a router with a host in its group, and a host behind it
unfoldable pub small : Items
small = router (host none) (host none)

pub record SmallHall : Type 0 where
  pub text : plan_text small ≡ letter_r ∷ opening ∷ letter_r ∷ opening ∷ letter_h ∷ closing ∷ letter_h ∷ closing ∷ []
  pub asks : requests small ≡ request 0b1 Router ∷ request 0b10 Host ∷ request 0b1 Host ∷ []
  pub listed : hall small ≡ 0b1 ∷ 0b10 ∷ 0b101 ∷ 0b11 ∷ []
  pub grows : addresses (grown child_of set_limit (events small)) ≡ 0b1 ∷ 0b10 ∷ 0b101 ∷ 0b11 ∷ []
