-- "Cases marked P are proved, gathered in a single table under one claim. Each P reaches to the end of the sentence it opens." Each row is
-- computed at the definition that the function promises: `child_of`, `next_hop`, `writing`, `reading`. Document 02 (Three) has new values for two
-- of them.
use Rattle.std.specs.Prelude.{ℕ, ◌≡◌, List, [], ◌∷◌}
use Rattle.address.specs.declared.Kind.{Kind}
use Rattle.address.specs.declared.Kind.TheVariants.{Router, Host}
use Rattle.address.specs.Bits.{root}
use Rattle.octets.specs.Octets.{write}
use Rattle.node.specs.Node.{address_at, fresh, with_counts, refuse_child, child_of}
use Rattle.node.specs.declared.Node.{Node}
use Rattle.forward.specs.Forward.{HopAnswer, up_to, down_to, refused_hop, next_hop}
use Rattle.header.specs.Header.{writing, reading, refused_header}

-- the record that stands after some requests, one after the other
unfoldable pub after_all : Node → List Kind → Node
after_all n [] = n
after_all n (kind ∷ kinds) = after_all (child_of n kind).node kinds

pub data Row : Type 0 where
  -- a record, the kinds asked before, the kind asked, the child's address, and the record handed back
  gives : Node → List Kind → Kind → ℕ → Node → Row
  -- a record, the kind asked, and the refusal's number
  refuses : Node → Kind → ℕ → Row
  -- a record, a destination, and the answer
  passes : Node → ℕ → HopAnswer → Row
  -- an address, a buffer, and the octets that are written into its front
  writes : ℕ → List ℕ → List ℕ → Row
  -- a packet, and the refusal's number
  unread : List ℕ → ℕ → Row

abbrev pub Holds : Row → Type 0
Holds (gives n before kind address after) = child_of (after_all n before) kind ≡ record { node = after; child = address_at address; refusal = 0 }
Holds (refuses n kind number) = child_of n kind ≡ refuse_child number n
Holds (passes n destination answer) = next_hop n destination ≡ answer
Holds (writes address buffer octets) = writing address buffer ≡ write octets buffer
Holds (unread packet number) = reading packet ≡ refused_header number

abbrev pub AllHold : List Row → Type 0
AllHold [] = Unit {0}
AllHold (row ∷ rows) = Holds row × AllHold rows

unfoldable pub table : List Row
table =
    -- "P root, counts 0,0, router: 10. P then host: 11. P then router: 110. P then host: 111 (000, section 4)."
    gives (fresh root) [] Router 0b10 (with_counts 1 0 (fresh root))
    ∷ gives (fresh root) (Router ∷ []) Host 0b11 (with_counts 1 1 (fresh root))
    ∷ gives (fresh root) (Router ∷ Host ∷ []) Router 0b110 (with_counts 2 1 (fresh root))
    ∷ gives (fresh root) (Router ∷ Host ∷ Router ∷ []) Host 0b111 (with_counts 2 2 (fresh root))
    -- "P node 10, counts 1,1: router 1010, host 1011."
    ∷ gives (with_counts 1 1 (fresh 0b10)) [] Router 0b1010 (with_counts 2 1 (fresh 0b10))
    ∷ gives (with_counts 1 1 (fresh 0b10)) [] Host 0b1011 (with_counts 1 2 (fresh 0b10))
    -- "P root with 62 hosts: the next is 64 ones. P with 63: refusal 3."
    ∷ gives (with_counts 0 62 (fresh root)) [] Host 0xFFFF_FFFF_FFFF_FFFF (with_counts 0 63 (fresh root))
    ∷ refuses (with_counts 0 63 (fresh root)) Host 3
    -- "P node 11, destination 110: parent, though 11 is a prefix. P node 1 with counts 2,2, destination 110: child 110. P same node, destination
    -- 1110: 7."
    ∷ passes (fresh 0b11) 0b110 (up_to root)
    ∷ passes (with_counts 2 2 (fresh root)) 0b110 (down_to 0b110)
    ∷ passes (with_counts 2 2 (fresh root)) 0b1110 (refused_hop 7)
    -- "P node 10, counts 2,2, destination 101011: child 1010."
    ∷ passes (with_counts 2 2 (fresh 0b10)) 0b101011 (down_to 0b1010)
    -- "P address 111110: header ..", and of document 02 (Three) "Address 111110 is F1 80 0F 3E."
    ∷ writes 0b111110 (1 ∷ 2 ∷ 3 ∷ 4 ∷ 5 ∷ 6 ∷ []) (0xF1 ∷ 0x80 ∷ 0x0F ∷ 0x3E ∷ [])
    -- "P header F1 81 0F 00 00 ..", and of document 02 (Three) "F1 81 0F 00 3E and F1 81 0F 00 00 are now 6". "P header F1 83 0F 00 00 00 3E: 6."
    ∷ unread (0xF1 ∷ 0x81 ∷ 0x0F ∷ 0x00 ∷ 0x00 ∷ []) 6
    ∷ unread (0xF1 ∷ 0x83 ∷ 0x0F ∷ 0x00 ∷ 0x00 ∷ 0x00 ∷ 0x3E ∷ []) 6
    ∷ []

-- every row of the table holds
abbrev pub KnownValues : Type 0
KnownValues = AllHold table
