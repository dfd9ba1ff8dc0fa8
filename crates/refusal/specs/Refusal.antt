-- The papers' numbers: document 01, "When the controller says no", and from 13 on document 02. Refusal 11, "the path program's input isn't the one
-- line it reads", is answered as text alone and has no case here.
use Rattle.std.specs.Prelude.{ℕ, List, codes}
use Rattle.refusal.specs.declared.Refusal.{Refusal}
use Rattle.refusal.specs.declared.Refusal.TheVariants.{BadRecord, HostAsked, TooLong, EndsEarly, WrongStart, WrongSize, ChildNotGiven, OtherPrefix, ZeroAddress, NoRoom, WrongLength, BadPlan, TooMany, AtLimit, EmptyPayload, BadJournal}

abbrev pub number_of : Refusal → ℕ
number_of BadRecord = 1
number_of HostAsked = 2
number_of TooLong = 3
number_of EndsEarly = 4
number_of WrongStart = 5
number_of WrongSize = 6
number_of ChildNotGiven = 7
number_of OtherPrefix = 8
number_of ZeroAddress = 9
number_of NoRoom = 10
number_of WrongLength = 12
number_of BadPlan = 13
number_of TooMany = 14
number_of AtLimit = 15
number_of EmptyPayload = 16
number_of BadJournal = 17

-- what a refusal prints: the papers' words, with what the requests of document 02 add to them
abbrev pub words_of : Refusal → List ℕ
words_of BadRecord = codes "the node record is bad, or a limit to set isn't 0 to 64 or is below its count"
words_of HostAsked = codes "a host is asked for a child"
words_of TooLong = codes "the child would be longer than 64 bits"
words_of EndsEarly = codes "the packet ends too early"
words_of WrongStart = codes "one of the first three octets is wrong"
words_of WrongSize = codes "a size above 8, a first octet of zero where there are several, or an NSA field that isn't the shortest form of a number"
words_of ChildNotGiven = codes "destination below this node, child not given"
words_of OtherPrefix = codes "IPv6 prefix differs"
words_of ZeroAddress = codes "an address is zero"
words_of NoRoom = codes "lent output too short, or no slot of a journal is erased"
words_of WrongLength = codes "an IPv6 address isn't 16 octets, a prefix isn't 8, a journal isn't 1 to 128 slots, or a block isn't 1 to 63 addresses"
words_of BadPlan = codes "a plan's text is outside the grammar"
words_of TooMany = codes "a plan has too many bytes, a plan or a journal too many nodes, or an NSA payload length is above 65,787"
words_of AtLimit = codes "a node is asked for a child at its limit"
words_of EmptyPayload = codes "the payload is empty"
words_of BadJournal = codes "a journal's slot is out of place or no right block, or an address in it is no next child"
