-- A checksum over events: 31 times what it was, and the event's weight, in 32 bits. Assumes nothing.
use Rattle.std.specs.Prelude.{ℕ, ◌+◌, ◌*◌, ◌%◌, ◌^◌}
use Rattle.std.specs.Int.Bits.{bit_xor}
use Rattle.plane.specs.declared.ring.Ring.TheVariants.{One, Two}
use Rattle.rules.specs.declared.event.Event.{Event}
use Rattle.rules.specs.declared.event.Event.TheVariants.{Crossing, Corner, Closing}
use Rattle.rules.specs.Rules.{Taken, accepts}

-- a crossing's number; a corner's, marked by its ring; a number of its own for a closing
abbrev pub weight_of : Event → ℕ
weight_of (Crossing x a b) = x
weight_of (Corner One i) = bit_xor i 0x40000000
weight_of (Corner Two i) = bit_xor i 0x80000000
weight_of Closing = 0xffffffff

abbrev pub mixed : ℕ → Event → ℕ
mixed s e = (s * 31 % 2 ^ 32 + weight_of e) % 2 ^ 32

-- every event is accepted
abbrev pub summed : ℕ → Event → Taken ℕ
summed s e = accepts (mixed s e)
