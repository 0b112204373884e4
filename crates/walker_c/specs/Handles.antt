-- What a caller in C owns by a handle.
use base.Fml.{Fml, ftrue, fsep, fex}
use denote.RawPtr.{Ptr}
use Rattle.std.specs.Box.Ownership.{box_owns}
use Rattle.std.specs.Global.{Global}
use Rattle.std_heap.specs.contracts.GlobalAllocator.TheImpl.{ghosts}
use Rattle.walker_c.specs.Seats.{SeatState}
use Rattle.walker_c.specs.contracts.seat.Seat.{the_row}

-- the seat lies at the handle, and its block may be freed
abbrev pub is_handle : Global → Ptr → SeatState → Fml
is_handle alloc at seat = box_owns (ghosts.dealloc_token alloc) the_row at seat

-- a seat lies at the handle of which P holds
abbrev pub is_handle_where : Global → Ptr → (SeatState → Type 0) → Fml
is_handle_where alloc at P =
    fex SeatState (λ (s : SeatState). fsep (is_handle alloc at s) (fex (P s) (λ (h : P s). ftrue)))
