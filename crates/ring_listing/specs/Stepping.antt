-- What a listing is once the name that it gave is gone.
use Rattle.std.specs.Prelude.{◌≡◌, ⊤, [], drop}
use Rattle.std.specs.Borrow.{follows_so, MutBor, Fml}
use mathlib.Core.Option.{none}
use mir.Syntax.{named}
use Rattle.ring_listing.specs.Rings.{Listing}
use Rattle.ring_listing.specs.contracts.listing.Ring.{the_row}

-- It is of the same ring, and the first of the names is no longer to be given. `named 0` is the place of the lifetime
-- of the rules in the signature.
abbrev pub GoesOn : MutBor Listing → Fml
GoesOn s =
    let row = the_row (record { mir = named 0; lft = [] }) in
    follows_so row row s.ghost_name none (λ _ _. ⊤) (λ last. last ≡ record s.now { rest = drop 1 s.now.rest })
