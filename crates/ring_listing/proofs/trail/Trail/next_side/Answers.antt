use Rattle.std.proofs.Common.{◌<◌, length, arith}
use Rattle.std.proofs.lemmas.List.{get_or_read}
use Rattle.ring_listing.proofs.Onwards.{state_read, state_known}
use Rattle.ring_listing.proofs.trail.Trail.next_side.Goals as goal

pub next_child-requires : goal.next_child-requires
next_child-requires c =
    let t = c.args.self.now in
    let within : t.level < length t.states.items = omega (arith, c.requires.trail.room, c.requires.trail.level) in
    let read = get_or_read t.states.items t.level c.index.result.now within c.index.ensures 0 in
    omega (arith, read, state_read c.args.r.now c.args.kind t c.requires.trail, state_known c.args.r.now c.args.kind t c.requires.trail)
