use Rattle.std.proofs.Common.{◌≡◌, ◌+◌, ◌-◌, ◌≤◌, ◌++◌, length, drop, map}
use Rattle.std.specs.Vec.{vec_len, vec_capacity}
use Rattle.tile_model.specs.WalkTexts.{letter_code}
use Rattle.command_text.proofs.reply.write_walk.Given as goal

-- What is written and the codes of the letters that are left make the bytes of old and all codes, and there is room
-- for the letters that are left.
abbrev pub invariant-loop-x : goal.invariant-loop-x
invariant-loop-x l =
    (l.out.items ++ map letter_code (drop l.x-index l.x-items) ≡
    l.fn.out.items ++ map letter_code l.x-items)
    × (vec_len l.out + (length l.x-items - l.x-index) ≤ vec_capacity l.out)
