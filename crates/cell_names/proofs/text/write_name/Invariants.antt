use Rattle.std.proofs.Common.{◌≡◌, ◌+◌, ◌-◌, ◌*◌, ◌≤◌, ◌++◌, length, drop}
use Rattle.std.specs.Vec.{vec_len, vec_capacity}
use Rattle.cell_names.specs.Text.{name_text}
use Rattle.cell_names.proofs.Reading.{behind}
use Rattle.cell_names.proofs.text.write_name.Given as goal

-- What is written and the sides that are left make the bytes of old and the whole text, and there is room for the sides that are left.
abbrev pub invariant-loop-side : goal.invariant-loop-side
invariant-loop-side l =
    (l.out.items ++ behind (drop l.side-index l.others) ≡ l.fn.out.items ++ name_text l.fn.name)
    × (vec_len l.out + 3 * (length l.others - l.side-index) ≤ vec_capacity l.out)
