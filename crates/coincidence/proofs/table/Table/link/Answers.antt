-- Two empty slots of settled darts.
use Rattle.std.proofs.Common.{refl}
use Rattle.std.specs.Vec.{with_item}
use Rattle.coincidence.specs.declared.table.Table.{Table}
use Rattle.coincidence.proofs.Settled.{settled_made}
use Rattle.coincidence.proofs.Links.{link_moved, link_slot, link_sound}
use Rattle.coincidence.proofs.table.Table.link.Goals as goal

pub returns-clause-moved : goal.returns-clause-moved
returns-clause-moved c =
    let t = c.args.self.now in
    link_moved t _ c.args.a c.args.b c.requires.shaped c.requires.first c.requires.second (settled_made t.cells.items c.args.a c.requires.first) (settled_made t.cells.items c.args.b c.requires.second) c.requires.first_empty c.requires.second_empty refl refl refl refl

pub returns-clause-slot : goal.returns-clause-slot
returns-clause-slot c =
    let t = c.args.self.now in
    let t' : Table = record { cells = t.cells; slots = with_item (with_item t.slots c.args.a c.args.b) c.args.b c.args.a; head = t.head; live = t.live } in
    link_slot t t' c.args.a c.args.b c.requires.shaped c.requires.first c.requires.second (settled_made t.cells.items c.args.a c.requires.first) (settled_made t.cells.items c.args.b c.requires.second) c.requires.first_empty c.requires.second_empty refl refl refl refl

pub returns-clause-sound : goal.returns-clause-sound
returns-clause-sound c =
    let t = c.args.self.now in
    let t' : Table = record { cells = t.cells; slots = with_item (with_item t.slots c.args.a c.args.b) c.args.b c.args.a; head = t.head; live = t.live } in
    link_sound t t' c.args.a c.args.b c.requires.shaped c.requires.first c.requires.second (settled_made t.cells.items c.args.a c.requires.first) (settled_made t.cells.items c.args.b c.requires.second) c.requires.first_empty c.requires.second_empty refl refl refl refl
