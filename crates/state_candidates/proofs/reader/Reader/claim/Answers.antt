-- A dart is one of a cell that was made.
use Rattle.std.proofs.Common.{subst}
use Rattle.state_candidates.specs.Readers.{IsReaderWith}
use Rattle.state_candidates.proofs.reader.Reader.claim.Goals as goal

pub corner_number-requires : goal.corner_number-requires
corner_number-requires c =
    let ok : IsReaderWith c.args.self.now c.self.inside.starts.items = subst (λ v. IsReaderWith v c.self.inside.starts.items) c.self.view_is c.self.invariant in
    ok.reader.table.live_made c.args.d.0 c.requires.live
