use Rattle.std.proofs.Common.{◌∙◌, ap}
use Rattle.log_checker.specs.Footprints.{letters}
use Rattle.log_checker.specs.Trails.{joined}
use Rattle.log_checker.proofs.LetterTypes.{is_typed, letters_typed}
use Rattle.log_checker.proofs.checking.Trail.new.Goals as goal

pub returns-clause-typed : goal.returns-clause-typed
returns-clause-typed c =
    is_typed c.args.t.now c.args.from c.args.u.now (joined c.in_ok-pieces.pieces.items) (c.in_ok-pieces.ensures.joined ∙ c.deref.ensures.value ∙ c.in_ok-footprints.ensures)

pub returns-clause-walk : goal.returns-clause-walk
returns-clause-walk c =
    ap letters (c.in_ok-pieces.ensures.joined ∙ c.deref.ensures.value ∙ c.in_ok-footprints.ensures) ∙ letters_typed c.args.t.now c.args.from c.args.u.now
