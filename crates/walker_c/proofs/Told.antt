-- A line that a seat is told.
use Rattle.std.proofs.Common.{◌≡◌, ℕ, List, drop, sym, subst}
use Rattle.std.specs.Prelude.{Option, Some, Result, Ok, Err, OnOk}
use Rattle.structure_check.specs.Rules.{TreeRules}
use Rattle.session_core.specs.Sessions.{RestingState, session_over}
use Rattle.line_server.specs.Lines.{LacksFeed}
use Rattle.line_server.specs.Whole.{HasAnsweredWhole}
use Rattle.walker_c.specs.Seats.{SeatState, seat_of, IsLine, HasTold}

pub on_ok : {T E : Type 0} {P Q : Type 0} (r : Result T E) → (P → Q) → OnOk r P → OnOk r Q
on_ok (Ok x) f p = f p
on_ok (Err e) f p = p

module _
    (rules : TreeRules) (o : Option RestingState) (resting : RestingState) (bytes : List ℕ)
    (given : ℕ) (old : SeatState) (seat : seat_of rules o bytes given ≡ old) (rests : o ≡ Some resting)
  where
    -- The session answered the line, and the seat is as it is then.
    pub told :
        (handed line between bytes' : List ℕ) (resting' : RestingState) (given' : ℕ)
        → between ≡ drop given bytes → given' ≡ 0 → IsLine handed line → LacksFeed line
        → HasAnsweredWhole (session_over rules resting) line between (session_over rules resting')
        bytes'
        → HasTold old handed (seat_of rules (Some resting') bytes' given')
    told handed line between bytes' resting' given' waits none is whole answered =
        let new : ℕ → SeatState = λ n. seat_of rules (Some resting') bytes' n in
        let now : HasTold (seat_of rules (Some resting) bytes given) handed (new 0) =
        record {
          line = line;
          is_line = is;
          whole = whole;
          answered =
              subst
              (λ l. HasAnsweredWhole (session_over rules resting) line l (session_over rules resting') bytes')
              waits answered;
        } in
        subst (λ s. HasTold s handed (new given')) seat
        (subst (λ n. HasTold (seat_of rules o bytes given) handed (new n)) (sym none)
        (subst (λ p. HasTold (seat_of rules p bytes given) handed (new 0)) (sym rests) now))
