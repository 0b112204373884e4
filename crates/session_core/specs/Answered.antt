-- What it means that a session has answered a command.
use Rattle.std.specs.Prelude.{◌≡◌, [], ◌∷◌, ◌++◌, Option, None, Some}
use Rattle.ring_listing.specs.declared.fault.CountFault.{CountFault}
use Rattle.ring_listing.specs.declared.fault.CountFault.TheVariants.{Far as TooFar, TooBig as OneTooBig, Memory}
use Rattle.reply_model.specs.declared.Command.{Command}
use Rattle.reply_model.specs.declared.Reply.{Reply}
use Rattle.reply_model.specs.declared.Command.TheVariants.{New, Go, Put}
use Rattle.reply_model.specs.declared.Reply.TheVariants.{Far, TooBig}
use Rattle.reply_model.specs.declared.Reply.TheVariants.{Done, Taken, NoWalker, Deep, Long}
use Rattle.reply_model.specs.Histories.{History}
use Rattle.session_core.specs.Sessions.{SessionState, StandsFor, IsDueOverTree}

-- the history, and behind it the command with its reply
abbrev pub extended : History → Command → Reply → History
extended history c x = history ++ (c, x) ∷ []

-- The session has answered the command by the reply.
-- The reply is the one that is due after each history for which the session stood.
-- Now the session stands for that history with the command and the reply behind it.
pub record HasAnswered (old : SessionState) (c : Command) (x : Reply) (new : SessionState) : Type 0
  where
    pub due : (history : History) → StandsFor old history → IsDueOverTree old history c x
    pub stands : (history : History) → StandsFor old history → StandsFor new (extended history c x)
    pub rules : new.rules ≡ old.rules
    pub kind : new.kind ≡ old.kind

-- the commands that ask: all but those that make and move walkers and write texts
abbrev pub Asks : Command → Type 0
Asks (New w) = ⊥
Asks (Go w walk) = ⊥
Asks (Put w text) = ⊥
Asks _ = Unit {0}

-- the replies to the other commands: each of them is a word or two
abbrev pub IsBrief : Reply → Type 0
IsBrief Done = Unit {0}
IsBrief Taken = Unit {0}
IsBrief NoWalker = Unit {0}
IsBrief Deep = Unit {0}
IsBrief Long = Unit {0}
IsBrief _ = ⊥

-- the reply that says why a ring is not counted, but for want of memory
abbrev pub refusal_of : CountFault → Option Reply
refusal_of TooFar = Some Far
refusal_of (OneTooBig r) = Some (TooBig r)
refusal_of Memory = None
