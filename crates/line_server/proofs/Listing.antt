-- The texts of the replies of a session.
use Rattle.std.proofs.Common.{◌≡◌, ℕ, List, ◌++◌, length, ◌<◌, refl, sym, subst}
use Rattle.std.proofs.lemmas.List.{append-nil}
use Rattle.tree_model.specs.Names.{IsRing}
use Rattle.structure_check.specs.Rules.{TreeRules, AreSound}
use Rattle.reply_model.specs.declared.Command.{Command}
use Rattle.reply_model.specs.declared.Reply.{Reply}
use Rattle.reply_model.specs.declared.Reply.TheVariants.{Tiles}
use Rattle.reply_model.specs.Histories.{History}
use Rattle.command_text.specs.Replies.{reply_text}
use Rattle.session_core.specs.Sessions.{SessionState, IsSession, IsDueOverWalks}
use Rattle.line_server.specs.Answering.{name_lines, AreBehind, listed, not_listed}
use Rattle.line_server.specs.Sessions.{answering_of}
use Rattle.line_server.proofs.ReplyTexts.{ring_text}

-- the text of a reply that lists no ring is its line
plain_text :
    (s : SessionState) (x : Reply) → ((d n : ℕ) → x ≡ Tiles d n → ⊥) →
    (answering_of s).HasText x (reply_text x)
plain_text s (Tiles d n) other = absurd (other d n refl)
plain_text s _ other = refl

-- A session that has the rules and the kind of one before it gives the names that follow a reply.
-- Then the reply's line and these names are its text.
module _
    (s t : SessionState) (rules : t.rules ≡ s.rules) (kind : t.kind ≡ s.kind) (h : History)
    (c : Command)
  where
    sound : IsSession t → AreSound s.rules
    sound is = subst AreSound rules is.sound

    known : IsSession t → s.kind < length s.rules.kinds
    known is =
        subst (λ k. k < length s.rules.kinds) kind
        (subst (λ (r : TreeRules). t.kind < length r.kinds) rules is.known)

    same_ring :
        (d : ℕ) (names : List (List ℕ)) → IsRing t.rules.kinds t.rules.automaton t.kind d names →
        IsRing s.rules.kinds s.rules.automaton s.kind d names
    same_ring d names ring =
        subst (λ k. IsRing s.rules.kinds s.rules.automaton k d names) kind
        (subst (λ (r : TreeRules). IsRing r.kinds r.automaton t.kind d names) rules ring)

    pub text_said :
        {x : Reply} {names : List (List ℕ)} → AreBehind t x names → IsDueOverWalks s h c x →
        (answering_of s).HasText x (reply_text x ++ name_lines names)
    text_said (listed d size names is ring) due =
        ring_text s.rules.kinds s.rules.automaton s.kind (sound is).valid (sound is).accepted
        (known is) h c d size names (same_ring d names ring) due
    text_said (not_listed x other) due =
        subst ((answering_of s).HasText x) (sym (append-nil (reply_text x))) (plain_text s x other)
