-- Each reply that is due has one text.
use Rattle.std.proofs.Common.{◌≡◌, ℕ, ◌<◌, List, ◌++◌, length, refl, sym, ap, ◌∙◌}
use Rattle.tile_model.specs.Tessellations.{TileKind}
use Rattle.tile_model.specs.Validity.{IsValid}
use Rattle.tree_model.specs.Automata.{TreeAutomaton}
use Rattle.tree_model.specs.Conditions.{IsAccepted}
use Rattle.tree_model.specs.Names.{IsRing}
use Rattle.tree_model.proofs.Rings.{one_ring}
use Rattle.reply_model.specs.declared.Command.{Command}
use Rattle.reply_model.specs.declared.Reply.{Reply}
use Rattle.reply_model.specs.declared.Reply.TheVariants.{Tiles}
use Rattle.reply_model.specs.Histories.{History}
use Rattle.reply_model.specs.TreeReadings.{tree_reading}
use Rattle.reply_model.specs.WalkReadings.{IsWalkReply}
use Rattle.reply_model.specs.Replies.{IsReply, ring_told}
use Rattle.reply_laws.proofs.Together.{replies_agree}
use Rattle.command_text.specs.Replies.{reply_text}
use Rattle.line_server.specs.Answering.{name_lines, IsReplyText}

module _ (kinds : List TileKind) (a : TreeAutomaton) (k : ℕ) where
  -- a reply has one text
  pub one_text :
      (x : Reply) (bytes others : List ℕ) → IsReplyText kinds a k x bytes →
      IsReplyText kinds a k x others → bytes ≡ others
  one_text (Tiles d size) bytes others said also =
      let same = one_ring kinds a k d said.names also.names said.ring also.ring in
      said.all ∙ ap (λ names. reply_text (Tiles d size) ++ name_lines names) same ∙ sym also.all
  one_text _ bytes others said also = said ∙ sym also

  -- the text of a reply that lists a ring
  told_ring :
      (d size : ℕ) (names : List (List ℕ)) → IsRing kinds a k d names → length names ≡ size →
      (bytes : List ℕ) × IsReplyText kinds a k (Tiles d size) bytes
  told_ring d size names ring count = (
    reply_text (Tiles d size) ++ name_lines names,
    record { names = names; ring = ring; count = count; all = refl },
  )

  -- a reply that is due has a text
  some_text :
      (h : History) {c : Command} {x : Reply} → IsReply kinds k (tree_reading kinds a k) h c x →
      (bytes : List ℕ) × IsReplyText kinds a k x bytes
  some_text h (ring_told d n le c few) = told_ring d n c.away.names c.away.ring c.away.count
  some_text h {c} {x} _ = (reply_text x, refl)

  -- as many names follow as the reply says
  counted :
      (h : History) (c : Command) (d n : ℕ) (names : List (List ℕ)) → IsRing kinds a k d names →
      IsReply kinds k (tree_reading kinds a k) h c (Tiles d n) → length names ≡ n
  counted h c d n names ring (ring_told _ _ le told few) =
      ap length (one_ring kinds a k d names told.away.names ring told.away.ring) ∙ told.away.count

  module _ (valid : IsValid kinds) (ok : IsAccepted kinds a) (known : k < length kinds) where
    pub some_text_over_walks :
        (h : History) (c : Command) (x : Reply) → IsWalkReply kinds a k h c x →
        (bytes : List ℕ) × IsReplyText kinds a k x bytes
    some_text_over_walks h c x d =
        some_text h ((replies_agree kinds a k valid ok known h c x).1 d)

    pub ring_text :
        (h : History) (c : Command) (d n : ℕ) (names : List (List ℕ)) → IsRing kinds a k d names →
        IsWalkReply kinds a k h c (Tiles d n) →
        IsReplyText kinds a k (Tiles d n) (reply_text (Tiles d n) ++ name_lines names)
    ring_text h c d n names ring due =
        let tree = (replies_agree kinds a k valid ok known h c (Tiles d n)).1 due in
        record { names = names; ring = ring; count = counted h c d n names ring tree; all = refl }
