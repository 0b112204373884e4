-- The laws of replies, put together.
use Rattle.tree_laws.specs.Laws.{OfEachTree}
use Rattle.reply_model.specs.WalkReadings.{walk_reading, IsWalkReply}
use Rattle.reply_model.specs.TreeReadings.{tree_reading, IsTreeReply}
use Rattle.reply_laws.specs.Laws.{HaveOneReply, InterleavingsAgree, ReadingsAgree, RepliesAgree, AnswersTellTiles, AnswersTellRelated, RingsListTiles}
use Rattle.reply_laws.proofs.Definite.{have_one_reply}
use Rattle.reply_laws.proofs.Between as between
use Rattle.reply_laws.proofs.BothReadings as both
use Rattle.reply_laws.proofs.Names as names

pub answers_tell_tiles : OfEachTree AnswersTellTiles
answers_tell_tiles = names.answers_tell_tiles

pub answers_tell_related : OfEachTree AnswersTellRelated
answers_tell_related = names.answers_tell_related

pub rings_list_tiles : OfEachTree RingsListTiles
rings_list_tiles = names.rings_list_tiles

pub readings_agree : OfEachTree ReadingsAgree
readings_agree kinds a k valid ok known = both.readings_agree kinds a valid ok k known

pub replies_agree : OfEachTree RepliesAgree
replies_agree kinds a k valid ok known = both.replies_agree kinds a valid ok k known

pub one_reply_over_walks : OfEachTree (λ kinds a k. HaveOneReply (IsWalkReply kinds a k))
one_reply_over_walks kinds a k valid ok known =
    have_one_reply kinds k (both.end_known kinds a valid ok k known) (walk_reading kinds a k)
    (both.walks_definite kinds a valid ok k known)

pub one_reply_over_tree : OfEachTree (λ kinds a k. HaveOneReply (IsTreeReply kinds a k))
one_reply_over_tree kinds a k valid ok known =
    have_one_reply kinds k (both.end_known kinds a valid ok k known) (tree_reading kinds a k)
    (both.tree_definite kinds a valid ok k known)

pub interleavings_over_walks : OfEachTree (λ kinds a k. InterleavingsAgree (IsWalkReply kinds a k))
interleavings_over_walks kinds a k valid ok known =
    between.interleavings_agree kinds k (both.end_known kinds a valid ok k known) (walk_reading kinds a k)
    (both.walks_definite kinds a valid ok k known)

pub interleavings_over_tree : OfEachTree (λ kinds a k. InterleavingsAgree (IsTreeReply kinds a k))
interleavings_over_tree kinds a k valid ok known =
    between.interleavings_agree kinds k (both.end_known kinds a valid ok k known) (tree_reading kinds a k)
    (both.tree_definite kinds a valid ok k known)
