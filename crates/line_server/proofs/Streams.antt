-- The laws of outputs, of the answers over walks and over the tree.
use Rattle.tree_laws.specs.Laws.{OfEachTree}
use Rattle.reply_laws.proofs.Together.{replies_agree, one_reply_over_walks, interleavings_over_walks}
use Rattle.command_text.specs.Laws.{LinesSpellOne, LinesAreDecided}
use Rattle.line_server.specs.Answering.{over_walks, over_tree}
use Rattle.line_server.specs.Laws.{OutputsAreOne, FrontsBeginOutputs, FrontsBeginWhatIsWithin, OutputsLeadToDue, InterleavingsHaveOneAnswer, OutputsAgree}
use Rattle.line_server.proofs.SameOutput.{output_again}
use Rattle.line_server.proofs.SomeOutput.{some_output}
use Rattle.line_server.proofs.OneOutput.{outputs_are_one, fronts_begin, fronts_begin_within}
use Rattle.line_server.proofs.Due.{outputs_lead_to_due}
use Rattle.line_server.proofs.Interleaving.{streams_interleave}
use Rattle.line_server.proofs.ReplyTexts.{one_text, some_text_over_walks}

pub outputs_agree : OfEachTree OutputsAgree
outputs_agree kinds a k valid ok known before bytes out after =
    let agree = replies_agree kinds a k valid ok known in (
      output_again (over_walks kinds a k) (over_tree kinds a k) (λ h c x. (agree h c x).1)
          (λ x t said. said) before bytes out after,
      output_again (over_tree kinds a k) (over_walks kinds a k) (λ h c x. (agree h c x).0)
          (λ x t said. said) before bytes out after,
    )

module _ (spelling : LinesSpellOne) where
  pub one_output : LinesAreDecided → OfEachTree OutputsAreOne
  one_output decided kinds a k valid ok known =
      let replies = one_reply_over_walks kinds a k valid ok known in
      record {
        some = some_output (over_walks kinds a k) decided replies.some
            (some_text_over_walks kinds a k valid ok known);
        one = outputs_are_one (over_walks kinds a k) spelling replies.one (one_text kinds a k);
      }

  pub fronts_begin_outputs : OfEachTree FrontsBeginOutputs
  fronts_begin_outputs kinds a k valid ok known =
      fronts_begin (over_walks kinds a k) spelling
      (one_reply_over_walks kinds a k valid ok known).one (one_text kinds a k)

  pub fronts_begin_what_is_within : OfEachTree FrontsBeginWhatIsWithin
  fronts_begin_what_is_within kinds a k valid ok known =
      fronts_begin_within (over_walks kinds a k) spelling
      (one_reply_over_walks kinds a k valid ok known).one (one_text kinds a k)

  pub interleavings_have_one_answer : OfEachTree InterleavingsHaveOneAnswer
  interleavings_have_one_answer kinds a k valid ok known =
      streams_interleave (over_walks kinds a k) spelling
      (one_reply_over_walks kinds a k valid ok known).one (one_text kinds a k)
      (interleavings_over_walks kinds a k valid ok known)

pub outputs_due : OfEachTree OutputsLeadToDue
outputs_due kinds a k valid ok known = outputs_lead_to_due (over_walks kinds a k)
