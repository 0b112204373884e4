-- From what a session did with a stream to how the stream ended.
use Rattle.std.proofs.Common.{◌≡◌, ℕ, ◌≤◌, ◌<◌, Bool, IsTrue, List, [], length, refl, sym, ◌∙◌, subst, arith}
use Rattle.std.proofs.lemmas.List.{append-nil}
use Rattle.std.proofs.lemmas.List.Elements.{All-nil}
use Rattle.structure_check.specs.Rules.{TreeRules}
use Rattle.line_server.specs.Answering.{Answering, over_walks}
use Rattle.session_core.specs.Sessions.{SessionState, StandsForWalks}
use Rattle.line_server.specs.Lines.{feed, LacksFeed, most_of_stream}
use Rattle.reply_model.specs.Histories.{History}
use Rattle.line_server.specs.Outputs.{of_lines, none}
use Rattle.line_server.specs.Sessions.{Continues, answering_of}
use Rattle.line_server.specs.Endings.{IsServed, IsCutOff, IsOverrun, IsBegun}
use Rattle.walker_run.specs.declared.status.Status.{Status}
use Rattle.walker_run.specs.declared.status.Status.TheVariants.{Done, ReadFault, WriteFault, Memory}
use Rattle.walker_run.specs.declared.line.Line.TheVariants.{InputTooLong as TooLong}
use Rattle.walker_run.specs.Serving.{OutputStands, LinesStand, StandsUpTo, of_output, of_refusal}
use Rattle.walker_run.specs.Ending.{SaysLine, said, unsaid, unwritten, EndsStream, answered, cut_off, over_limit, broken_off, out_of_memory}

-- what holds of the replies that are due to a session holds of those over its rules
pub over_rules : (P : Answering → Type 0) (s : SessionState) (r : TreeRules) (k : ℕ) → s.rules ≡ r → s.kind ≡ k → P (answering_of s) → P (over_walks r.kinds r.automaton k)
over_rules P s r k rules kind holds = subst (λ (q : TreeRules). P (over_walks q.kinds q.automaton k)) rules (subst (λ (n : ℕ). P (over_walks s.rules.kinds s.rules.automaton n)) kind holds)

-- where nothing was appended, the beginning of the output was
pub nothing_begun : (answering : Answering) (left taken taken' : List ℕ) → taken' ≡ taken → IsBegun answering [] left taken taken'
nothing_begun answering left taken taken' same = record {
  out = [];
  output = of_lines [] left [] [] refl (omega arith) (record { lines = []; rest = []; cut = record { split = refl; whole = All-nil LacksFeed; open_end = All-nil (λ byte. byte ≡ feed → ⊥) }; answers = none [] });
  written = record { rest = []; sent = record { sent = []; split = refl; appended = same ∙ sym (append-nil taken) } };
}

pub output_stands : (s new : SessionState) (left left' taken taken' : List ℕ) → StandsForWalks s [] → Continues s new (λ before after. IsServed (answering_of s) before left left' taken taken' after) → OutputStands (answering_of s) left left' taken taken'
output_stands s new left left' taken taken' stands goes = let found = goes.stands [] stands in record { after = found.0; served = found.1 }

pub lines_stand : (s new : SessionState) (left left' taken taken' : List ℕ) → StandsForWalks s [] → Continues s new (λ before after. IsCutOff (answering_of s) before left left' taken taken' after) → LinesStand (answering_of s) left left' taken taken'
lines_stand s new left left' taken taken' stands goes = let found = goes.stands [] stands in record { after = found.0; cut = found.1 }

pub stands_up_to : (s new : SessionState) (left taken taken' : List ℕ) → StandsForWalks s [] → Continues s new (λ before after. IsOverrun (answering_of s) before left taken taken' after) → StandsUpTo (answering_of s) left taken taken'
stands_up_to s new left taken taken' stands goes = let found = goes.stands [] stands in record { after = found.0; overrun = found.1 }

-- the rows of a stream by the endings of the work on it
module _ (gives takes : Bool) (s new : SessionState) (r : TreeRules) (k : ℕ) (left left' taken taken' : List ℕ) (rules : s.rules ≡ r) (kind : s.kind ≡ k) (stands : StandsForWalks s []) where
  pub done_ends : (IsTrue gives → (left' ≡ []) × (length left ≤ most_of_stream)) → (IsTrue gives → IsTrue takes → Continues s new (λ before after. IsServed (answering_of s) before left left' taken taken' after)) → EndsStream gives takes (over_walks r.kinds r.automaton k) left left' taken taken' Done
  done_ends ended goes = over_rules (λ (answering : Answering). EndsStream gives takes answering left left' taken taken' Done) s r k rules kind
      (answered refl (λ told. (ended told).1) (λ told takes_told. output_stands s new left left' taken taken' stands (goes told takes_told)))

  pub unread_ends : (IsTrue gives → IsTrue takes → Continues s new (λ before after. IsCutOff (answering_of s) before left left' taken taken' after)) → EndsStream gives takes (over_walks r.kinds r.automaton k) left left' taken taken' ReadFault
  unread_ends goes = over_rules (λ (answering : Answering). EndsStream gives takes answering left left' taken taken' ReadFault) s r k rules kind
      (cut_off refl (λ told takes_told. lines_stand s new left left' taken taken' stands (goes told takes_told)))

  pub unwritten_ends : (IsTrue gives → IsTrue takes → (before : History) → StandsForWalks s before → IsBegun (answering_of s) before left taken taken') → EndsStream gives takes (over_walks r.kinds r.automaton k) left left' taken taken' WriteFault
  unwritten_ends begun = over_rules (λ (answering : Answering). EndsStream gives takes answering left left' taken taken' WriteFault) s r k rules kind
      (broken_off refl (λ told takes_told. of_output (begun told takes_told [] stands)))

  pub memory_ends : (IsTrue gives → IsTrue takes → (before : History) → StandsForWalks s before → IsBegun (answering_of s) before left taken taken') → EndsStream gives takes (over_walks r.kinds r.automaton k) left left' taken taken' Memory
  memory_ends begun = over_rules (λ (answering : Answering). EndsStream gives takes answering left left' taken taken' Memory) s r k rules kind
      (out_of_memory refl (λ told takes_told. begun told takes_told [] stands))

  -- `between` stands before the line of the status is written
  pub over_ends : (between : List ℕ) (status : Status) → SaysLine takes TooLong between taken' status → (IsTrue gives → most_of_stream < length left) → (IsTrue gives → IsTrue takes → Continues s new (λ before after. IsOverrun (answering_of s) before left taken between after)) → (IsTrue gives → IsTrue takes → (before : History) → StandsForWalks s before → IsBegun (answering_of s) before left taken between) → EndsStream gives takes (over_walks r.kinds r.automaton k) left left' taken taken' status
  over_ends between status (said is wrote) over goes begun = over_rules (λ (answering : Answering). EndsStream gives takes answering left left' taken taken' status) s r k rules kind
      (over_limit is over (λ told takes_told. record { between = between; lines = stands_up_to s new left taken between stands (goes told takes_told); line = wrote takes_told }))
  over_ends between status (unwritten is part) over goes begun = over_rules (λ (answering : Answering). EndsStream gives takes answering left left' taken taken' status) s r k rules kind
      (broken_off is (λ told takes_told. of_refusal between (stands_up_to s new left taken between stands (goes told takes_told)) (part takes_told)))
  over_ends between status (unsaid is same) over goes begun = over_rules (λ (answering : Answering). EndsStream gives takes answering left left' taken taken' status) s r k rules kind
      (out_of_memory is (λ told takes_told. subst (λ (l : List ℕ). IsBegun (answering_of s) [] left taken l) (sym (same takes_told)) (begun told takes_told [] stands)))
