use Rattle.line_server.proofs.Streams.{one_output, fronts_begin_outputs, fronts_begin_what_is_within, outputs_due, interleavings_have_one_answer}
use Rattle.line_server.proofs.laws.outputs.Goals as goal

pub returns-clause-one : goal.returns-clause-one
returns-clause-one c = one_output c.spelling.ensures.one c.spelling.ensures.decided

pub returns-clause-begins : goal.returns-clause-begins
returns-clause-begins c = fronts_begin_outputs c.spelling.ensures.one

pub returns-clause-begins_within : goal.returns-clause-begins_within
returns-clause-begins_within c = fronts_begin_what_is_within c.spelling.ensures.one

pub returns-clause-due : goal.returns-clause-due
returns-clause-due c = outputs_due

pub returns-clause-interleavings : goal.returns-clause-interleavings
returns-clause-interleavings c = interleavings_have_one_answer c.spelling.ensures.one
