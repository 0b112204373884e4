use Rattle.command_text.proofs.Begins.{begins_more, begins_on, on_err}
use Rattle.command_text.proofs.reply.append_place.Goals as goal

pub returns-in_err-append_number-clause-kept : goal.returns-in_err-append_number-clause-kept
returns-in_err-append_number-clause-kept c =
    let begun = begins_more _ _ _ c.in_ok-extend_from_slice.ensures.items in
    let named = begins_on _ _ _ (begins_more _ _ _ c.in_ok-write_name.ensures.written) begun in
    on_err _ (begins_on _ _ _ c.in_err-append_number.ensures.kept named)

pub returns-in_err-append_number-2-clause-kept : goal.returns-in_err-append_number-2-clause-kept
returns-in_err-append_number-2-clause-kept c =
    let begun = begins_more _ _ _ c.in_ok-extend_from_slice.ensures.items in
    let named = begins_on _ _ _ (begins_more _ _ _ c.in_ok-write_name.ensures.written) begun in
    let faced = begins_on _ _ _ (begins_more _ _ _ c.in_ok-append_number.ensures.written) named in
    on_err _ (begins_on _ _ _ c.in_err-append_number-2.ensures.kept faced)
