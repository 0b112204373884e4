use Rattle.std.proofs.Common.{[], ◌++◌, drop, refl, sym, ap, arith}
use Rattle.cell_names.specs.Text.{name_text}
use Rattle.command_text.specs.Replies.{line_feed}
use Rattle.ring_listing.specs.Rings.{Listing}
use Rattle.line_server.specs.Answering.{name_lines}
use Rattle.line_server.proofs.Answering.{on_err}
use Rattle.line_server.proofs.Naming.{names_on, passes_line, breaks_line}
use Rattle.line_server.proofs.Saying.{says_none, says_then, breaks_then, breaks_more, breaks_same, breaks_at_once}
use Rattle.line_server.proofs.writing.pass_names.Goals as goal

pub loop-name-init : goal.loop-name-init
loop-name-init g c = record { said = ([], refl, says_none _ _ _); later = omega arith }

pub loop-name-preserved : goal.loop-name-preserved
loop-name-preserved g c =
    let so_far = c.loop-name.invariant.said in
    let name = name_text c.in-Some.name.now in
    let tail = drop 1 c.loop-name.ring.rest in
    record {
      said = (
        so_far.0 ++ (name ++ line_feed),
        names_on so_far.0 c.args.ring.now.rest c.loop-name.ring.rest c.in-Some.name.now tail so_far.1
            c.in-Some.ensures.gives c.step.follows.lender-at-none.rest
            (ap (λ (r : Listing). r.rest) c.step.follows.holds-at-none),
        says_then _ _ _ _ _ _ _ _ _ so_far.2
            (passes_line _ _ _ _ _ name line_feed _ c.in_ok-write_name.ensures.written
            c.in_ok-extend_from_slice.ensures.items _ c.in_ok-write_if_full.ensures.said),
      );
      later = omega (arith, c.loop-name.invariant.later, c.in_ok-write_if_full.ensures.later);
    }

pub returns-in_err-write_name-clause-broken : goal.returns-in_err-write_name-clause-broken
returns-in_err-write_name-clause-broken g c =
    let so_far = c.loop-name.invariant.said in
    on_err _
    (breaks_same _ _ _ _ _ _ (sym so_far.1)
    (breaks_then _ _ _ _ _ _ _ _ so_far.2 (breaks_at_once _ _ _ (name_lines c.loop-name.ring.rest))))

pub returns-in_err-extend_from_slice-clause-broken :
    goal.returns-in_err-extend_from_slice-clause-broken
returns-in_err-extend_from_slice-clause-broken g c =
    let so_far = c.loop-name.invariant.said in
    on_err _
    (breaks_same _ _ _ _ _ _ (sym so_far.1)
    (breaks_then _ _ _ _ _ _ _ _ so_far.2 (breaks_at_once _ _ _ (name_lines c.loop-name.ring.rest))))

pub returns-in_err-write_if_full-clause-broken : goal.returns-in_err-write_if_full-clause-broken
returns-in_err-write_if_full-clause-broken g c =
    let so_far = c.loop-name.invariant.said in
    let name = name_text c.in-Some.name.now in
    let tail = drop 1 c.loop-name.ring.rest in
    let all =
    names_on so_far.0 c.args.ring.now.rest c.loop-name.ring.rest c.in-Some.name.now tail so_far.1
    c.in-Some.ensures.gives tail refl in
    on_err _
    (breaks_same _ _ _ _ _ _ (sym all)
    (breaks_more _ _ _ _ (name_lines tail) _
    (breaks_then _ _ _ _ _ _ _ _ so_far.2
    (breaks_line _ _ _ _ _ name line_feed _ c.in_ok-write_name.ensures.written
    c.in_ok-extend_from_slice.ensures.items c.in_err-write_if_full.ensures.broken))))
