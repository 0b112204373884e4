use Rattle.std.proofs.Common.{◌≡◌, Err, ap, ◌∙◌, rules}
use Rattle.command_text.specs.declared.command.CommandFault.{CommandFault}
use Rattle.command_text.specs.declared.command.CommandFault.TheVariants.{Bad}
use Rattle.command_text.specs.declared.command.Verb.TheVariants.{New, Go, At, Same, Level, Dist, Path, Put, Get, Ring, Count}
use Rattle.command_text.proofs.Forms.{no_command}
use Rattle.command_text.proofs.command.read_told.Goals as goal

pub returns-in_err-read_walker-in-New-clause-bad : goal.returns-in_err-read_walker-in-New-clause-bad
returns-in_err-read_walker-in-New-clause-bad c = λ _.
    no_command c.args.verb New c.args.rest.now c.in-New.is c.in_err-read_walker-in-New.ensures.bad

pub returns-in_err-w-in-Go-clause-bad : goal.returns-in_err-w-in-Go-clause-bad
returns-in_err-w-in-Go-clause-bad c = λ is_bad.
    let bad : c.in_err-w-in-Go.field-0.0 ≡ Bad = search (rules, is_bad) in
    no_command c.args.verb Go c.args.rest.now c.in-Go.is
    (c.read_walker_and_walk.ensures.bad (c.in_err-w-in-Go.was ∙ ap (λ (f : CommandFault). Err f) bad))

pub returns-in_err-read_walker-in-At-clause-bad : goal.returns-in_err-read_walker-in-At-clause-bad
returns-in_err-read_walker-in-At-clause-bad c = λ _.
    no_command c.args.verb At c.args.rest.now c.in-At.is c.in_err-read_walker-in-At.ensures.bad

pub returns-in_err-w-in-Same-clause-bad : goal.returns-in_err-w-in-Same-clause-bad
returns-in_err-w-in-Same-clause-bad c = λ _.
    no_command c.args.verb Same c.args.rest.now c.in-Same.is c.in_err-w-in-Same.ensures.bad

pub returns-in_err-read_walker-in-Level-clause-bad : goal.returns-in_err-read_walker-in-Level-clause-bad
returns-in_err-read_walker-in-Level-clause-bad c = λ _.
    no_command c.args.verb Level c.args.rest.now c.in-Level.is c.in_err-read_walker-in-Level.ensures.bad

pub returns-in_err-w-in-Dist-clause-bad : goal.returns-in_err-w-in-Dist-clause-bad
returns-in_err-w-in-Dist-clause-bad c = λ _.
    no_command c.args.verb Dist c.args.rest.now c.in-Dist.is c.in_err-w-in-Dist.ensures.bad

pub returns-in_err-w-in-Path-clause-bad : goal.returns-in_err-w-in-Path-clause-bad
returns-in_err-w-in-Path-clause-bad c = λ _.
    no_command c.args.verb Path c.args.rest.now c.in-Path.is c.in_err-w-in-Path.ensures.bad

pub returns-in_err-w-in-Put-clause-bad : goal.returns-in_err-w-in-Put-clause-bad
returns-in_err-w-in-Put-clause-bad c = λ is_bad.
    let bad : c.in_err-w-in-Put.field-0.0 ≡ Bad = search (rules, is_bad) in
    no_command c.args.verb Put c.args.rest.now c.in-Put.is
    (c.read_walker_and_text.ensures.bad (c.in_err-w-in-Put.was ∙ ap (λ (f : CommandFault). Err f) bad))

pub returns-in_err-read_walker-in-Get-clause-bad : goal.returns-in_err-read_walker-in-Get-clause-bad
returns-in_err-read_walker-in-Get-clause-bad c = λ _.
    no_command c.args.verb Get c.args.rest.now c.in-Get.is c.in_err-read_walker-in-Get.ensures.bad

pub returns-in_err-read_distance-in-Ring-clause-bad : goal.returns-in_err-read_distance-in-Ring-clause-bad
returns-in_err-read_distance-in-Ring-clause-bad c = λ _.
    no_command c.args.verb Ring c.args.rest.now c.in-Ring.is c.in_err-read_distance-in-Ring.ensures.bad

pub returns-in_err-read_distance-in-Count-clause-bad : goal.returns-in_err-read_distance-in-Count-clause-bad
returns-in_err-read_distance-in-Count-clause-bad c = λ _.
    no_command c.args.verb Count c.args.rest.now c.in-Count.is c.in_err-read_distance-in-Count.ensures.bad
