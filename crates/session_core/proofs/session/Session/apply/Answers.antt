use Rattle.session_core.proofs.Going.{same_answer, same_command}
use Rattle.session_core.proofs.session.Session.apply.Goals as goal

pub returns-in-New-clause-answered : goal.returns-in-New-clause-answered
returns-in-New-clause-answered c = same_answer _ _ _ _ _ c.in-New.is c.new_walker.ensures.answered

pub returns-in-Go-clause-answered : goal.returns-in-Go-clause-answered
returns-in-Go-clause-answered c = same_answer _ _ _ _ _ c.in-Go.is c.go.ensures.answered

pub returns-in-At-clause-answered : goal.returns-in-At-clause-answered
returns-in-At-clause-answered c = same_answer _ _ _ _ _ c.in-At.is c.at.ensures

pub returns-in-Same-clause-answered : goal.returns-in-Same-clause-answered
returns-in-Same-clause-answered c = same_command _ _ _ _ _ c.in-Same.is c.same.ensures

pub returns-in-Level-clause-answered : goal.returns-in-Level-clause-answered
returns-in-Level-clause-answered c = same_command _ _ _ _ _ c.in-Level.is c.level.ensures

pub returns-in-Dist-clause-answered : goal.returns-in-Dist-clause-answered
returns-in-Dist-clause-answered c = same_answer _ _ _ _ _ c.in-Dist.is c.distance.ensures

pub returns-in-Path-clause-answered : goal.returns-in-Path-clause-answered
returns-in-Path-clause-answered c = same_answer _ _ _ _ _ c.in-Path.is c.path.ensures

pub returns-in-Put-clause-answered : goal.returns-in-Put-clause-answered
returns-in-Put-clause-answered c = same_answer _ _ _ _ _ c.in-Put.is c.put.ensures.answered

pub returns-in-Get-clause-answered : goal.returns-in-Get-clause-answered
returns-in-Get-clause-answered c = same_answer _ _ _ _ _ c.in-Get.is c.get.ensures

pub returns-in-Ring-clause-answered : goal.returns-in-Ring-clause-answered
returns-in-Ring-clause-answered c = same_answer _ _ _ _ _ c.in-Ring.is c.ring.ensures.answered

pub returns-in-Count-clause-answered : goal.returns-in-Count-clause-answered
returns-in-Count-clause-answered c = same_answer _ _ _ _ _ c.in-Count.is c.count.ensures.answered
