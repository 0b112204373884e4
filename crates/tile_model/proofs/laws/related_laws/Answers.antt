use Rattle.tile_model.proofs.Relations.{related_same, related_back, related_on, related_behind, related_before, related_type}
use Rattle.tile_model.proofs.Inverses.{related_cancel}
use Rattle.tile_model.proofs.laws.related_laws.Goals as goal

pub returns-clause-equivalence : goal.returns-clause-equivalence
returns-clause-equivalence c = λ kinds d. record { same = related_same kinds; back = λ u w r. related_back kinds r; on = λ u v w r s. related_on kinds r s }

pub returns-clause-behind : goal.returns-clause-behind
returns-clause-behind c = λ kinds d u w z r. related_behind kinds z r

pub returns-clause-before : goal.returns-clause-before
returns-clause-before c = λ kinds d u w z r. related_before kinds z r

pub returns-clause-cancels : goal.returns-clause-cancels
returns-clause-cancels c = λ kinds valid d u w z r. related_cancel kinds valid d z r

pub returns-clause-one_type : goal.returns-clause-one_type
returns-clause-one_type c = λ kinds valid d u w r. related_type kinds valid d r
