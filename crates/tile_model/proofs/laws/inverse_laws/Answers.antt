use Rattle.tile_model.specs.Walks.{type_of}
use Rattle.tile_model.proofs.Inverses.{inverse_cancels, inverse_cancels_back, inverse_type, related_inverses, crossings_inverse}
use Rattle.tile_model.proofs.laws.inverse_laws.Goals as goal

pub returns-clause-cancels : goal.returns-clause-cancels
returns-clause-cancels c = inverse_cancels

pub returns-clause-cancels_back : goal.returns-clause-cancels_back
returns-clause-cancels_back c = λ kinds d w. inverse_cancels_back kinds (type_of kinds d w) w

pub returns-clause-leads_back : goal.returns-clause-leads_back
returns-clause-leads_back c = inverse_type

pub returns-clause-related : goal.returns-clause-related
returns-clause-related c = λ kinds valid d u w r. related_inverses kinds valid d r

pub returns-clause-crosses : goal.returns-clause-crosses
returns-clause-crosses c = crossings_inverse
