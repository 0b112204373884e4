-- The laws, put together.
use Rattle.tree_model.specs.Positions.{Position, IsPosition, turn_left, hop, mark}
use Rattle.tree_laws.specs.Laws.{OfEachTree}
use Rattle.tree_laws.proofs.TreePlane.{tree_land, plane}
use Rattle.log_laws.specs.Logs.{tree_words}
use Rattle.log_laws.specs.Laws.{ChangesAreFunctions, CrossingsAreLogged, ContoursWriteLogs}
use Rattle.log_laws.proofs.Changes.{one_change}
use Rattle.log_laws.proofs.Written.{match_leads}
use Rattle.log_laws.proofs.Moving.{written_match}
use Rattle.log_laws.proofs.TreeWords.{written}

pub changes_are_functions : ChangesAreFunctions
changes_are_functions kinds d c u v w r s = one_change kinds d r s

pub crossings_are_logged : OfEachTree CrossingsAreLogged
crossings_are_logged kinds a k valid ok known x y h m rest =
    match_leads Position (IsPosition kinds a k) (tree_land kinds a k) (plane kinds a k valid ok known) kinds (k, 0) (tree_words kinds a k) (written kinds a k valid ok known) h m rest

pub contours_write_logs : OfEachTree ContoursWriteLogs
contours_write_logs kinds a k valid ok known x y m most n r f h =
    written_match Position (turn_left kinds a k) (hop kinds a k) (mark kinds a k) (tree_words kinds a k) m most n r f h
