-- What walks say of the output, the tree of the rules says too.
use Rattle.std.proofs.Common.{ℕ, List, []}
use Rattle.tile_model.specs.Tessellations.{TileKind}
use Rattle.tree_model.specs.Automata.{TreeAutomaton}
use Rattle.tree_model.specs.Conditions.{IsAccepted}
use Rattle.tree_laws.specs.Laws.{OfEachTree}
use Rattle.line_server.specs.Answering.{over_walks, over_tree}
use Rattle.line_server.specs.Laws.{OutputsAgree}
use Rattle.walker_run.specs.Runs.{Call}
use Rattle.walker_run.specs.Due.{Serves}
use Rattle.walker_run.specs.Serving.{OutputStands}

pub stands_over_tree : OfEachTree OutputsAgree
    → (call : Call) (kinds : List TileKind) (a : TreeAutomaton) (k : ℕ)
    → (left left' taken taken' : List ℕ)
    → Serves call kinds a k
    → IsAccepted kinds a
    → OutputStands (over_walks kinds a k) left left' taken taken'
    → OutputStands (over_tree kinds a k) left left' taken taken'
stands_over_tree agree call kinds a k left left' taken taken' s accepted o = record {
  after = o.after;
  served = record {
    read = o.served.read;
    within = o.served.within;
    out = o.served.out;
    output = (agree kinds a k s.valid accepted s.is_kind [] left o.served.out o.after).0 o.served.output;
    written = o.served.written;
  };
}
